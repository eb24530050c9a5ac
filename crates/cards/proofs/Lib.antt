-- What the proofs of this crate share, and, of a key that was written behind the head of a card, those of `decks`.
mod Printing
pub mod Sealing
