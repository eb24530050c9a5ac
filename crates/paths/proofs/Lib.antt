-- What the proofs of this crate's functions cite.
mod Keeping
mod Ending
