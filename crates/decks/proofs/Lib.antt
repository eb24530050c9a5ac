-- What the proofs of this crate share.
mod Heads
mod Dealing
