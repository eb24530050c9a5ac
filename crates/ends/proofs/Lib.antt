-- What the proofs of this crate's functions cite.
mod Backward
mod Forward
mod Smallest
