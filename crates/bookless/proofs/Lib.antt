-- What the proofs of this crate share.
mod Putting
mod Parts
