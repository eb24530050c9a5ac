-- What the proofs of this crate's functions cite.
pub mod Stepping
mod Steps
