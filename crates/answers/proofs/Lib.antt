-- What the proofs of several functions, here and in the crates of the calls, cite.
pub mod Verdicts
pub mod Giving
pub mod Texts
pub mod Parts
