-- What the proofs of several functions, here and in the crate of the questions, cite.
pub mod Cells
pub mod Spreads
