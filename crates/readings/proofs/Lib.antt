-- What the proofs of several functions, here and in other crates, cite.
pub mod Lines
mod Texts
