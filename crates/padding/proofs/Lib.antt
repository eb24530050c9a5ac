-- What the proofs of both functions cite.
pub mod Spaces
