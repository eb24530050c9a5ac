-- What the proofs of this crate share with those of `writer`.
pub mod Matching
pub mod Ready
