-- What the proofs of this crate share with those of the writers.
pub mod Front
