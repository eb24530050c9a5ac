-- What the proofs share, and the crates above cite.
pub mod Writing
