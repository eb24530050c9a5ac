-- What the proofs share, and the crates above cite.
pub mod Anys
pub mod Bytes
pub mod Runs
