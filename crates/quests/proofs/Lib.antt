-- What the proofs share, and the crates above cite.
pub mod Filling
pub mod Readings
pub mod Hunting
