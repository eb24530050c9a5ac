-- What the proofs share, and the crates above cite.
pub mod Slices
pub mod Queues
pub mod Layering
