-- What the proofs share.
pub mod Bits
pub mod Walk
