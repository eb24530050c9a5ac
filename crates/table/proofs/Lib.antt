-- Laws that the proofs of several functions cite.
pub mod Trees
pub mod KindBytes
pub mod Runs
pub mod Decoding
pub mod Sorts
pub mod Measures
pub mod Turns
pub mod Rounds
