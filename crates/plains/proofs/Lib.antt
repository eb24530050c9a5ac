-- What the proofs of this crate share with each other, and with those of the writers that have the book.
pub mod Behind
pub mod Unasked
pub mod Counting
pub mod ByKind
mod Plainly
pub mod Halves
pub mod Parts
pub mod Given
