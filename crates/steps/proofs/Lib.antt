-- What the proofs of this crate share.
mod Answers
mod Choosing
mod Counting
