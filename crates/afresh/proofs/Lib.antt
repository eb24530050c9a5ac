-- What the proofs of several functions cite.
mod Following
mod Counting
