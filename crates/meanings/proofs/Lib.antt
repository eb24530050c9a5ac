-- What the proofs of several functions cite.
mod Sentences
mod TextBytes
