-- What the proofs of several functions cite.
mod Listed
mod Replying
