-- What the proofs of several functions cite.
mod Outcomes
