-- What the proofs of both functions cite.
mod Exchanging
