-- What the proofs of several functions cite.
mod Parting
mod Gathering
