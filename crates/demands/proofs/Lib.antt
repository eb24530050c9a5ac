-- What the proofs of several functions cite, also those of the crates `chosen`, `afresh` and `exchange`.
pub mod Following
