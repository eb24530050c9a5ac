-- The definitions, tried on document 01's own cases, on both sides of its limits, on document 02's sets, and on its padded names.
pub mod Cases
pub mod Limits
pub mod Sets
pub mod Padded
