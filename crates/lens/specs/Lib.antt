-- What the functions of this crate answer, in terms of the definitions.
pub mod Reading
pub mod Emitting
pub mod Parsed
pub mod Nodes
pub mod SourceKeys
