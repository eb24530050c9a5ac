-- What the functions of this crate say of their results.
pub mod Graph
pub mod Pairs
pub mod Queue
pub mod Layers
pub mod Searches
