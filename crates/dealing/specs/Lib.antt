-- What the functions of this crate are given, in terms of the definitions.
pub mod Books
pub mod Reaches
