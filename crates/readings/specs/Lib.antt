-- What the functions of this crate owe, in terms of the definitions.
pub mod Line
pub mod Reading
