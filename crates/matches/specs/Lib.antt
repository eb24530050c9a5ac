-- What the functions of this crate are given and owe, in terms of the definitions.
pub mod WithBook
