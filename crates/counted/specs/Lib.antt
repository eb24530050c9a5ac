-- What the functions of this crate are given and owe.
pub mod Counted
