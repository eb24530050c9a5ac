-- What the functions of this crate put.
pub mod Line
