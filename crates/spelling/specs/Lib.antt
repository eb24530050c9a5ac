-- What the functions of this crate say of their results.
pub mod Texts
