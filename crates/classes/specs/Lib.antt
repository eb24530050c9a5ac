-- What a class of bytes holds.
pub mod Classes
