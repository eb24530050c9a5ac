-- What the functions of this crate answer, in terms of the definitions.
pub mod Cards
pub mod Listed
pub mod Looking
pub mod Old
