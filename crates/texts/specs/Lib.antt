-- What the functions of this crate answer, and slices of which a part is lent.
pub mod Overlay
pub mod Cutting
