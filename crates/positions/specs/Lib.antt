-- What a set of positions holds.
pub mod Positions
pub mod Below
