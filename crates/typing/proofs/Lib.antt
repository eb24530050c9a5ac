pub mod Walked
pub mod Faults
pub mod Turns
