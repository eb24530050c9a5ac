-- Demand 3, about functions that make the calls.
pub mod Demands
pub mod Following
