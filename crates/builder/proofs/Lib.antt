pub mod Steps
pub mod Parts
pub mod Frames
pub mod Turns
