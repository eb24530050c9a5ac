pub mod Gathering
pub mod Leading
pub mod Steps
pub mod Reading
pub mod Walking
