-- What the program `sheet` does with its words, and what it prints.
pub mod Commands
pub mod Replies
pub mod Texts
