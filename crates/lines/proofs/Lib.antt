-- Texts put into a buffer, and numbers in decimal.
pub mod Texts
pub mod Digits
