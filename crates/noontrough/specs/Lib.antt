-- What other languages link.
pub mod Exports
pub mod Numbers
