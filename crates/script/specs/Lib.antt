-- What the functions on scripts return.
pub mod Scripts
