-- What the functions of this crate know as they go.
mod Scanning
mod Placing
