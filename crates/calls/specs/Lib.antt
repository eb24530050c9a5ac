-- What a put makes of an accepted program.
pub mod Puts
