-- The line of a put's answer.
pub mod Lines
