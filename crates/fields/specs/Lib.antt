-- What the functions of this crate find at the start of a text, and what follows.
-- runs, names, numbers, values, separators, and the places of a line's fields
pub mod Scan
-- laws of these
pub mod Runs
-- what a line with a pair is made of
pub mod Shapes
-- whether a text begins with such a line
pub mod Lines
