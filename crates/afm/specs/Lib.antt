-- What the functions of this crate promise beside the definitions of the calls.
-- the lines with a pair that stand first in a text
pub mod Pairs
-- the first and the last line of a section
pub mod Section
