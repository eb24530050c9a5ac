-- The linked calls, one after the other, and document 02, (i).
pub mod Following
pub mod Counting
