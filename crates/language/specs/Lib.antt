-- Which sets of positions one byte leads to, and what such sets tell of a text.
pub mod Sets
pub mod Runs
