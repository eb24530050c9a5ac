-- What the prepared program holds of every node's automata.
pub mod Rows
pub mod Built
