-- What is written to build every node's automata, and how many rows they take.
pub mod Build
pub mod Program
