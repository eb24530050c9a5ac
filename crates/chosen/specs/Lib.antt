-- The parts of a source, and the sheets of chosen ones.
pub mod Parting
