-- What the calls answer, in terms of the definitions of the calls.
pub mod Rooms
pub mod Demand3
pub mod Tally
pub mod WithoutSets
pub mod Clash
