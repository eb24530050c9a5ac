-- What the loops of this crate know at each turn.
mod Emission
mod Finding
mod Repeats
