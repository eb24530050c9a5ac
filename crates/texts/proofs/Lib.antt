-- What the loops of this crate know at each turn.
mod Copying
mod Comparing
