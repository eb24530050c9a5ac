-- What the functions of this crate know of a node, and at each turn.
mod NodeEntries
mod Pieces
mod RepeatEntries
