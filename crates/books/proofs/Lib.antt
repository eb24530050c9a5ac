-- What the functions of this crate know at each turn.
mod Finding
