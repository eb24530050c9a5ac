-- What the functions of this crate know as they go.
mod Measuring
mod Putting
mod Sections
mod Answering
