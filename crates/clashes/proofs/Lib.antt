-- What the proofs share.
pub mod Showing
pub mod Rules
pub mod Empty
pub mod Others
pub mod Lenses
pub mod Answering
