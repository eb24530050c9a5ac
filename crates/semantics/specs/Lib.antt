-- What a reader must believe: document 01 and the parts of the Boomerang report that it settles, as total functions and types on
-- lists of bytes. No lemma stands here; what follows from these definitions is in the crate `laws`.
-- Read in this order.
pub mod Text
pub mod Pattern
pub mod Ambiguity
pub mod Lens
pub mod Table
pub mod Calls
pub mod Tally
