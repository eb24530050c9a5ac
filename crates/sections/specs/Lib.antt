-- Document 02 (v): kerning sections and sheets of pairs, and the two calls that turn one into the other. What follows stands in proofs/.
-- what a reader must believe: lines, pairs, sheets and sections, and the answers of the two calls
pub mod Afm
