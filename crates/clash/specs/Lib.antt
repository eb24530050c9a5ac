-- Document 02 (iii): what the call Clash gives. What follows from it stands in proofs/.
-- what a reader must believe: which texts break a rule, which of them is given, and the call's answer
pub mod Clash
