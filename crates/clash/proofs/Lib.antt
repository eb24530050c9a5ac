-- What follows from the definitions. The files build on each other in this order.
-- laws that the others share: the smallest number that passes a test, and the ends of a text's cuts
pub mod Ends
-- a text that breaks a rule, as two readings of it on pairs of positions
pub mod Twofold
-- no shortest such text has more than 16,512 bytes, where the rule has at most 128 positions
pub mod Bound
-- the text that the functions give is the lowest of the shortest that break the rule
pub mod Given
-- the same text in a form that computes
pub mod Computed
-- what the call answers, said with what Check answers
pub mod Calls
-- The definitions, tried on small rules.
pub mod Cases
