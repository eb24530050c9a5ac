-- `answers::results::root_of` meets its contract: an accepted program has a node. Assumes nothing.
use native.Mathlib.Omega.{arith}
use Rattle.answers.proofs.Verdicts.{accepted_sizes}
use Rattle.answers.proofs.results.root_of.Goals as goal

pub node_count-requires : goal.node_count-requires
node_count-requires c = let right = accepted_sizes c.requires in omega arith

pub overflow_sub-result : goal.overflow_sub-result
overflow_sub-result c = let right = accepted_sizes c.requires in omega (arith, c.node_count.ensures)
