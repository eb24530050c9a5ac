-- `below::fill_below` meets its contract. The loop's invariant: what stands at the nodes before k is stored. Assumes nothing.
use mathlib.Core.Path.{◌≡◌}
use lib.ListN.{length}
use Rattle.below.specs.Below.{BelowTo}
use Rattle.below.proofs.fill_below.Given as goal

abbrev pub invariant-loop-k : goal.invariant-loop-k
invariant-loop-k l = (length l.below ≡ length l.initial.below) × BelowTo l.bytes l.below l.k
