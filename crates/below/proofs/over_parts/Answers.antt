-- `below::over_parts` meets its contract. Assumes nothing.
use mathlib.Core.Path.{ap}
use Rattle.below.specs.declared.Standing.{Standing}
use Rattle.below.proofs.over_parts.Goals as goal

pub returns : goal.returns
returns c = record { asked_is = rw c.at_node-a.ensures; union_is = rw c.at_node-a.ensures; count_is = c.none_of.ensures _ (ap (λ (s : Standing). s.count) c.at_node-a.ensures) }
