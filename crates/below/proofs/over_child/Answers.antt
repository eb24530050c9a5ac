-- `below::over_child` meets its contract. Assumes nothing.
use mathlib.Core.Path.{refl}
use Rattle.below.proofs.over_child.Goals as goal

pub returns : goal.returns
returns c = record { asked_is = λ q. rw c.at_node-a.ensures at (c.with.ensures q); union_is = rw c.at_node-a.ensures; count_is = refl }
