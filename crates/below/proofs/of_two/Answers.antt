-- `below::of_two` meets its contract. Assumes nothing.
use mathlib.Core.Path.{◌∙◌}
use Prim.Native.Nat.{◌+◌}
use Rattle.below.proofs.Lower.{capped}
use Rattle.below.proofs.of_two.Goals as goal

pub returns-else-union : goal.returns-else-union
returns-else-union c m n e f = rw c.if-union.false (c.sum_of.ensures m n e f ∙ capped (m + n))
