-- `table::parts::sizes_wrong` meets its contract: the five tests of line 1, in order.
use Rattle.semantics.specs.Table.{sizes_wrong}
use native.Mathlib.Omega.{arith}
use Rattle.std.proofs.lemmas.Bool.Decides.{nat_tests}
use Rattle.table.proofs.parts.sizes_wrong.Goals as goal

pub returns-then-bytes-lt3 : goal.returns-then-bytes-lt3
unfolding sizes_wrong
returns-then-bytes-lt3 c = grind (arith, nat_tests)

pub returns-then-p-gt-POOL : goal.returns-then-p-gt-POOL
unfolding sizes_wrong
returns-then-p-gt-POOL c = grind (arith, nat_tests)

pub returns-else-p-gt-POOL : goal.returns-else-p-gt-POOL
unfolding sizes_wrong
returns-else-p-gt-POOL c = grind (arith, nat_tests)
