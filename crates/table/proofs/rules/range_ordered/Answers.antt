-- `table::rules::range_ordered` meets its contract: a range's rule.
use Rattle.table.specs.Rules.{range_ordered}
use native.Mathlib.Omega.{arith}
use Rattle.std.proofs.lemmas.Bool.Decides.{nat_tests}
use Rattle.table.proofs.rules.range_ordered.Goals as goal

pub returns-then-operands : goal.returns-then-operands
unfolding range_ordered
returns-then-operands c = grind (arith, nat_tests)

pub returns-else-operands : goal.returns-else-operands
unfolding range_ordered
returns-else-operands c = grind (arith, nat_tests)
