-- `table::rules::one_child` meets its contract: the rule of the kinds with one child.
use Rattle.table.specs.Rules.{one_child}
use native.Mathlib.Omega.{arith}
use Rattle.std.proofs.lemmas.Bool.Decides.{nat_tests}
use Rattle.table.proofs.rules.one_child.Goals as goal

pub returns-then-operands-eq0-2 : goal.returns-then-operands-eq0-2
unfolding one_child
returns-then-operands-eq0-2 c = grind (arith, nat_tests)

pub returns-else-operands-eq0-2 : goal.returns-else-operands-eq0-2
unfolding one_child
returns-else-operands-eq0-2 c = grind (arith, nat_tests)
