-- `table::rules::two_children` meets its contract: the rule of the kinds with two children.
use Rattle.table.specs.Rules.{two_children}
use native.Mathlib.Omega.{arith}
use Rattle.std.proofs.lemmas.Bool.Decides.{nat_tests}
use Rattle.table.proofs.rules.two_children.Goals as goal

pub returns-then-is_sort : goal.returns-then-is_sort
unfolding two_children
returns-then-is_sort c = grind (arith, nat_tests)

pub returns-else-is_sort : goal.returns-else-is_sort
unfolding two_children
returns-else-is_sort c = grind (arith, nat_tests)
