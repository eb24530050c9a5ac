-- `table::rules::set_fits` meets its contract: a set's rule.
use Rattle.semantics.specs.Table.{set_keeps, set_part, two}
use native.Mathlib.Omega.{arith}
use Rattle.std.proofs.lemmas.Bool.Decides.{nat_tests}
use Rattle.table.proofs.rules.set_fits.Goals as goal

pub overflow_add-start : goal.overflow_add-start
unfolding two
overflow_add-start c = omega arith

pub returns-then-start-runs : goal.returns-then-start-runs
unfolding set_keeps set_part
returns-then-start-runs c = grind (arith, nat_tests)

pub returns-else-start-runs : goal.returns-else-start-runs
unfolding set_keeps set_part
returns-else-start-runs c = grind (arith, nat_tests)
