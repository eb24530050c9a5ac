-- `table::round::over_limits` meets its contract: the three limits.
use Rattle.table.specs.Rules.{over_limits}
use native.Mathlib.Omega.{arith}
use Rattle.std.proofs.lemmas.Bool.Decides.{nat_tests}
use Rattle.table.proofs.round.over_limits.Goals as goal

pub returns-then-node-gt-POSITIONS : goal.returns-then-node-gt-POSITIONS
unfolding over_limits
returns-then-node-gt-POSITIONS c = grind (arith, nat_tests)

pub returns-else-node-gt-POSITIONS : goal.returns-else-node-gt-POSITIONS
unfolding over_limits
returns-else-node-gt-POSITIONS c = grind (arith, nat_tests)
