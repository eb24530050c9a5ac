-- `pairs::same_as_last` meets its contract: position 0 has none before it. Assumes nothing.
use native.Mathlib.Omega.{arith}
use Rattle.std.proofs.lemmas.Bool.Decides.{nat_tests}
use Rattle.pairs.specs.Pairs.{same_as_last}
use Rattle.pairs.proofs.same_as_last.Goals as goal

pub returns-in-Some : goal.returns-in-Some
unfolding same_as_last
returns-in-Some c = grind (arith, nat_tests)

pub returns-in-None : goal.returns-in-None
unfolding same_as_last
returns-in-None c = grind (arith, nat_tests)
