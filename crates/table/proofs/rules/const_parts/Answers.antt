-- `table::rules::const_parts` meets its contract: a const's rule.
use Rattle.table.specs.Rules.{const_parts}
use native.Mathlib.Omega.{arith}
use Rattle.std.proofs.lemmas.Bool.Decides.{nat_tests}
use Rattle.table.proofs.rules.const_parts.Goals as goal

pub returns-then-is_word : goal.returns-then-is_word
unfolding const_parts
returns-then-is_word c = grind (arith, nat_tests)

pub returns-else-is_word : goal.returns-else-is_word
unfolding const_parts
returns-else-is_word c = grind (arith, nat_tests)
