-- `table::rules::word_fits` meets its contract: a word's rule.
use Rattle.table.specs.Rules.{word_fits}
use Rattle.semantics.specs.Table.{two}
use native.Mathlib.Omega.{arith}
use Rattle.std.proofs.lemmas.Bool.Decides.{nat_tests}
use Rattle.table.proofs.rules.word_fits.Goals as goal

pub overflow_add-result : goal.overflow_add-result
unfolding two
overflow_add-result c = omega arith

pub returns-then-len-le-WORD : goal.returns-then-len-le-WORD
unfolding word_fits
returns-then-len-le-WORD c = grind (arith, nat_tests)

pub returns-else-len-le-WORD : goal.returns-else-len-le-WORD
unfolding word_fits
returns-else-len-le-WORD c = grind (arith, nat_tests)
