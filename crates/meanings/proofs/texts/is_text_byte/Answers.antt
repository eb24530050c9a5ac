-- `meanings::texts::is_text_byte` meets its contract, test by test. Assumes nothing.
use Rattle.std.proofs.Common.{arith}
use Rattle.std.proofs.lemmas.Bool.Decides.{nat_tests}
use Rattle.meanings.specs.Texts.{is_text_byte}
use Rattle.meanings.proofs.texts.is_text_byte.Goals as goal

pub returns-in-9 : goal.returns-in-9
unfolding is_text_byte
returns-in-9 c = grind (arith, nat_tests)

pub returns-in-9-2 : goal.returns-in-9-2
unfolding is_text_byte
returns-in-9-2 c = grind (arith, nat_tests)

pub returns-in-9-3 : goal.returns-in-9-3
unfolding is_text_byte
returns-in-9-3 c = grind (arith, nat_tests)

pub returns-in_default : goal.returns-in_default
unfolding is_text_byte
returns-in_default c = grind (arith, nat_tests)

pub returns-in_default-2 : goal.returns-in_default-2
unfolding is_text_byte
returns-in_default-2 c = grind (arith, nat_tests)
