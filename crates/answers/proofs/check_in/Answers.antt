-- `answers::check_in` meets its contract: a line of the first round that holds is the program's refusal. Assumes nothing.
use native.Mathlib.Omega.{arith}
use Rattle.answers.proofs.Verdicts.{unrefused_none, table_told}
use Rattle.answers.proofs.check_in.Goals as goal

pub build_in-requires : goal.build_in-requires
build_in-requires c =
    let passes = unrefused_none c.args.bytes.now c.read.result c.read.ensures.answer_is (λ r refused. grind arith) in
    record { all_sized = record { room = omega (arith, c.requires); sized = c.read.ensures.sized passes }; bytes_value = passes }

pub returns-in_err-_table : goal.returns-in_err-_table
returns-in_err-_table c = table_told c.args.bytes.now c.read.result _ _ c.read.ensures.answer_is (λ t passed. grind arith) (λ r refused. grind arith)
