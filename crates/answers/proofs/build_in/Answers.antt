-- `answers::build_in` meets its contract: the second round decides on a table that passed the first. Assumes nothing.
use native.Mathlib.Omega.{arith}
use Rattle.answers.specs.Answers.{CheckedIs}
use Rattle.answers.proofs.Verdicts.{typing_told}
use Rattle.answers.proofs.build_in.Goals as goal

pub returns-then-prepared-rows : goal.returns-then-prepared-rows
unfolding CheckedIs
returns-then-prepared-rows c = record { no_room = omega (arith, c.if-prepared-rows.true, c.rows_needed-rows.ensures.0); most = omega (arith, c.rows_needed-rows.ensures.0, c.rows_needed-rows.ensures.1) }

pub returns : goal.returns
returns c =
    typing_told c.args.bytes.now c.requires.bytes_value c.second_round.result _ _ c.second_round.ensures (λ passed. grind arith) (λ r refused. grind arith) c.build_all.ensures
