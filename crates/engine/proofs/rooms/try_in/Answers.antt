-- `engine::rooms::try_in` meets its contract, from what the check in a lent slice says. Assumes nothing.
use borrow.Author.Rules.{rules}
use mathlib.Core.Path.{refl, subst}
use Rattle.answers.specs.Answers.{TooSmall, CheckedIs}
use Rattle.answers.proofs.Verdicts.{told}
use Rattle.engine.specs.Rooms.{TriedIs}
use Rattle.engine.proofs.rooms.try_in.Goals as goal

pub answer_with-requires : goal.answer_with-requires
unfolding CheckedIs
answer_with-requires c = told _ _ c.check_in.ensures c.in-Ok.is

pub refuse_with-requires : goal.refuse_with-requires
unfolding CheckedIs
refuse_with-requires c = rw c.in-Err-Refused.field-0-is at c.in-Err-Refused.ensures

pub returns-in-Ok : goal.returns-in-Ok
unfolding TriedIs
returns-in-Ok c = record { tried_is = c.answer_with.ensures }

pub returns-in-Err-Refused : goal.returns-in-Err-Refused
unfolding TriedIs
returns-in-Err-Refused c = record { tried_is = c.refuse_with.ensures _ _ }

pub returns-in-Err-Small : goal.returns-in-Err-Small
unfolding TriedIs CheckedIs
returns-in-Err-Small c =
    let small = rw c.in-Err-Small.field-0-is at c.in-Err-Small.ensures in
    record { tried_is = record { too_small = subst (TooSmall c.args.bytes.now) (search rules) small; unchanged = refl } }
