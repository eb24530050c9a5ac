-- `commands::replies::reply_to` meets its contract, command by command. Assumes nothing.
use Rattle.answers.specs.Replies.{gives_text}
use Rattle.commands.specs.Replies.{outcome_of}
use Rattle.commands.proofs.replies.reply_to.Goals as goal

pub returns-in-Check : goal.returns-in-Check
unfolding outcome_of
returns-in-Check c = rw c.in-Check.is c.check.ensures

pub returns-in-Get : goal.returns-in-Get
unfolding outcome_of
returns-in-Get c = rw c.in-Get.is (c.finish.ensures.finishes _ _ c.get.ensures)

pub returns-in-Put : goal.returns-in-Put
unfolding outcome_of
returns-in-Put c = rw c.in-Put.is (c.finish-in-Put.ensures.finishes _ _ (rw c.without_tally.ensures (gives_text c.put-answer.ensures)))

pub returns-in-Create : goal.returns-in-Create
unfolding outcome_of
returns-in-Create c = rw c.in-Create.is (c.finish-in-Create.ensures.finishes _ _ c.create.ensures)
