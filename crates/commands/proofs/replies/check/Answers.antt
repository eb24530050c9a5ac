-- `commands::replies::check` meets its contract: the line of `lenscheck`, and the number of the call Check. Assumes nothing.
use Rattle.commands.proofs.Outcomes.{check_replies}
use Rattle.commands.proofs.replies.check.Goals as goal

pub returns : goal.returns
returns c = check_replies c.args.table.now c.lenscheck_line-length.ensures.leaves c.lenscheck_line-length.ensures.answers c.check.ensures c.number_of-number.ensures
