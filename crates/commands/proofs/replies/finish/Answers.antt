-- `commands::replies::finish` meets its contract: a result stands in the buffer, and a refusal has its line. Assumes nothing.
use native.Mathlib.Omega.{arith}
use Rattle.lines.proofs.Texts.{puts_start}
use Rattle.commands.proofs.Outcomes.{finishes_result, finishes_refusal}
use Rattle.commands.proofs.replies.finish.Goals as goal

pub returns-in-Ok : goal.returns-in-Ok
returns-in-Ok c = finishes_result c.in-Ok.is

pub returns-in-Err : goal.returns-in-Err
returns-in-Err c =
    let (after, length) = puts_start c.put_refused.ensures.puts (omega (arith, c.put_refused.ensures.short, c.requires)) in
    finishes_refusal c.in-Err.is after length
