-- `engine::lenscheck_line` meets its contract: a line for an accepted program, and one for a refusal. Assumes nothing.
use native.Mathlib.Omega.{arith}
use Rattle.engine.specs.Rooms.{Owed}
use Rattle.lines.proofs.Texts.{puts_as, puts_start}
use Rattle.readings.proofs.Lines.{line_result, line_refusal, refused_line_lem}
use Rattle.engine.proofs.lenscheck_line.Goals as goal

pub returns-in-Ok : goal.returns-in-Ok
unfolding Owed
returns-in-Ok c = let p = line_result c.args.bytes.now c.requires c.answer_in.ensures.owed c.in-Ok.is in record { leaves = p.0; answers = p.1.0; short = p.1.1 }

pub returns-in-Err : goal.returns-in-Err
unfolding Owed
returns-in-Err c =
    let (refuses, same) = line_refusal c.args.bytes.now c.requires c.answer_in.ensures.owed c.in-Err.is in
    let put = puts_as (refused_line_lem c.args.bytes.now _ _ refuses) c.put_refused.ensures.puts in
    let (after, length) = puts_start (rw same at put) (omega (arith, c.put_refused.ensures.short, c.requires)) in record { leaves = after; answers = length; short = c.put_refused.ensures.short }
