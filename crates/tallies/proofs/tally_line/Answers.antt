-- `tallies::tally_line` meets its contract: the line of the counts, or that of a refusal. Assumes nothing.
use Prim.Native.Nat.{ℕ}
use mathlib.Core.Path.{sym, ap, ◌∙◌}
use native.Mathlib.Omega.{arith}
use lib.ListN.{length, length-replicate}
use Rattle.lines.proofs.Texts.{puts_as, puts_start}
use Rattle.tallies.proofs.Lines.{counts_line_lem, refusal_line}
use Rattle.tallies.proofs.tally_line.Goals as goal

pub returns-in-Ok : goal.returns-in-Ok
returns-in-Ok c =
    let room = sym (ap length c.filled-result.ensures ∙ length-replicate {A = ℕ} 4096 0) in
    let line = counts_line_lem c.args.table.now c.args.sheet.now c.args.source.now room c.put.ensures c.in-Ok.is in
    let (after, length) = puts_start (puts_as line c.put_counts.ensures.puts) (omega (arith, c.put_counts.ensures.short, c.requires)) in record { leaves = after; answers = length; short = omega (arith, c.put_counts.ensures.short) }

pub returns-in-Err : goal.returns-in-Err
returns-in-Err c =
    let room = sym (ap length c.filled-result.ensures ∙ length-replicate {A = ℕ} 4096 0) in
    let line = refusal_line c.args.table.now c.args.sheet.now c.args.source.now room c.put.ensures c.in-Err.is in
    let (after, length) = puts_start (puts_as line c.put_refused.ensures.puts) (omega (arith, c.put_refused.ensures.short, c.requires)) in record { leaves = after; answers = length; short = omega (arith, c.put_refused.ensures.short) }
