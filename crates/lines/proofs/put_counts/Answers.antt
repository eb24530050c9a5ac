-- `lines::put_counts` meets its contract: each part stands behind the one before. Assumes nothing.
use native.Mathlib.Omega.{arith}
use Rattle.semantics.specs.Tally.{counts_line}
use Rattle.lines.proofs.Texts.{puts_then}
use Rattle.lines.proofs.put_counts.Goals as goal

pub returns : goal.returns
unfolding counts_line
returns c = record { puts = puts_then (puts_then (puts_then (puts_then (puts_then (puts_then c.put_text-first.ensures c.put_field-second.ensures.puts) c.put_text-third.ensures) c.put_field-fourth.ensures.puts) c.put_text-fifth.ensures) c.put_field-end.ensures.puts) c.put_text.ensures; short = omega (arith, c.put_text-first.ensures.next_is, c.put_field-second.ensures.short, c.put_text-third.ensures.next_is, c.put_field-fourth.ensures.short, c.put_text-fifth.ensures.next_is, c.put_field-end.ensures.short, c.put_text.ensures.next_is) }
