-- `lines::put_accepted` meets its contract: each part stands behind the one before. Assumes nothing.
use native.Mathlib.Omega.{arith}
use Rattle.lines.specs.Line.{accepted_line}
use Rattle.lines.proofs.Texts.{puts_then}
use Rattle.lines.proofs.put_accepted.Goals as goal

pub returns : goal.returns
unfolding accepted_line
returns c = record { puts = puts_then (puts_then (puts_then (puts_then c.put_text-first.ensures c.put_field-second.ensures.puts) c.put_field-third.ensures.puts) c.put_field-end.ensures.puts) c.put_text.ensures; short = omega (arith, c.put_text-first.ensures.next_is, c.put_field-second.ensures.short, c.put_field-third.ensures.short, c.put_field-end.ensures.short, c.put_text.ensures.next_is) }
