-- `lines::put_field` meets its contract: the digits stand behind the space. Assumes nothing.
use native.Mathlib.Omega.{arith}
use Rattle.semantics.specs.Calls.{field}
use Rattle.lines.proofs.Texts.{puts_then, decimal_short}
use Rattle.lines.proofs.put_field.Goals as goal

pub put_number-requires : goal.put_number-requires
put_number-requires c = omega (arith, c.put_text-next.ensures.next_is, decimal_short c.args.number, c.requires)

pub returns : goal.returns
unfolding field
returns c = record { puts = puts_then c.put_text-next.ensures c.put_number.ensures; short = omega (arith, c.put_text-next.ensures.next_is, c.put_number.ensures.next_is, decimal_short c.args.number) }
