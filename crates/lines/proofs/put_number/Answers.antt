-- `lines::put_number` meets its contract: the digits are put as they are shown. Assumes nothing.
use native.Mathlib.Omega.{arith}
use Rattle.lines.proofs.Texts.{puts_as}
use Rattle.lines.proofs.Digits.{few_digits, decimal_lent}
use Rattle.lines.proofs.put_number.Goals as goal

pub put_text-requires : goal.put_text-requires
put_text-requires c = rw (decimal_lent c.decimal-n.new.out c.decimal-n.result c.args.number (few_digits c.decimal-n.result c.args.number (omega (arith, c.ranges.number)) c.decimal-n.ensures.len) c.decimal-n.ensures.len c.decimal-n.ensures.digits) c.requires

pub returns : goal.returns
returns c = puts_as (decimal_lent c.decimal-n.new.out c.decimal-n.result c.args.number (few_digits c.decimal-n.result c.args.number (omega (arith, c.ranges.number)) c.decimal-n.ensures.len) c.decimal-n.ensures.len c.decimal-n.ensures.digits) c.put_text.ensures
