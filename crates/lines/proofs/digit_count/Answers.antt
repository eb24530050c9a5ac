-- `lines::digit_count` meets its contract. Assumes nothing.
use native.Mathlib.Omega.{arith}
use Rattle.lines.proofs.Digits.{few_digits, decimal_count}
use Rattle.lines.proofs.digit_count.Goals as goal

pub returns : goal.returns
returns c = decimal_count c.decimal.result c.args.number (few_digits c.decimal.result c.args.number (omega (arith, c.ranges.number)) c.decimal.ensures.len) c.decimal.ensures.len
