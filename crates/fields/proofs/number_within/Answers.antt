-- `fields::number_within` meets its contract: the digits from a place on are still to come. Assumes nothing.
use Rattle.std.proofs.Common.{◌≡◌, ◌+◌, ◌*◌, ◌-◌, get_or, arith}
use Rattle.fields.proofs.Scanning.{counts_start, counts_digit, counts_more, counts_over, counts_all}
use Rattle.fields.proofs.number_within.Goals as goal

pub loop-digit-init : goal.loop-digit-init
loop-digit-init c = counts_start c.args.limit c.args.digits.now c.requires.digits_value

pub overflow_sub-digit : goal.overflow_sub-digit
overflow_sub-digit c = (counts_digit c.loop-digit.invariant c.loop-digit-test.true).0

pub returns-then-limit-number : goal.returns-then-limit-number
returns-then-limit-number c =
    counts_over c.loop-digit.invariant c.loop-digit-test.true (omega arith)

pub loop-digit-preserved : goal.loop-digit-preserved
loop-digit-preserved c =
    let grown : 10 * c.loop-digit.number + c.from.result ≡ 10 * c.loop-digit.number + (get_or c.args.digits.now c.loop-digit.digit-index 0 - 48) = omega arith in
    rw grown (counts_more c.loop-digit.invariant c.loop-digit-test.true (omega arith))

pub returns : goal.returns
returns c = (counts_all c.loop-digit.invariant c.loop-digit-test.false, c.loop-digit.invariant.small)
