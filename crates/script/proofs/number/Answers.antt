-- `script::number` meets its contract: the digits from a place on go on with the number so far. Assumes nothing.
use Rattle.std.proofs.Common.{sym, ◌∙◌, refl, arith, rules}
use Rattle.script.proofs.Places.{number_more, number_stops, number_end}
use Rattle.script.proofs.number.Goals as goal

pub returns-then-not-is_ascii_digit : goal.returns-then-not-is_ascii_digit
returns-then-not-is_ascii_digit c =
    sym (c.loop-byte.invariant ∙ number_stops c.args.text.now c.loop-byte.byte-index c.loop-byte.n (omega arith) (search rules))

pub loop-byte-preserved : goal.loop-byte-preserved
loop-byte-preserved c =
    c.loop-byte.invariant ∙ number_more c.args.text.now c.loop-byte.byte-index c.loop-byte.n (omega arith) (search rules) ∙ rw c.with_digit-n.ensures refl

pub returns : goal.returns
returns c = sym (c.loop-byte.invariant ∙ number_end c.args.text.now c.loop-byte.byte-index c.loop-byte.n (omega arith))
