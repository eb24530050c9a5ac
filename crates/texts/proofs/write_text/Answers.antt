use native.Mathlib.Omega.{arith}
use Rattle.texts.proofs.Copying.{copied_more, copied_all, copied_full}
use Rattle.texts.proofs.write_text.Goals as goal

pub returns-then-out-i : goal.returns-then-out-i
returns-then-out-i c = copied_full c.loop-i.invariant c.loop-i-test.true c.if-out-i.true

pub loop-i-preserved : goal.loop-i-preserved
loop-i-preserved c = copied_more c.loop-i.invariant c.loop-i-test.true (omega (arith, c.if-out-i.false))

pub returns : goal.returns
returns c = copied_all c.loop-i.invariant (omega (arith, c.loop-i-test.false))
