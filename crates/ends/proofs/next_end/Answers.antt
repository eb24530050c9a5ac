-- `ends::next_end` meets its contract. The loop's invariant: the bytes in front of the place were read, and the first half may end at none of the places
-- that were passed. Assumes nothing.
use native.Mathlib.Omega.{arith}
use Rattle.ends.proofs.Forward.{passed_none, passed_more, next_here, next_last}
use Rattle.ends.proofs.next_end.Goals as goal

pub loop-place-init : goal.loop-place-init
loop-place-init c = (c.requires.read_to, passed_none)

pub returns-then-may_end : goal.returns-then-may_end
returns-then-may_end c = (c.loop-place.invariant.0, next_here c.loop-place.invariant.1 c.loop-place.invariant.0 c.may_end.ensures c.if-may_end.true)

pub loop-place-smaller : goal.loop-place-smaller
loop-place-smaller c = omega (arith, c.pass-place.ensures.0, c.loop-place-test.true)

pub loop-place-preserved : goal.loop-place-preserved
loop-place-preserved c = (c.pass-place.ensures.1, passed_more c.loop-place.invariant.1 c.loop-place.invariant.0 c.may_end.ensures c.if-may_end.false c.pass-place.ensures.0)

pub returns : goal.returns
returns c = (c.loop-place.invariant.0, next_last c.loop-place.invariant.1 c.loop-place.invariant.0 c.loop-place-test.false)
