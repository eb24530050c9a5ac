-- `positions::Set::rest` meets its contract: the first position is in `low`, or in `high`, or there is none. Assumes nothing.
use native.Mathlib.Omega.{arith}
use Rattle.positions.proofs.Bits.{rest_low, rest_high, rest_none}
use Rattle.positions.proofs.Set.rest.Goals as goal

pub returns-then-self-ne0 : goal.returns-then-self-ne0
returns-then-self-ne0 c p first = rest_low _ p first (omega arith) c.if-self-ne0.true

pub returns-then-self-ne0-2 : goal.returns-then-self-ne0-2
returns-then-self-ne0-2 c p first = rest_high _ p first c.if-self-ne0.false (omega arith) c.if-self-ne0-2.true

pub returns : goal.returns
returns c p first = rest_none _ p c.if-self-ne0.false c.if-self-ne0-2.false
