-- `positions::Set::first_from` meets its contract: the position is in `low`, in `high` behind it, in `high`, or past both. Assumes nothing.
use native.Mathlib.Omega.{arith}
use Rattle.positions.proofs.Bits.{first_low, first_after, first_high, first_past}
use Rattle.positions.proofs.Set.first_from.Goals as goal

pub returns-then-rest-ne0 : goal.returns-then-rest-ne0
returns-then-rest-ne0 c = rw c.zeros.ensures.0 (first_low c.args.self c.args.p (omega arith) (omega arith) c.if-rest-ne0.true)

pub returns-then-p-lt64 : goal.returns-then-p-lt64
returns-then-p-lt64 c = rw c.zeros-then-p-lt64.ensures.0 (first_after c.args.self c.args.p (omega arith) c.if-rest-ne0.false)

pub returns-then-p-lt-SIZE : goal.returns-then-p-lt-SIZE
returns-then-p-lt-SIZE c = rw c.zeros-then-p-lt-SIZE.ensures.0 (first_high c.args.self c.args.p (omega arith) (omega arith))

pub returns : goal.returns
returns c = first_past c.args.self c.args.p (omega arith)
