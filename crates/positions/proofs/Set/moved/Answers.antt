-- `positions::Set::moved` meets its contract: each return answers one of the four distances. Assumes nothing.
use native.Mathlib.Omega.{arith}
use Rattle.positions.proofs.Bits.{moved_away, moved_far, moved_not, moved_near}
use Rattle.positions.proofs.Set.moved.Goals as goal

pub returns-then-n-ge-SIZE : goal.returns-then-n-ge-SIZE
returns-then-n-ge-SIZE c = moved_away c.args.self c.args.n (omega arith) _ c.empty.ensures

pub returns-then-n-ge64 : goal.returns-then-n-ge64
returns-then-n-ge64 c = moved_far c.args.self c.args.n (omega arith) (omega arith)

pub returns-then-n-eq0 : goal.returns-then-n-eq0
returns-then-n-eq0 c = moved_not c.args.self c.args.n (omega arith)

pub returns : goal.returns
returns c = moved_near c.args.self c.args.n (omega arith) (omega arith) (omega arith)
