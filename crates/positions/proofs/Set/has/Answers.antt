-- `positions::Set::has` meets its contract: each return answers one of the three places of a position. Assumes nothing.
use mathlib.Core.Path.{sym}
use native.Mathlib.Omega.{arith}
use Rattle.positions.specs.Positions.{bit}
use Rattle.positions.proofs.Bits.{holds_low, holds_high, holds_past}
use Rattle.positions.proofs.Set.has.Goals as goal

pub returns-then-p-lt64 : goal.returns-then-p-lt64
unfolding bit
returns-then-p-lt64 c = sym (holds_low _ _ (omega arith))

pub returns-then-p-lt-SIZE : goal.returns-then-p-lt-SIZE
unfolding bit
returns-then-p-lt-SIZE c = sym (holds_high _ _ (omega arith) (omega arith))

pub returns : goal.returns
returns c = sym (holds_past _ _ (omega arith))
