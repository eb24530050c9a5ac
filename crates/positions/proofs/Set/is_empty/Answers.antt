-- `positions::Set::is_empty` meets its contract. Assumes nothing.
use native.Mathlib.Omega.{arith}
use Rattle.positions.proofs.Bits.{empty_test}
use Rattle.positions.proofs.Set.is_empty.Goals as goal

pub returns : goal.returns
returns c = empty_test _ (omega arith) (omega arith)
