-- `positions::Set::meets` meets its contract. Assumes nothing.
use native.Mathlib.Omega.{arith}
use Rattle.positions.proofs.Bits.{shared_test}
use Rattle.positions.proofs.Set.meets.Goals as goal

pub returns : goal.returns
returns c = shared_test _ _ (omega arith) (omega arith)
