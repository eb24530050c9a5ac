-- `positions::Set::union` meets its contract. Assumes nothing.
use Rattle.positions.proofs.Bits.{holds_or}
use Rattle.positions.proofs.Set.union.Goals as goal

pub returns : goal.returns
returns c = holds_or _ _
