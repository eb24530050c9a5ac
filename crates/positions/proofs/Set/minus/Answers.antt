-- `positions::Set::minus` meets its contract. Assumes nothing.
use Rattle.positions.proofs.Bits.{holds_cleared}
use Rattle.positions.proofs.Set.minus.Goals as goal

pub returns : goal.returns
returns c = holds_cleared _ _
