-- `positions::Set::intersect` meets its contract. Assumes nothing.
use Rattle.positions.proofs.Bits.{holds_and}
use Rattle.positions.proofs.Set.intersect.Goals as goal

pub returns : goal.returns
returns c = holds_and _ _
