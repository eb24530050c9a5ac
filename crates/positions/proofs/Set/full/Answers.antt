-- `positions::Set::full` meets its contract: each of the 64 bits of both numbers is 1. Assumes nothing.
use Rattle.positions.proofs.Bits.{holds_full}
use Rattle.positions.proofs.Set.full.Goals as goal

pub returns : goal.returns
returns c = holds_full
