-- `positions::Set::without` meets its contract, by those of `only` and `minus`. Assumes nothing.
use Rattle.positions.proofs.Bits.{less_one}
use Rattle.positions.proofs.Set.without.Goals as goal

pub returns : goal.returns
returns c = less_one _ _ _ _ c.only.ensures c.minus.ensures
