-- `positions::Set::from` meets its contract, by those of `full` and `moved`. Assumes nothing.
use mathlib.Core.Path.{◌∙◌}
use Rattle.positions.proofs.Bits.{full_moved}
use Rattle.positions.proofs.Set.from.Goals as goal

pub returns : goal.returns
returns c q = c.moved.ensures q ∙ full_moved _ _ q c.full.ensures
