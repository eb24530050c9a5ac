-- `positions::Set::with` meets its contract, by those of `only` and `union`. Assumes nothing.
use Rattle.positions.proofs.Set.with.Goals as goal

pub returns : goal.returns
returns c q = rw (c.union.ensures q, c.only.ensures q)
