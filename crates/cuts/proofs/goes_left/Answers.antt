-- `cuts::goes_left` meets its contract. Assumes nothing.
use native.Mathlib.Omega.{arith}
use Rattle.cuts.proofs.Readings.{goes_first, goes_empty}
use Rattle.cuts.proofs.goes_left.Goals as goal

pub returns-in-empty : goal.returns-in-empty
returns-in-empty c = goes_empty _ _ _ (omega arith)

pub returns-in-len1-up : goal.returns-in-len1-up
returns-in-len1-up c = rw c.from.ensures (goes_first _ _ _ (omega arith))
