-- `language::keep` meets its contract. Assumes nothing.
use native.Mathlib.Omega.{arith}
use lib.ListN.{length-set}
use Rattle.language.proofs.Leading.{stored_two}
use Rattle.language.proofs.keep.Goals as goal

pub bounds-sets-i-2 : goal.bounds-sets-i-2
bounds-sets-i-2 c = simp length-set (omega arith)

pub returns : goal.returns
returns c = stored_two _ _ _ c.requires
