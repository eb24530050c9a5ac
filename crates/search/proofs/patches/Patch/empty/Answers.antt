-- `search::patches::Patch::empty` meets its contract. Assumes nothing.
use mathlib.Core.Path.{refl}
use Rattle.search.specs.Pairs.{no_patch, no_set}
use Rattle.search.proofs.patches.Patch.empty.Goals as goal

pub returns : goal.returns
unfolding no_patch no_set
returns c = refl
