-- `quests::arm_quest` meets its contract. Assumes nothing.
use mathlib.Core.Path.{refl}
use Rattle.search.specs.Pairs.{no_set, no_patch}
use Rattle.quests.specs.Quests.{arm_quest}
use Rattle.quests.proofs.arm_quest.Goals as goal

pub returns : goal.returns
unfolding arm_quest no_set no_patch
returns c = refl
