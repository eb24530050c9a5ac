-- `quests::cut_quest` meets its contract. Assumes nothing.
use Rattle.quests.proofs.Filling.{cut_nullable, cut_none}
use Rattle.quests.proofs.cut_quest.Goals as goal
use Rattle.quests.proofs.cut_quest.Goals.{then-part, else-part}

pub returns : goal.returns
returns c =
    let args = c.args in
    elim c.if-part.branch [
      | then-part w ↦ cut_nullable args.part args.whole args.rest w.if-part.true w.opening-is
      | else-part w ↦ cut_none args.part args.whole args.rest w.if-part.false w.opening-is
    ]
