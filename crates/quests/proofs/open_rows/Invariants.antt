-- `quests::open_rows` meets its contract. Assumes nothing.
use Rattle.quests.specs.Quests.{Opened}
use Rattle.quests.proofs.open_rows.Given as goal

abbrev pub invariant-loop-x : goal.invariant-loop-x
invariant-loop-x l = Opened l.prepared l.a l.b l.base l.x l.initial.fresh l.fresh
