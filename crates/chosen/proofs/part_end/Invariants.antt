-- `chosen::part_end` meets its contract: the search passes only places inside the part. Assumes nothing.
use Rattle.chosen.proofs.Parting.{NotYet}
use Rattle.chosen.proofs.part_end.Given as goal

abbrev pub invariant-loop-end : goal.invariant-loop-end
invariant-loop-end l = NotYet l.bytes l.source l.start l.end
