-- `chosen::part_start` meets its contract, one part after the other. Assumes nothing.
use Rattle.chosen.proofs.Parting.{Reached}
use Rattle.chosen.proofs.part_start.Given as goal

abbrev pub invariant-loop-part : goal.invariant-loop-part
invariant-loop-part l = Reached l.bytes l.source l.number l.start l._part
