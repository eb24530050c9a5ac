-- `ends::flag_rests` meets its contract. The loop's invariant: the text was read from its end to place i, and the flags from i on are set. Assumes nothing.
use Rattle.ends.proofs.Backward.{Backed}
use Rattle.ends.proofs.flag_rests.Given as goal

abbrev pub invariant-loop-i : goal.invariant-loop-i
invariant-loop-i l = Backed l.prepared l.b l.text l.i l.behind l.flags
