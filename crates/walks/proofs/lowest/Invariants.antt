-- `walks::lowest` meets its contract. The loop's invariant: none of the positions that have come reads the byte. Assumes nothing.
use Rattle.std.specs.Prelude.{None}
use Rattle.walks.proofs.Stepping.{OneCame}
use Rattle.walks.proofs.lowest.Given as goal

abbrev pub invariant-loop-p : goal.invariant-loop-p
invariant-loop-p l = OneCame l.prepared l.a l.fn.due l.byte l.p-iterator None
