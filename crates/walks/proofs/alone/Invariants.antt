-- `walks::alone` meets its contract. The loop's invariant: of the positions that have come the one that was found alone reads the byte. Assumes nothing.
use Rattle.walks.proofs.Stepping.{OneCame}
use Rattle.walks.proofs.alone.Given as goal

abbrev pub invariant-loop-p : goal.invariant-loop-p
invariant-loop-p l = OneCame l.prepared l.a l.fn.due l.byte l.p-iterator l.found
