-- `pairs::sharing` meets its contract. The loop's invariant: the positions below p that share a byte are gathered. Assumes nothing.
use Rattle.pairs.specs.Pairs.{Gathered, by_sharing}
use Rattle.pairs.proofs.sharing.Given as goal

abbrev pub invariant-loop-p : goal.invariant-loop-p
invariant-loop-p l = Gathered l.p (by_sharing l.prepared l.row l.b.start) l.out
