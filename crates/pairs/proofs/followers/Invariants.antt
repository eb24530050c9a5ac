-- `pairs::followers` meets its contract. The loop's invariant: what the positions give that have come is gathered. Assumes nothing.
use Rattle.pairs.specs.Pairs.{by_follow}
use Rattle.pairs.proofs.Cells.{GatheredOn}
use Rattle.pairs.proofs.followers.Given as goal

abbrev pub invariant-loop-p : goal.invariant-loop-p
invariant-loop-p l = GatheredOn (by_follow l.prepared l.a.start l.fn.set) l.fn.set l.a.count l.p-iterator l.out
