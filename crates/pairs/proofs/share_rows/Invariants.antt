-- `pairs::share_rows` meets its contract. The loop's invariant: the rows before x have their shares. Assumes nothing.
use Rattle.pairs.specs.Pairs.{Shares}
use Rattle.pairs.proofs.share_rows.Given as goal

abbrev pub invariant-loop-x : goal.invariant-loop-x
invariant-loop-x l = Shares l.prepared l.a.start l.b l.x l.shares
