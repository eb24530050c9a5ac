-- `pairs::pour` meets its contract. The loop's invariant: the rows that have come have gained their pairs. Assumes nothing.
use Rattle.pairs.proofs.Spreads.{PouredOn}
use Rattle.pairs.proofs.pour.Given as goal

abbrev pub invariant-loop-x : goal.invariant-loop-x
invariant-loop-x l = PouredOn l.shares l.fn.xs l.ys l.fn.count l.x-iterator l.initial.cells l.cells l.initial.now_due l.now_due
