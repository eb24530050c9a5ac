-- `pairs::rows` meets its contract. The loop's invariant: the rows of the positions that have come are gathered. Assumes nothing.
use Rattle.pairs.specs.Pairs.{by_row}
use Rattle.pairs.proofs.Cells.{GatheredOn}
use Rattle.pairs.proofs.rows.Given as goal

abbrev pub invariant-loop-x : goal.invariant-loop-x
invariant-loop-x l = GatheredOn (by_row l.cells l.fn.set) l.fn.set l.fn.count l.x-iterator l.out
