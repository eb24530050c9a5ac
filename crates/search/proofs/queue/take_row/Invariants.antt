-- `search::queue::take_row` meets its contract. The loop's invariant: those are found whose column is not left. Assumes nothing.
use mathlib.Core.Path.{◌≡◌}
use Rattle.search.specs.Queue.{Found}
use Rattle.search.proofs.Queues.{IsWithin, RowPast}
use Rattle.search.proofs.queue.take_row.Given as goal

abbrev pub invariant-loop-column : goal.invariant-loop-column
invariant-loop-column l =
    IsWithin l.column-iterator.left l.initial.column-iterator.left × (l.column-iterator.end ≡ 128)
    × Found (RowPast l.row l.initial.column-iterator.left l.column-iterator.left) l.initial.order l.initial.fresh l.count l.order l.fresh l.n
