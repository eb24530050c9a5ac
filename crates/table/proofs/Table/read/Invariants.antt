-- `table::Table::read` meets its contract: the first round over all nodes. The invariant of the loop is `Passed`.
use Rattle.table.proofs.Rounds.{Passed}
use Rattle.table.proofs.Table.read.Given as goal

abbrev pub invariant-loop-k : goal.invariant-loop-k
invariant-loop-k l = Passed l.bytes l.n l.k l.initial.prepared l.prepared
