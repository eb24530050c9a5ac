-- `cuts::first_loop` meets its contract. The loop's invariant: no step among the first i positions goes from a last position to a first one. Assumes nothing.
use Rattle.positions.specs.Positions.{holds}
use Rattle.cuts.proofs.Readings.{Unlooped}
use Rattle.cuts.proofs.first_loop.Given as goal

abbrev pub invariant-loop-i : goal.invariant-loop-i
invariant-loop-i l = Unlooped (holds l.fn.last) (holds l.fn.first) l.path l.i
