-- `walks::walk_alone` meets its contract. The loop's invariant: the path has come as far as the walk that passed `passed` last, what may follow that is due, and the steps that are
-- kept are right. Assumes nothing.
use Rattle.walks.specs.Walking.{Walked, walk_at, DueBehind, StepsKept}
use Rattle.walks.proofs.walk_alone.Given as goal

abbrev pub invariant-loop-i : goal.invariant-loop-i
invariant-loop-i l = Walked l.prepared l.a l.text l.path (walk_at l.a l.i l.passed l.due) × DueBehind l.prepared l.a l.passed l.due × StepsKept l.prepared l.a l.steps
