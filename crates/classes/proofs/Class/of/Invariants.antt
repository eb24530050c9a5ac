-- `classes::Class::of` meets its contract. The loop's invariant: the class is that of the first i pairs. Assumes nothing.
use Rattle.classes.proofs.Runs.{MadeOf}
use Rattle.classes.proofs.Class.of.Given as goal

abbrev pub invariant-loop-i : goal.invariant-loop-i
invariant-loop-i l = MadeOf l.runs l.i l.class
