-- `steps::count_parts` meets its contract. The loop's invariant: the parts in front of o are counted. Assumes nothing.
use Prim.Native.Nat.{◌-◌}
use lib.ListN.{length}
use Rattle.steps.proofs.Counting.{CountedTo}
use Rattle.steps.proofs.count_parts.Given as goal

abbrev pub invariant-loop-o : goal.invariant-loop-o
invariant-loop-o l = CountedTo l.path l.ends l.o l.n

abbrev pub decreases-loop-o : goal.decreases-loop-o
decreases-loop-o l = length l.path - l.o
