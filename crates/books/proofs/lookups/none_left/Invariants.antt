-- `books::lookups::none_left` meets its contract. The loop's invariant: no unused entry before i is of the child. Assumes nothing.
use Rattle.books.specs.Looking.{NoneWaits}
use Rattle.books.proofs.lookups.none_left.Given as goal

abbrev pub invariant-loop-i : goal.invariant-loop-i
invariant-loop-i l = NoneWaits l.used l.children l.child l.i
