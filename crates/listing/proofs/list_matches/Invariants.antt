-- `listing::list_matches` meets its contract. The loop's invariant: the entries of the parts passed are listed, and what is left of the text, from o on, is parsed as the repeat itself. Assumes nothing.
use Prim.Native.Nat.{◌-◌}
use lib.ListN.{length}
use Rattle.listing.proofs.RepeatEntries.{Repeated}
use Rattle.listing.proofs.list_matches.Given as goal

abbrev pub invariant-loop-o : goal.invariant-loop-o
invariant-loop-o l = Repeated l.bytes l.node l.child l.base l.path l.text l.at l.initial.book l.ends.last l.ends.first l.book l.o

abbrev pub decreases-loop-o : goal.decreases-loop-o
decreases-loop-o l = length l.text - l.o
