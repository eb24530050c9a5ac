-- `listing::list` and `list_parts` meet their contracts: a cycle of calls, whose measure is twice the node's number. Arms, cuts
-- and parts are read off the least path of the text. The loop's invariant: the entries of the parts passed are listed, and what is left of
-- the text, from o on, is parsed as the repeat itself. Assumes nothing.
use Prim.Native.Nat.{◌+◌, ◌*◌, ◌-◌}
use lib.ListN.{length}
use Rattle.listing.proofs.RepeatEntries.{Repeated}
use Rattle.listing.proofs.+list_list_parts.Given as goal

abbrev pub decreases-list : goal.decreases-list
decreases-list l = 2 * l.node + 1

abbrev pub decreases-list_parts : goal.decreases-list_parts
decreases-list_parts l = 2 * l.node

abbrev pub invariant-list_parts-loop-o : goal.invariant-list_parts-loop-o
invariant-list_parts-loop-o l = Repeated l.bytes l.node l.child l.base l.path l.text l.at l.initial.book l.ends.last l.ends.first l.book l.o

abbrev pub decreases-list_parts-loop-o : goal.decreases-list_parts-loop-o
decreases-list_parts-loop-o l = length l.text - l.o
