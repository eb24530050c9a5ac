-- `spelling::mark_layer` meets its contract. The loop's invariant: the entries so far are dealt with; which pairs come is told by the other table,
-- which stays. Assumes nothing.
use Rattle.search.specs.Pairs.{graph_of}
use Rattle.spelling.specs.Texts.{Comes, Marked}
use Rattle.spelling.proofs.Writing.{AmongTo}
use Rattle.spelling.proofs.mark_layer.Given as goal

abbrev pub invariant-loop-pair : goal.invariant-loop-pair
invariant-loop-pair l =
    Marked (graph_of l.prepared l.search.quest.now l.search.leads.now) (Comes l.search.quest.now l.search.leads.now l.initial.alive l.i) (AmongTo l.layer l.pair-index) l.i l.byte l.initial.alive l.alive
