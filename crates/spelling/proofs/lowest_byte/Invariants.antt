-- `spelling::lowest_byte` meets its contract. The loop's invariant: the byte is the lowest one of the entries so far. Assumes nothing.
use Rattle.search.specs.Pairs.{graph_of}
use Rattle.spelling.specs.Texts.{Comes}
use Rattle.spelling.proofs.Writing.{LowestTo}
use Rattle.spelling.proofs.lowest_byte.Given as goal

abbrev pub invariant-loop-pair : goal.invariant-loop-pair
invariant-loop-pair l = LowestTo (graph_of l.prepared l.search.quest.now l.search.leads.now) (Comes l.search.quest.now l.search.leads.now l.alive l.i) l.layer l.pair-index l.lowest
