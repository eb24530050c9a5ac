-- `search::queue::visit_layer` meets its contract. The loop's invariant: those before one of the entries before i are found. Assumes nothing.
use Rattle.search.specs.Queue.{Found, Before}
use Rattle.search.proofs.queue.visit_layer.Given as goal

abbrev pub invariant-loop-i : goal.invariant-loop-i
invariant-loop-i l = Found (Before l.search.quest.now l.search.leads.now l.initial.order l.from l.i) l.initial.order l.initial.fresh l.to l.order l.fresh l.n
