-- `language::fill_leads` meets its contract. The loop's invariant: the sets have those below q. Assumes nothing.
use Rattle.language.specs.Sets.{Led}
use Rattle.language.proofs.fill_leads.Given as goal

abbrev pub invariant-loop-q : goal.invariant-loop-q
invariant-loop-q l = Led l.prepared l.a l.q l.leads
