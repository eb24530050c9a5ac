-- `language::step_back_asking` meets its contract, by the law of a step backward. The loop's invariant: the set has those below q that one of
-- `here` may follow. Assumes nothing.
use Rattle.language.specs.Sets.{Gathered, Meeting}
use Rattle.language.proofs.step_back_asking.Given as goal

abbrev pub invariant-loop-q : goal.invariant-loop-q
invariant-loop-q l = Gathered (Meeting l.prepared l.a l.here) l.q l.set
