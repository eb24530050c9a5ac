-- `language::step_back` meets its contract, by the law of a step backward. The loop's invariant: the set has what the positions give that have
-- come. Assumes nothing.
use Rattle.language.specs.Sets.{Back}
use Rattle.language.proofs.Walking.{GatheredOn}
use Rattle.language.proofs.step_back.Given as goal

abbrev pub invariant-loop-p : goal.invariant-loop-p
invariant-loop-p l = GatheredOn (Back l.prepared l.a l.fn.behind l.byte) l.fn.behind l.a.count l.p-iterator l.set
