-- `language::standing` meets its contract. The loop's invariant: the set has what the positions give that have come. Assumes nothing.
use Rattle.language.specs.Sets.{Standing}
use Rattle.language.proofs.Walking.{GatheredOn}
use Rattle.language.proofs.standing.Given as goal

abbrev pub invariant-loop-p : goal.invariant-loop-p
invariant-loop-p l = GatheredOn (Standing l.prepared l.a l.fn.due l.byte) l.fn.due l.a.count l.p-iterator l.set
