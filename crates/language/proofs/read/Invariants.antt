-- `language::read` meets its contract. The loop's invariant: the byte was read at the positions that have come. Assumes nothing.
use Rattle.language.specs.Sets.{Standing, Onward}
use Rattle.language.proofs.Walking.{GatheredOn}
use Rattle.language.proofs.read.Given as goal

abbrev pub invariant-loop-p : goal.invariant-loop-p
invariant-loop-p l =
    GatheredOn (Standing l.prepared l.a l.fn.due l.byte) l.fn.due l.a.count l.p-iterator l.reached
    × GatheredOn (Onward l.prepared l.a l.fn.due l.byte) l.fn.due l.a.count l.p-iterator l.onward
