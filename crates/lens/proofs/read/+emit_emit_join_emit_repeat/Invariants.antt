-- The proof of the cycle of calls {emit, emit_join, emit_repeat}: the node falls. `emit` at a node has the measure 2 * node + 1; between it and
-- the measures of lower nodes lie those of the join of two of them, and of the repeat that the node is. In the loop of the repeat, what is
-- written so far is what the parts so far give, and the rest is parsed. Assumes nothing.
use Prim.Native.Nat.{◌+◌, ◌-◌, ◌*◌, max}
use lib.ListN.{length}
use Rattle.lens.proofs.Repeats.{Repeating}
use Rattle.lens.proofs.read.+emit_emit_join_emit_repeat.Given as goal

abbrev pub decreases-emit : goal.decreases-emit
decreases-emit l = 2 * l.node + 1

abbrev pub decreases-emit_join : goal.decreases-emit_join
decreases-emit_join l = 2 * max l.left l.right + 2

abbrev pub decreases-emit_repeat : goal.decreases-emit_repeat
decreases-emit_repeat l = 2 * l.node

abbrev pub invariant-emit_repeat-loop-o : goal.invariant-emit_repeat-loop-o
invariant-emit_repeat-loop-o l =
    Repeating l.bytes l.node l.child l.mode l.base l.ends.last l.ends.first l.path l.text l.initial.out l.out l.o l.n

abbrev pub decreases-emit_repeat-loop-o : goal.decreases-emit_repeat-loop-o
decreases-emit_repeat-loop-o l = length l.text - l.o
