-- The proof of the cycle of calls {put, put_join, put_parts, write}: the node falls. `put` at a node has the measure 3 * node + 1, and `write` there, which
-- calls it, one more; between it and the measures of lower nodes lie those of the join of two of them, and of the repeat that the node is. In the loop of
-- the repeat, what is written so far is what the parts so far put, and the rest of the sheet and of the old text is parsed. Assumes nothing.
use Prim.Native.Nat.{◌+◌, ◌-◌, ◌*◌, max}
use lib.ListN.{length}
use Rattle.bookless.proofs.Parts.{PartsPut}
use Rattle.bookless.proofs.+put_put_join_put_parts_write.Given as goal

abbrev pub decreases-put : goal.decreases-put
decreases-put l = 3 * l.spot.node + 1

abbrev pub decreases-put_join : goal.decreases-put_join
decreases-put_join l = 3 * max l.left l.right + 2

abbrev pub decreases-put_parts : goal.decreases-put_parts
decreases-put_parts l = 3 * l.node

abbrev pub decreases-write : goal.decreases-write
decreases-write l = 3 * l.spot.node + 2

abbrev pub invariant-put_parts-loop-o : goal.invariant-put_parts-loop-o
invariant-put_parts-loop-o l =
    PartsPut l.bytes l.prepared l.node l.child l.base l.ends.last l.ends.first l.olds l.new l.path l.deck l.initial.out l.out l.initial.left l.left l.o l.n

abbrev pub decreases-put_parts-loop-o : goal.decreases-put_parts-loop-o
decreases-put_parts-loop-o l =
    length l.new - l.o
