-- The proof of the cycle of calls {create_plain, parts_plain, put_plain, repeat_plain}: the node falls. In the loop of the parts, what is written so far is what the parts so far put, with
-- whatever book is asked nothing. Assumes nothing.
use Rattle.plains.specs.Writing.{AsksNone, done_with}
use Rattle.plains.proofs.Parts.{Parting}
use Rattle.books.specs.declared.Book.{Book}
use Rattle.books.specs.Looking.{BookOver}
use lib.ListN.{length}
use Prim.Native.Nat.{◌+◌, ◌-◌, ◌*◌}
use mathlib.Core.Path.{◌≡◌}
use Rattle.plains.proofs.plain.+create_plain_parts_plain_put_plain_repeat_plain.Given as goal

abbrev pub decreases-create_plain : goal.decreases-create_plain
decreases-create_plain l = 4 * l.spot.node + 2

abbrev pub decreases-parts_plain : goal.decreases-parts_plain
decreases-parts_plain l = 4 * l.spot.node

abbrev pub decreases-put_plain : goal.decreases-put_plain
decreases-put_plain l = 4 * l.spot.node + 2

abbrev pub decreases-repeat_plain : goal.decreases-repeat_plain
decreases-repeat_plain l = 4 * l.spot.node + 1

abbrev pub invariant-parts_plain-loop-o : goal.invariant-parts_plain-loop-o
invariant-parts_plain-loop-o l =
    ((b : Book) → BookOver 4096 b → AsksNone l.below l.child b → Parting l.bytes l.prepared l.child l.base l.ends.last l.ends.first l.olds l.new l.deck l.initial.left (done_with l.initial.plain b) l.initial.out l.path l.left l.o l.out (done_with l.plain b))
    × (length l.path ≡ length l.initial.path)
    × (length l.out ≡ length l.initial.out)

abbrev pub decreases-parts_plain-loop-o : goal.decreases-parts_plain-loop-o
decreases-parts_plain-loop-o l = length l.new - l.o
