use Rattle.plains.proofs.Parts.{Parting}
use Rattle.std.proofs.Common.{◌≡◌, ◌+◌, ◌-◌, ◌*◌, length}
use Rattle.writer.proofs.write.+create_put_write_match_write_parts_write_repeat.Given as goal

abbrev pub decreases-create : goal.decreases-create
decreases-create l = 4 * l.spot.node + 2

abbrev pub decreases-put : goal.decreases-put
decreases-put l = 4 * l.spot.node + 2

abbrev pub decreases-write_match : goal.decreases-write_match
decreases-write_match l = 4 * l.spot.node + 3

abbrev pub decreases-write_parts : goal.decreases-write_parts
decreases-write_parts l = 4 * l.spot.node

abbrev pub decreases-write_repeat : goal.decreases-write_repeat
decreases-write_repeat l = 4 * l.spot.node + 1

abbrev pub invariant-write_parts-loop-o : goal.invariant-write_parts-loop-o
invariant-write_parts-loop-o l =
    Parting l.bytes l.prepared l.child l.base l.ends.last l.ends.first l.olds l.new l.deck l.initial.left l.initial.done l.initial.out l.path l.left l.o l.out l.done
    × (length l.path ≡ length l.initial.path)
    × (length l.card ≡ length l.initial.card)
    × (length l.out ≡ length l.initial.out)

abbrev pub decreases-write_parts-loop-o : goal.decreases-write_parts-loop-o
decreases-write_parts-loop-o l = length l.new - l.o
