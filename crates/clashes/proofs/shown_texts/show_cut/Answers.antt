-- `clashes::shown_texts::show_cut` meets its contract: what the search finds is the rule's text. Assumes nothing.
use native.Mathlib.Omega.{arith}
use Prim.Native.Nat.{◌-◌}
use lib.ListN.{length-take}
use Rattle.clashes.proofs.Showing.{cut_rooms, cut_answerable, cut_most, shows_too_long, shows_with_ends}
use Rattle.clashes.proofs.shown_texts.show_cut.Goals as goal

pub find-length-requires : goal.find-length-requires
find-length-requires c = record { rooms = cut_rooms c.requires.room.0 c.requires.room.1 c.requires.room.2 c.cut_quest.ensures; answerable = cut_answerable c.requires.room.0 c.requires.room.1 c.requires.room.2 c.cut_quest.ensures c.requires.cut_asked }

pub returns-then-out-length : goal.returns-then-out-length
returns-then-out-length c = shows_too_long c.requires.room.0 c.requires.room.1 c.requires.room.2 c.cut_quest.ensures c.find-length.ensures (omega (arith, c.if-out-length.true))

pub with_ends-requires : goal.with_ends-requires
with_ends-requires c = (c.requires.room.0, c.requires.room.2, simp length-take (omega (arith, cut_most c.requires.room.0 c.requires.room.1 c.requires.room.2 c.cut_quest.ensures c.find-length.ensures c.requires.cut_asked)))

pub returns : goal.returns
returns c = shows_with_ends c.requires.room.0 c.requires.room.1 c.requires.room.2 c.cut_quest.ensures c.find-length.ensures c.with_ends.result (c.find-length.result - 0) (omega arith) (omega (arith, c.if-out-length.false)) c.with_ends.ensures
