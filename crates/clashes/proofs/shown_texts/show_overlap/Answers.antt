-- `clashes::shown_texts::show_overlap` meets its contract: the empty text if it belongs to both arms, else what the search finds. Assumes nothing.
use mathlib.Core.Path.{◌≡◌}
use mathlib.Core.Bool.{false}
use mathlib.Core.Logic.{◌⊎◌, inl, inr}
use Rattle.clashes.proofs.Showing.{shows_both_empty, arm_rooms, arm_answerable, shows_both}
use Rattle.clashes.proofs.shown_texts.show_overlap.Goals as goal
use Rattle.clashes.proofs.shown_texts.show_overlap.Goals.{else-left-via-then-left+else-right, else-left-via-else-left}

pub returns-then-right : goal.returns-then-right
returns-then-right c = shows_both_empty _ c.if-left.true c.if-right.true

pub find-requires : goal.find-requires
find-requires c = let one-not : (c.args.left.nullable ≡ false) ⊎ (c.args.right.nullable ≡ false) = elim c.else-left.branch [ else-left-via-then-left+else-right w ↦ inr w.if-right.false | else-left-via-else-left w ↦ inl w.if-left.false ] in record { rooms = arm_rooms c.requires.room.0 c.requires.room.1 c.arm_quest.ensures one-not; answerable = arm_answerable c.requires.room.0 c.requires.room.1 c.arm_quest.ensures one-not c.requires.arm_asked }

pub returns : goal.returns
returns c = shows_both c.requires.room.0 c.requires.room.1 c.arm_quest.ensures (elim c.else-left.branch [ else-left-via-then-left+else-right w ↦ inr w.if-right.false | else-left-via-else-left w ↦ inl w.if-left.false ]) c.find.ensures
