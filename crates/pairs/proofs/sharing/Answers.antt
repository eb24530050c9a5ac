-- `pairs::sharing` meets its contract. The loop's invariant: the positions below p that share a byte are gathered. Assumes nothing.
use mathlib.Core.Path.{◌≡◌, sym, ap, ◌∙◌}
use mathlib.Core.Bool.{Bool, ◌&&◌, ◌||◌}
use native.Mathlib.Omega.{arith}
use lib.Dec.{eqb}
use Rattle.positions.specs.Positions.{holds}
use Rattle.pairs.proofs.Cells.{gathered_none, gathered_more}
use Rattle.pairs.proofs.sharing.Goals.{then-share, else-share}
use Rattle.pairs.proofs.sharing.Goals as goal

pub loop-p-init : goal.loop-p-init
loop-p-init c = gathered_none c.empty-out.ensures

pub share-requires : goal.share-requires
share-requires c = record { row_room = c.requires.row_room; row_room_2 = c.requires.room.rows c.loop-p.p (omega arith) }

pub loop-p-preserved : goal.loop-p-preserved
loop-p-preserved c =
    gathered_more c.loop-p.invariant
    (λ q.
    elim c.if-share.branch [
      | then-share w ↦ rw w.out-is (w.with-out.ensures q ∙ ap (λ (t : Bool). t && eqb q c.loop-p.p || holds c.loop-p.out q) (sym w.if-share.true ∙ c.share.ensures))
      | else-share w ↦ rw w.out-is (ap (λ (t : Bool). t && eqb q c.loop-p.p || holds c.loop-p.out q) (sym w.if-share.false ∙ c.share.ensures))
    ])

pub returns : goal.returns
returns c = let all : c.loop-p.p ≡ c.args.b.count = omega arith in rw all at c.loop-p.invariant
