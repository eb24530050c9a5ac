-- `builder::build::build_alt` meets its contract. Assumes nothing.
use Rattle.builder.proofs.Parts.{alt_built}
use mathlib.Core.Path.{ap, ◌∙◌}
use Rattle.positions.specs.Positions.{holds}
use mathlib.Core.Bool.{Bool, ◌||◌}
use Rattle.builder.proofs.build.build_alt.Goals as goal
use Rattle.builder.proofs.build.build_alt.Goals.{then-left, else-left}

pub returns : goal.returns
returns c =
    alt_built c.args.slot.node c.args.slot.side c.args.slot.row c.args.left c.args.right _ _ _ _ c.union-first.result c.union-last.result c.requires.space.a_node c.requires.space.few
    c.empty.result c.empty.ensures c.join_rows.ensures c.put_header.ensures (elim c.if-left.branch [ then-left w ↦ rw (w.nullable-is, w.if-left.true) | else-left w ↦ rw (w.nullable-is, w.if-left.false) ])
    (λ q. c.union-first.ensures q ∙ ap (λ (b : Bool). holds c.args.left.first q || b) (c.moved.ensures q))
    (λ q. c.union-last.ensures q ∙ ap (λ (b : Bool). holds c.args.left.last q || b) (c.moved-2.ensures q))
