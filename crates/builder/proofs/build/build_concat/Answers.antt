-- `builder::build::build_concat` meets its contract. Assumes nothing.
use Rattle.builder.proofs.Parts.{concat_built}
use native.Mathlib.Omega.{arith}
use mathlib.Core.Path.{ap, ap₂, ◌∙◌}
use Rattle.positions.specs.Positions.{holds}
use mathlib.Core.Bool.{Bool, ◌&&◌, ◌||◌}
use Rattle.builder.proofs.build.build_concat.Goals as goal
use Rattle.builder.proofs.build.build_concat.Goals.{then-left, else-left}

pub put_header-requires : goal.put_header-requires
put_header-requires c = omega (arith, c.requires.space.a_node, c.requires.space.inside, c.join_rows.ensures.rest.same_length)

pub returns : goal.returns
returns c =
    concat_built c.args.slot.node c.args.slot.side c.args.slot.row c.args.left c.args.right _ _ _ _ c.union-first.result c.union-last.result c.requires.space.a_node c.requires.space.few
    c.join_rows.ensures c.put_header.ensures (elim c.if-left.branch [ then-left w ↦ rw (w.nullable-is, w.if-left.true) | else-left w ↦ rw (w.nullable-is, w.if-left.false) ])
    (λ q. c.union-first.ensures q ∙ ap (λ (b : Bool). holds c.args.left.first q || b) (c.only_if.ensures q ∙ ap (λ (b : Bool). c.args.left.nullable && b) (c.moved.ensures q)))
    (λ q. c.union-last.ensures q ∙ ap₂ ◌||◌ (c.only_if-2.ensures q) (c.moved-2.ensures q))
