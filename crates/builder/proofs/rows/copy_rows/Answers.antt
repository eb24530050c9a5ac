-- `builder::rows::copy_rows` meets its contract. The invariant: the rows below p are copied. Assumes nothing.
use Rattle.builder.proofs.Steps.{copied_none, copied_more}
use native.Mathlib.Omega.{arith}
use mathlib.Core.Path.{◌≡◌, ap, ◌∙◌}
use mathlib.Core.Bool.{Bool, ◌&&◌}
use Rattle.positions.specs.Positions.{holds}
use Rattle.builder.proofs.rows.copy_rows.Goals as goal

pub loop-p-init : goal.loop-p-init
loop-p-init c = copied_none c.args.from c.args.to c.args.up c.args.last c.args.more _

pub overflow_add-from : goal.overflow_add-from
overflow_add-from c = omega (arith, c.loop-p.invariant.rest.same_length)

pub overflow_add-to : goal.overflow_add-to
overflow_add-to c = omega (arith, c.loop-p.invariant.rest.same_length)

pub copy_row-requires : goal.copy_row-requires
copy_row-requires c = omega (arith, c.loop-p.invariant.rest.same_length)

pub loop-p-preserved : goal.loop-p-preserved
loop-p-preserved c =
    copied_more c.args.from c.args.to c.args.up c.args.last c.args.more c.loop-p.p _ _ _ c.only_if-gained.result (omega arith)
    (λ q. c.only_if-gained.ensures q ∙ ap (λ (b : Bool). b && holds c.args.more q) c.has.ensures)
    c.loop-p.invariant
    c.copy_row.ensures.row_copied
    c.copy_row.ensures.kept

pub shape_of-prepared : goal.shape_of-prepared
shape_of-prepared c = c.loop-p.invariant.rest.same_length

pub returns : goal.returns
returns c =
    let same : c.loop-p.p ≡ c.args.count = omega arith in
    rw same at c.loop-p.invariant
