-- `builder::build::put_letters` meets its contract. The invariant: the letters below p have their rows. Assumes nothing.
use Rattle.builder.proofs.Parts.{lettered_none, lettered_more}
use native.Mathlib.Omega.{arith}
use mathlib.Core.Path.{◌≡◌}
use lib.ListN.{length}
use Rattle.builder.proofs.build.put_letters.Goals as goal

pub loop-p-init : goal.loop-p-init
loop-p-init c = lettered_none c.args.row c.args.letters.now _

pub overflow_add-row : goal.overflow_add-row
overflow_add-row c = omega (arith, c.loop-p.invariant.rest.same_length)

pub put_row-requires : goal.put_row-requires
put_row-requires c = omega (arith, c.loop-p.invariant.rest.same_length)

pub loop-p-preserved : goal.loop-p-preserved
loop-p-preserved c = lettered_more c.args.row c.loop-p.p c.args.letters.now _ _ _ c.single-next.result (omega (arith, c.type_inv.letters c.loop-p.p)) c.single-next.ensures c.loop-p.invariant (rw c.from.ensures at c.put_row.ensures)

pub shape_of-prepared : goal.shape_of-prepared
shape_of-prepared c = c.loop-p.invariant.rest.same_length

pub returns : goal.returns
returns c =
    let same : c.loop-p.p ≡ length c.args.letters.now = omega arith in
    rw same at c.loop-p.invariant
