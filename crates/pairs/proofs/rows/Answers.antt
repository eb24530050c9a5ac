-- `pairs::rows` meets its contract. The loop's invariant: the rows of the positions that have come are gathered. Assumes nothing.
use mathlib.Core.Path.{sym, ap₂, ◌∙◌}
use mathlib.Core.Bool.{Bool, ◌&&◌, ◌||◌}
use native.Mathlib.Omega.{arith}
use Rattle.positions.specs.declared.Set.{Set}
use Rattle.positions.specs.Positions.{holds}
use Rattle.positions.proofs.Walk.{at_inside}
use Rattle.pairs.proofs.Cells.{on_begins, on_next, on_end}
use Rattle.pairs.proofs.rows.Goals as goal

pub loop-x-init : goal.loop-x-init
loop-x-init c = on_begins (λ p q e. rw e) c.into_iter-x-iterator.ensures.into_iter_gives c.below-x-items.ensures c.empty-out.ensures

pub row-requires : goal.row-requires
row-requires c = omega (arith, at_inside c.loop-x.invariant.comes c.in-Some.ensures.steps)

pub loop-x-preserved : goal.loop-x-preserved
loop-x-preserved c =
    on_next (λ p q e. rw e) c.loop-x.invariant c.in-Some.ensures.steps
    (λ q there. c.union-out.ensures q ∙ ap₂ (λ (t : Bool) (f : Set). t && holds f q || holds c.loop-x.out q) (sym there) c.row.ensures)

pub returns : goal.returns
returns c = on_end (λ p q e. rw e) c.loop-x.invariant c.in-None.ensures.steps
