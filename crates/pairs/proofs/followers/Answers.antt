-- `pairs::followers` meets its contract. The loop's invariant: what the positions give that have come is gathered. Assumes nothing.
use mathlib.Core.Path.{sym, ap₂, ◌∙◌}
use mathlib.Core.Bool.{Bool, ◌&&◌, ◌||◌}
use native.Mathlib.Omega.{arith}
use Rattle.positions.specs.declared.Set.{Set}
use Rattle.positions.specs.Positions.{holds}
use Rattle.positions.proofs.Walk.{at_inside}
use Rattle.pairs.proofs.Cells.{on_begins, on_next, on_end}
use Rattle.pairs.proofs.followers.Goals as goal

pub loop-p-init : goal.loop-p-init
loop-p-init c = on_begins (λ p q e. rw e) c.into_iter-p-iterator.ensures.into_iter_gives c.below-p-items.ensures c.empty-out.ensures

pub follow-requires : goal.follow-requires
follow-requires c = omega (arith, c.requires.inside, at_inside c.loop-p.invariant.comes c.in-Some.ensures.steps)

pub loop-p-preserved : goal.loop-p-preserved
loop-p-preserved c =
    on_next (λ p q e. rw e) c.loop-p.invariant c.in-Some.ensures.steps
    (λ q there. c.union-out.ensures q ∙ ap₂ (λ (t : Bool) (f : Set). t && holds f q || holds c.loop-p.out q) (sym there) c.follow.ensures)

pub returns : goal.returns
returns c = on_end (λ p q e. rw e) c.loop-p.invariant c.in-None.ensures.steps
