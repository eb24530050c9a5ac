-- `search::queue::take_patch` meets its contract. The loop's invariant: those are found whose row is not left. Assumes nothing.
use mathlib.Core.Path.{ap, subst, sym, ◌∙◌}
use native.Mathlib.Omega.{arith}
use Rattle.positions.specs.declared.Below.{Below}
use Rattle.search.specs.Queue.{Found}
use Rattle.search.proofs.Queues.{IsWithin, PatchPast, patch_begins, patch_more, patch_all, within_after}
use Rattle.search.proofs.queue.take_patch.Goals as goal

pub loop-p-init : goal.loop-p-init
loop-p-init c =
    let walk = c.into_iter-p-iterator.ensures.into_iter_gives ∙ c.below-p-items.ensures in
    let args = c.args in (
      subst (λ (b : Below). IsWithin b.left args.patch.rows) (sym walk) (λ p h. h),
      ap (λ (b : Below). b.end) walk,
      subst
          (λ (b : Below). Found (PatchPast args.patch b.left) args.order.now args.fresh.now args.count args.order.now args.fresh.now args.count)
          (sym walk)
          (patch_begins args.patch c.requires.queue),
    )

pub loop-p-preserved : goal.loop-p-preserved
loop-p-preserved c =
    let taken = c.in-Some.ensures.steps in
    let inv = c.loop-p.invariant in
    (within_after taken _ inv.0, taken.same_end ∙ inv.1, patch_more c.args.patch taken inv.0 inv.2 c.take_row-n.ensures)

pub returns : goal.returns
returns c =
    let inv = c.loop-p.invariant in
    patch_all c.args.patch c.in-None.ensures.steps (omega (arith, inv.1)) inv.2
