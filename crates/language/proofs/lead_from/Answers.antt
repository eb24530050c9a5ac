-- `language::lead_from` meets its contract. The loop's invariant: the sets of the positions that have come have q as well. Assumes nothing.
use Rattle.language.proofs.Leading.{on_begins, on_more, on_all}
use Rattle.language.proofs.lead_from.Goals as goal

pub loop-p-init : goal.loop-p-init
loop-p-init c =
    let next = c.follow-next.ensures in
    on_begins c.into_iter-p-iterator.ensures.into_iter_gives (rw next at c.below-p-items.ensures)

pub loop-p-preserved : goal.loop-p-preserved
loop-p-preserved c =
    let led = c.set_at-led.ensures in
    on_more c.loop-p.invariant c.in-Some.ensures.steps (rw led at c.with.ensures) c.keep.ensures

pub returns : goal.returns
returns c = on_all c.loop-p.invariant c.in-None.ensures.steps
