-- `walks::alone` meets its contract. The loop's invariant: of the positions that have come the one that was found alone reads the byte. Assumes nothing.
use mathlib.Core.Path.{sym, ◌∙◌}
use Rattle.positions.proofs.Walk.{at_inside}
use Rattle.walks.proofs.Stepping.{one_begins, one_kept, one_found, one_alone}
use Rattle.walks.proofs.alone.Goals as goal

pub loop-p-init : goal.loop-p-init
loop-p-init c = one_begins c.into_iter-p-iterator.ensures.into_iter_gives c.below-p-items.ensures

pub stands-requires : goal.stands-requires
stands-requires c = c.requires.rows c.in-Some.p (at_inside c.loop-p.invariant.comes c.in-Some.ensures.steps)

pub loop-p-preserved-then-stands : goal.loop-p-preserved-then-stands
loop-p-preserved-then-stands c = one_found c.in-Some.ensures.steps c.loop-p.found (sym c.is_some.ensures ∙ c.if-is_some.false) c.loop-p.invariant (sym c.stands.ensures ∙ c.if-stands.true)

pub loop-p-preserved : goal.loop-p-preserved
loop-p-preserved c = one_kept c.in-Some.ensures.steps c.loop-p.found c.loop-p.invariant (sym c.stands.ensures ∙ c.if-stands.false)

pub returns : goal.returns
returns c = one_alone c.in-None.ensures.steps c.loop-p.found c.loop-p.invariant
