-- `walks::lowest` meets its contract. The loop's invariant: none of the positions that have come reads the byte. Assumes nothing.
use mathlib.Core.Path.{sym, ◌∙◌}
use Rattle.positions.proofs.Walk.{at_inside}
use Rattle.std.specs.Prelude.{None}
use Rattle.walks.proofs.Stepping.{one_begins, lowest_here, one_kept, none_reads}
use Rattle.walks.proofs.lowest.Goals as goal

pub loop-p-init : goal.loop-p-init
loop-p-init c = one_begins c.into_iter-p-iterator.ensures.into_iter_gives c.below-p-items.ensures

pub stands-requires : goal.stands-requires
stands-requires c = c.requires.rows c.in-Some.p (at_inside c.loop-p.invariant.comes c.in-Some.ensures.steps)

pub returns-then-stands : goal.returns-then-stands
returns-then-stands c = lowest_here c.in-Some.ensures.steps c.loop-p.invariant (sym c.stands.ensures ∙ c.if-stands.true)

pub loop-p-preserved : goal.loop-p-preserved
loop-p-preserved c = one_kept c.in-Some.ensures.steps None c.loop-p.invariant (sym c.stands.ensures ∙ c.if-stands.false)

pub returns : goal.returns
returns c = none_reads c.in-None.ensures.steps c.loop-p.invariant
