-- `pairs::pour` meets its contract. The loop's invariant: the rows that have come have gained their pairs. Assumes nothing.
use borrow.Author.Rules.{rules}
use Rattle.pairs.proofs.Spreads.{poured_begins, poured_next, poured_end}
use Rattle.pairs.proofs.pour.Goals as goal

pub loop-x-init : goal.loop-x-init
loop-x-init c = poured_begins c.into_iter-x-iterator.ensures.into_iter_gives c.below-x-items.ensures

pub pour_at-now_due-requires : goal.pour_at-now_due-requires
pour_at-now_due-requires c = (c.in-Some.ensures.steps.small, c.requires.1, search rules)

pub loop-x-preserved : goal.loop-x-preserved
loop-x-preserved c = poured_next c.loop-x.invariant c.in-Some.ensures.steps (λ there. c.pour_at-now_due.ensures c.args.xs there)

pub returns : goal.returns
returns c = poured_end c.loop-x.invariant c.in-None.ensures.steps
