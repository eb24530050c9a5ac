-- `language::standing` meets its contract. The loop's invariant: the set has what the positions give that have come. Assumes nothing.
use mathlib.Core.Path.{refl, sym, ◌∙◌}
use Rattle.laws.specs.Basics.{not_both}
use Rattle.language.proofs.Gathering.{grown_not, grown_with}
use Rattle.language.proofs.Walking.{walk_begins, walk_due, walk_on, walk_all}
use Rattle.language.proofs.standing.Goals as goal

pub loop-p-init : goal.loop-p-init
loop-p-init c = walk_begins (λ p q g. g.held) c.into_iter-p-iterator.ensures.into_iter_gives c.below-p-items.ensures c.empty-set.ensures

pub stands-requires : goal.stands-requires
stands-requires c = c.requires.rows c.in-Some.p (walk_due c.loop-p.invariant c.in-Some.ensures.steps).0

pub loop-p-preserved-then-stands : goal.loop-p-preserved-then-stands
loop-p-preserved-then-stands c =
    let there = sym c.stands.ensures ∙ c.if-stands.true in
    let due = (walk_due c.loop-p.invariant c.in-Some.ensures.steps).1 in
    walk_on c.loop-p.invariant c.in-Some.ensures.steps (grown_with _ c.in-Some.p c.loop-p.set c.with-set.result c.with-set.ensures (λ q g. g.itself) (record { itself = refl; held = due; stands = there }))

pub loop-p-preserved : goal.loop-p-preserved
loop-p-preserved c = walk_on c.loop-p.invariant c.in-Some.ensures.steps (grown_not _ c.loop-p.set (λ q g. not_both g.stands (sym c.stands.ensures ∙ c.if-stands.false)))

pub returns : goal.returns
returns c = walk_all c.loop-p.invariant c.in-None.ensures.steps
