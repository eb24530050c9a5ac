-- `language::step_back` meets its contract, by the law of a step backward. The loop's invariant: the set has what the positions give that have
-- come. Assumes nothing.
use mathlib.Core.Path.{◌≡◌, refl, sym, ◌∙◌}
use Prim.Native.Nat.{ℕ}
use borrow.Author.Rules.{rules}
use Rattle.std.proofs.Common.{tests}
use Rattle.laws.specs.Basics.{not_both}
use Rattle.positions.specs.Positions.{holds}
use Rattle.language.proofs.Gathering.{grown_not, grown_by}
use Rattle.language.proofs.Walking.{walk_from, walk_due, walk_on, walk_all}
use Rattle.language.proofs.Steps.{behind_steps}
use Rattle.language.proofs.step_back.Goals as goal

pub loop-p-init : goal.loop-p-init
loop-p-init c =
    let same : (p : ℕ) → holds c.into_iter-p-iterator.result.left p ≡ holds c.args.behind p = λ p. search (rules, tests) in
    walk_from (λ p q g. g.stood.held) (search rules) same c.empty-set.ensures

pub stands-requires : goal.stands-requires
stands-requires c = c.requires.room.rows c.in-Some.p (walk_due c.loop-p.invariant c.in-Some.ensures.steps).0

pub loop-p-preserved-then-stands : goal.loop-p-preserved-then-stands
loop-p-preserved-then-stands c =
    let there = sym c.stands.ensures ∙ c.if-stands.true in
    let (inside, due) = walk_due c.loop-p.invariant c.in-Some.ensures.steps in
    let led = (c.requires.leads.led c.if-leads-lt-LEADS.false).led_iff c.in-Some.p inside in
    walk_on c.loop-p.invariant c.in-Some.ensures.steps
    (grown_by _ (holds c.set_at.result) c.loop-p.set c.union-set.result c.union-set.ensures
    (λ q. (
      λ e. let (l, f) = (led q).0 (rw c.set_at.ensures at e) in record { stood = record { itself = refl; held = due; stands = there }; inside = l; leads = f },
      λ g. rw c.set_at.ensures ((led q).1 (g.inside, g.leads)),
    )))

pub loop-p-preserved : goal.loop-p-preserved
loop-p-preserved c = walk_on c.loop-p.invariant c.in-Some.ensures.steps (grown_not _ c.loop-p.set (λ q g. not_both g.stood.stands (sym c.stands.ensures ∙ c.if-stands.false)))

pub returns : goal.returns
returns c = record { stepped = λ r d t known. behind_steps c.requires.room d known (walk_all c.loop-p.invariant c.in-None.ensures.steps) }
