-- `language::read` meets its contract. The loop's invariant: the byte was read at the positions that have come. Assumes nothing.
use mathlib.Core.Path.{refl, sym, ◌∙◌}
use Rattle.laws.specs.Basics.{not_both}
use Rattle.positions.specs.Positions.{holds}
use Rattle.language.specs.Sets.{Standing}
use Rattle.language.proofs.Gathering.{grown_not, grown_by, grown_with}
use Rattle.language.proofs.Walking.{walk_begins, walk_due, walk_on, walk_all}
use Rattle.language.proofs.read.Goals as goal

pub loop-p-init : goal.loop-p-init
loop-p-init c =
    let begun = c.into_iter-p-iterator.ensures.into_iter_gives in (
      walk_begins (λ p q g. g.held) begun c.below-p-items.ensures c.empty-reached.ensures,
      walk_begins (λ p q g. g.stood.held) begun c.below-p-items.ensures c.empty-onward.ensures,
    )

pub stands-requires : goal.stands-requires
stands-requires c = c.requires.rows c.in-Some.p (walk_due c.loop-p.invariant.0 c.in-Some.ensures.steps).0

pub loop-p-preserved-then-stands : goal.loop-p-preserved-then-stands
loop-p-preserved-then-stands c =
    let p = c.in-Some.p in
    let taken = c.in-Some.ensures.steps in
    let there : Standing c.args.prepared.now c.args.a c.args.due c.args.byte p p =
    record { itself = refl; held = (walk_due c.loop-p.invariant.0 taken).1; stands = sym c.stands.ensures ∙ c.if-stands.true } in (
      walk_on c.loop-p.invariant.0 taken (grown_with _ p c.loop-p.reached c.with-reached.result c.with-reached.ensures (λ q g. g.itself) there),
      walk_on c.loop-p.invariant.1 taken
          (grown_by _ (holds c.follow.result) c.loop-p.onward c.union-onward.result c.union-onward.ensures
          (λ q. (λ e. record { stood = there; follows = rw c.follow.ensures at e }, λ g. rw c.follow.ensures g.follows))),
    )

pub loop-p-preserved : goal.loop-p-preserved
loop-p-preserved c =
    let taken = c.in-Some.ensures.steps in
    let not-standing = sym c.stands.ensures ∙ c.if-stands.false in (
      walk_on c.loop-p.invariant.0 taken (grown_not _ c.loop-p.reached (λ q g. not_both g.stands not-standing)),
      walk_on c.loop-p.invariant.1 taken (grown_not _ c.loop-p.onward (λ q g. not_both g.stood.stands not-standing)),
    )

pub returns : goal.returns
returns c =
    let done = c.in-None.ensures.steps in
    record { reached_are = walk_all c.loop-p.invariant.0 done; onward_are = walk_all c.loop-p.invariant.1 done }
