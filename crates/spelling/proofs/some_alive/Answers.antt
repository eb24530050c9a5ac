-- `spelling::some_alive` meets its contract. The loop's invariant: no pair of the rows that are not left is alive. Assumes nothing.
use mathlib.Core.Path.{refl, sym, subst, ◌∙◌}
use mathlib.Core.Bool.{false≢true}
use native.Mathlib.Omega.{arith}
use Rattle.laws.specs.Basics.{not_both}
use Rattle.positions.specs.Positions.{Shared}
use Rattle.search.proofs.Queues.{within_after, taken_left}
use Rattle.spelling.proofs.Writing.{none_next_lem, some_found, none_found}
use Rattle.spelling.proofs.some_alive.Goals as goal

pub returns-then-meets : goal.returns-then-meets
returns-then-meets c =
    let patch = c.args.patch in
    let taken = c.in-Some.ensures.steps in
    let met = subst (λ s. Shared s patch.columns) c.set_at.ensures (c.meets.ensures.0 c.if-meets.true) in
    (λ e. some_found c.args.alive.now c.args.table patch _ (c.loop-p.invariant.0 _ (taken_left taken)) met, λ some. refl)

pub loop-p-preserved : goal.loop-p-preserved
loop-p-preserved c =
    let patch = c.args.patch in
    let taken = c.in-Some.ensures.steps in
    let inv = c.loop-p.invariant in
    let none = none_next_lem _ _ _ taken inv.2
    (λ met. not_both (c.meets.ensures.1 (subst (λ s. Shared s patch.columns) (sym c.set_at.ensures) met)) c.if-meets.false) in
    (within_after taken _ inv.0, taken.same_end ∙ inv.1, none)

pub returns : goal.returns
returns c =
    let inv = c.loop-p.invariant in
    (λ e. absurd (false≢true e), λ some. absurd (none_found c.args.alive.now c.args.table c.args.patch inv.2 c.in-None.ensures.steps (omega (arith, inv.1)) some))
