-- `spelling::may_come` meets its contract, for the first byte and for a later one. Assumes nothing.
use mathlib.Core.Path.{sym, subst, ◌∙◌}
use mathlib.Core.Logic.{inl, inr, ⊎_elim}
use Prim.Native.Nat.{◌-◌, ◌*◌, ◌/◌, ◌%◌}
use native.Mathlib.Omega.{arith}
use Rattle.laws.specs.Basics.{not_both}
use Rattle.search.specs.Pairs.{PatchFits}
use Rattle.search.proofs.Queues.{before_fits, linked_fits}
use Rattle.spelling.proofs.Writing.{AliveIn, comes_first, comes_later}
use Rattle.spelling.proofs.may_come.Goals as goal

pub returns-then-i-eq0 : goal.returns-then-i-eq0
returns-then-i-eq0 c =
    let args = c.args in
    let first = comes_first args.search.quest.now args.search.leads.now args.alive.now args.i args.pair c.if-i-eq0.true in
    (λ e. first.1 (sym c.begins.ensures ∙ e), λ come. c.begins.ensures ∙ first.0 come)

pub some_alive-requires : goal.some_alive-requires
some_alive-requires c =
    let pair = c.args.pair in
    (c.requires.0, omega arith, subst PatchFits (sym c.before-2.ensures) (before_fits c.args.search.leads.now (pair / 128) (pair % 128)))

pub some_alive-requires-else-some_alive : goal.some_alive-requires-else-some_alive
some_alive-requires-else-some_alive c =
    let pair = c.args.pair in
    (c.requires.0, omega arith, subst PatchFits (sym c.linked.ensures) (linked_fits c.args.search.quest.now c.args.search.leads.now (pair / 128) (pair % 128)))

pub returns-then-some_alive : goal.returns-then-some_alive
returns-then-some_alive c =
    let args = c.args in
    let alive = args.alive.now in
    let table = 256 * ((args.i - 1) % 2) in
    let later = comes_later args.search.quest.now args.search.leads.now alive args.i args.pair (omega arith) in
    (λ e. later.1 (inl (subst (AliveIn alive table) c.before-2.ensures (c.some_alive.ensures.0 e))), λ come. c.if-some_alive.true)

pub returns-else-some_alive : goal.returns-else-some_alive
returns-else-some_alive c =
    let args = c.args in
    let alive = args.alive.now in
    let table = 256 * ((args.i - 1) % 2) in
    let later = comes_later args.search.quest.now args.search.leads.now alive args.i args.pair (omega arith) in (
      λ e. later.1 (inr (subst (AliveIn alive table) c.linked.ensures (c.some_alive-else-some_alive.ensures.0 e))),
      λ come.
          ⊎_elim
          (λ own. absurd (not_both (c.some_alive.ensures.1 (subst (AliveIn alive table) (sym c.before-2.ensures) own)) c.if-some_alive.false))
          (λ other. c.some_alive-else-some_alive.ensures.1 (subst (AliveIn alive table) (sym c.linked.ensures) other))
          (later.0 come),
    )
