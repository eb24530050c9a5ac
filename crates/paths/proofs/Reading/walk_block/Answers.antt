-- `paths::Reading::walk_block` meets its contract. The loop's invariant: the path has come to i, within the block. Assumes nothing.
use mathlib.Core.Path.{◌≡◌, refl, subst, ◌∙◌}
use mathlib.Core.Bool.{false}
use mathlib.Core.List.{List}
use Prim.Native.Nat.{ℕ, suc, ◌+◌, ◌<◌}
use native.Mathlib.Omega.{arith}
use lib.ListN.{length, get_or, drop, set}
use Rattle.semantics.specs.Pattern.{Pattern, matches}
use Rattle.laws.specs.PositionAutomaton.{ReadsAt}
use Rattle.automaton.specs.declared.Automaton.{Automaton}
use Rattle.automaton.specs.Rows.{Describes}
use Rattle.walks.specs.declared.Walk.{Walk}
use Rattle.walks.specs.Walking.{Past, Walked}
use Rattle.walks.proofs.Stepping.{Takes, walked_more, walked_stuck, takes_lowest, takes_none}
use Rattle.paths.proofs.Reading.walk_block.Goals as goal

-- The walk has come to i: one byte more, and none more.
module _ {prepared : List ℕ} {a : Automaton} {text path : List ℕ} {walk : Walk} (known : Walked prepared a text path walk) {i : ℕ} (same : walk.at ≡ i) where
  more_at :
      {p : ℕ} {next : Walk} → length path ≡ length text → i < length text → Past prepared a p (i + 1) next
      → ((r : Pattern) (d : Describes r a prepared) → Takes r (known.so_far r d).may (get_or text i 0) (drop (suc i) text) p)
      → Walked prepared a text (set path i p) next
  more_at {p} {next} len =
      subst
      (λ (j : ℕ).
      j < length text → Past prepared a p (j + 1) next
      → ((r : Pattern) (d : Describes r a prepared) → Takes r (known.so_far r d).may (get_or text j 0) (drop (suc j) text) p)
      → Walked prepared a text (set path j p) next)
      same
      (λ l past takes. walked_more known l len past takes)

  stuck_at :
      i < length text → (r : Pattern) (d : Describes r a prepared)
      → (ReadsAt r (known.so_far r d).may (get_or text i 0) (drop (suc i) text) → ⊥)
      → matches r text ≡ false
  stuck_at =
      subst
      (λ (j : ℕ).
      j < length text → (r : Pattern) (d : Describes r a prepared)
      → (ReadsAt r (known.so_far r d).may (get_or text j 0) (drop (suc j) text) → ⊥)
      → matches r text ≡ false)
      same
      (λ l r d. walked_stuck known l r d)

pub loop-i-init : goal.loop-i-init
loop-i-init c = (refl, c.requires.start_le_at.0, c.requires.walked)

pub returns-in_default : goal.returns-in_default
returns-in_default c =
    let walked = c.loop-i.invariant.2 in
    record {
      to_end = omega (arith, c.loop-i.invariant.0, c.loop-i-test.true);
      walked = λ e. absurd (omega (arith, c.loop-i.invariant.0, c.loop-i-test.true));
      stuck = λ ne r d.
          stuck_at walked c.loop-i.invariant.0 (omega (arith, c.loop-i-test.true, c.requires.start_le_at.2)) r d
          (takes_none c.args.self.now.room d _ (walked.so_far r d).set_is (rw c.set_at.ensures (c.requires.filled.behind r d _ c.loop-i.invariant.1 c.loop-i-test.true)) c.intersect-may.ensures c.in_default.ensures.none);
    }

pub past-walk-requires : goal.past-walk-requires
past-walk-requires c = record { room = c.args.self.now.room; p_lt_count = c.in-Some.ensures.reads.inside }

pub loop-i-preserved : goal.loop-i-preserved
loop-i-preserved c =
    let walked = c.loop-i.invariant.2 in (
      c.past-walk.ensures.at_is,
      omega (arith, c.loop-i.invariant.1),
      more_at walked c.loop-i.invariant.0 (c.loop-i.auto.path ∙ c.requires.path_len) (omega (arith, c.loop-i-test.true, c.requires.start_le_at.2)) c.past-walk.ensures
          (λ r d. takes_lowest c.args.self.now.room d _ (walked.so_far r d).set_is (rw c.set_at.ensures (c.requires.filled.behind r d _ c.loop-i.invariant.1 c.loop-i-test.true)) c.intersect-may.ensures c.in-Some.ensures.reads c.in-Some.ensures.none_lower),
    )

pub returns : goal.returns
returns c =
    let at_end : c.loop-i.walk.at ≡ c.args.end = omega (arith, c.loop-i.invariant.0, c.loop-i-test.false, c.loop-i.auto.i-end, c.requires.start_le_at.1) in
    record { to_end = omega (arith, at_end); walked = λ e. c.loop-i.invariant.2; stuck = λ ne. absurd (ne at_end) }
