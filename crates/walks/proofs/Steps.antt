-- Steps that are kept: none, one that stands there, and one more. Assumes nothing.
use mathlib.Core.Path.{◌≡◌, sym, ◌∙◌}
use mathlib.Core.List.{List}
use mathlib.Core.Logic.{⊎_elim}
use Prim.Native.Nat.{ℕ, ◌+◌, ◌-◌, ◌*◌, ◌≤◌, ◌<◌}
use native.Mathlib.Omega.{arith}
use borrow.Author.Tests.{eqb-true, eqb-false}
use lib.Dec.{eqb}
use lib.ListN.{length, get_or, set, replicate, length-set, length-replicate, get_or-replicate}
use lib.Seq.{get_or-set_same, get_or-set_other}
use Rattle.laws.specs.Basics.{bool_cases}
use Rattle.positions.specs.declared.Set.{Set}
use Rattle.automaton.specs.declared.Automaton.{Automaton}
use Rattle.automaton.specs.Rows.{follow_of}
use Rattle.walks.specs.Walking.{Alone, StepsKept}

module _ {prepared : List ℕ} {a : Automaton} where
  -- zeros keep none
  pub zeros_kept : {n : ℕ} {steps : List ℕ} → n ≤ 8192 → steps ≡ replicate n 0 → StepsKept prepared a steps
  zeros_kept {n} {steps} h is =
      let size : length steps ≡ n = rw is (length-replicate {A = ℕ} n 0) in
      record {
        few = omega (arith, size);
        kept_is = λ passed byte step s l e.
            let zero : get_or steps (256 * passed + byte) 0 ≡ 0 = rw is (get_or-replicate {A = ℕ} n (256 * passed + byte) 0 0 (omega (arith, size))) in
            absurd (omega arith);
      }

module _ {prepared : List ℕ} {a : Automaton} {steps : List ℕ} where
  module _
      (passed byte : ℕ) {due : Set} (due_here : due ≡ follow_of prepared (a.start + passed)) (known : StepsKept prepared a steps) (small : byte < 256)
      (inside : 256 * passed + byte < length steps)
    where
      -- a step that is kept is the one that would be found
      pub kept_alone : 0 < get_or steps (256 * passed + byte) 0 → Alone prepared a due byte (get_or steps (256 * passed + byte) 0 - 1)
      kept_alone l = rw due_here (known.kept_is passed byte (get_or steps (256 * passed + byte) 0 - 1) small inside (omega arith)).1

      -- the step that was found is kept
      pub kept_more : {p : ℕ} → p < 128 → Alone prepared a due byte p → StepsKept prepared a (set steps (256 * passed + byte) (p + 1))
      kept_more {p} l found = record { few = rw length-set known.few; kept_is = each }
        where
          each : (from b step : ℕ) → b < 256 → 256 * from + b < length (set steps (256 * passed + byte) (p + 1)) → get_or (set steps (256 * passed + byte) (p + 1)) (256 * from + b) 0 ≡ step + 1 → (step < 128) × Alone prepared a (follow_of prepared (a.start + from)) b step
          each from b step s l' e =
              ⊎_elim
              (λ t.
              let same = eqb-true (256 * from + b) (256 * passed + byte) t in
              let from_is : from ≡ passed = omega arith in
              let b_is : b ≡ byte = omega arith in
              let step_is : step ≡ p = let g = get_or-set_same steps (256 * passed + byte) (p + 1) 0 inside in omega (arith, g, rw same at e) in
              (omega arith, rw (from_is, b_is, step_is, ← due_here) found))
              (λ t.
              let other = eqb-false (256 * from + b) (256 * passed + byte) t in
              known.kept_is from b step s (rw length-set at l') (sym (get_or-set_other steps (256 * passed + byte) (256 * from + b) (p + 1) 0 (λ q. other q)) ∙ e))
              (bool_cases (eqb (256 * from + b) (256 * passed + byte)))
