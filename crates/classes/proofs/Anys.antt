-- Some number below n that passes a test: what the functions' proofs and those of the crates above cite. Assumes nothing.
use mathlib.Core.Path.{◌≡◌, refl, sym, ap, ◌∙◌}
use mathlib.Core.Bool.{Bool, true, false, ◌||◌, false≢true}
use mathlib.Core.Logic.{◌↔◌, ⊎_elim}
use Prim.Native.Nat.{ℕ, zero, suc, ◌+◌, ◌≤◌, ◌<◌}
use native.Mathlib.Nat.{not-suc-le-zero}
use native.Mathlib.Numerals.{add-one}
use native.Mathlib.Omega.{arith}
use borrow.Author.Tests.{ltb-true, ltb-false}
use lib.Dec.{ltb}
use Rattle.laws.specs.Basics.{bool_cases, or_either, or_left, or_right}
use Rattle.classes.specs.Classes.{any_below}

-- two tests that are true together are the same
pub same_where : (a b : Bool) → (a ≡ true → b ≡ true) → (b ≡ true → a ≡ true) → a ≡ b
same_where true b there back = sym (there refl)
same_where false true there back = back refl
same_where false false there back = refl

-- of three tests the first two may change places
or_swap : (a b d : Bool) → (a || (b || d)) ≡ (b || (a || d))
or_swap true true d = refl
or_swap true false d = refl
or_swap false b d = refl

-- below a number, or from it on
pub split_at : (x mid : ℕ) {C : Type 0} → (x < mid → C) → (mid ≤ x → C) → C
split_at x mid below above = ⊎_elim (λ e. below (ltb-true x mid e)) (λ e. above (ltb-false x mid e)) (bool_cases (ltb x mid))

-- with one number more at the end
pub any_more : (n : ℕ) (test : ℕ → Bool) → any_below (n + 1) test ≡ (test n || any_below n test)
unfolding any_below
any_more n test = rw add-one

-- with the first number apart
pub any_first : (n : ℕ) (test : ℕ → Bool) → any_below (suc n) test ≡ (test 0 || any_below n (λ i. test (suc i)))
unfolding any_below
any_first zero test = refl
any_first (suc n) test =
    ap (λ b. test (suc n) || b) (any_first n test) ∙ or_swap (test (suc n)) (test 0) (any_below n (λ i. test (suc i)))

-- a test is true of some number below n exactly if there is one
pub any_iff : (n : ℕ) (test : ℕ → Bool) → (any_below n test ≡ true) ↔ ((p : ℕ) × (p < n) × (test p ≡ true))
unfolding any_below
any_iff zero test = (λ e. absurd (false≢true e), λ h. absurd (not-suc-le-zero h.1))
any_iff (suc n) test = (
  λ e.
      ⊎_elim
      (λ t. (n, omega arith, t))
      (λ t. let (p, l, u) = (any_iff n test).0 t in (p, omega arith, u))
      (or_either (test n) (any_below n test) e),
  λ h.
      let (p, l, u) = h in
      split_at
      p
      n
      (λ k. or_right (test n) (any_below n test) ((any_iff n test).1 (p, k, u)))
      (λ k. let same : n ≡ p = omega arith in or_left (test n) (any_below n test) (rw same u)),
)
