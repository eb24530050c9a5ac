-- Sets that are gathered on a walk over the positions of another: what the loops over the positions cite. Assumes nothing.
use mathlib.Core.Path.{◌≡◌, sym, ap, ◌∙◌}
use mathlib.Core.Bool.{true, false}
use mathlib.Core.Logic.{◌↔◌, inl, inr, ⊎_elim}
use Prim.Native.Nat.{ℕ, ◌<◌}
use native.Mathlib.Omega.{arith}
use borrow.Author.Tests.{eqb-true, eqb-false}
use lib.Dec.{eqb}
use Rattle.laws.specs.Basics.{bool_cases, not_both}
use Rattle.positions.specs.declared.Set.{Set}
use Rattle.positions.specs.declared.Below.{Below}
use Rattle.positions.specs.Positions.{holds, Empty}
use Rattle.positions.specs.Below.{Taken, Done}
use Rattle.positions.proofs.Walk.{taken_before, taken_gone, taken_other}
use Rattle.language.specs.Sets.{Gathered, Grown}

-- The set has what the positions give that have come on the walk, those of `due` below count that are left no more.
pub record GatheredOn (gives : ℕ → ℕ → Type 0) (due : Set) (count : ℕ) (walk : Below) (s : Set) : Type 0 where
  pub same_end : walk.end ≡ count
  pub left_due : (p : ℕ) → holds walk.left p ≡ true → holds due p ≡ true
  pub held_iff : (q : ℕ) → (holds s q ≡ true) ↔ ((p : ℕ) × (p < count) × (holds walk.left p ≡ false) × gives p q)

module _ {gives : ℕ → ℕ → Type 0} {due : Set} {count : ℕ} where
  -- No position has come of those that are due, and positions that are not due give nothing.
  pub walk_from :
      {walk : Below} {s : Set} → ((p q : ℕ) → gives p q → holds due p ≡ true)
      → walk.end ≡ count → ((p : ℕ) → holds walk.left p ≡ holds due p) → Empty s → GatheredOn gives due count walk s
  walk_from only ends same none =
      record {
        same_end = ends;
        left_due = λ p h. sym (same p) ∙ h;
        held_iff = λ q. (λ e. absurd (not_both e (none q)), λ (p, l, gone, g). absurd (not_both (only p q g) (sym (same p) ∙ gone)));
      }

  pub walk_begins :
      {walk of : Below} {s : Set} → ((p q : ℕ) → gives p q → holds due p ≡ true)
      → walk ≡ of → of ≡ record { left = due; end = count } → Empty s → GatheredOn gives due count walk s
  walk_begins only same begun none =
      let from = same ∙ begun in
      walk_from only (ap (λ w. w.end) from) (λ p. ap (λ w. holds w.left p) from) none

  -- A position comes.
  pub walk_due : {walk after : Below} {n : ℕ} {s : Set} → GatheredOn gives due count walk s → Taken walk n after → (n < count) × (holds due n ≡ true)
  walk_due {n = n} known taken = (omega (arith, taken.inside, known.same_end), known.left_due n (taken.first.held taken.small))

  pub walk_on : {walk after : Below} {n : ℕ} {s t : Set} → GatheredOn gives due count walk s → Taken walk n after → Grown (gives n) s t → GatheredOn gives due count after t
  walk_on {walk} {after} {n} {s} {t} known taken grown =
      record {
        same_end = taken.same_end ∙ known.same_end;
        left_due = λ p h. known.left_due p (taken_before taken p h);
        held_iff = λ q. (there q, back q);
      }
    where
      there : (q : ℕ) → holds t q ≡ true → (p : ℕ) × (p < count) × (holds after.left p ≡ false) × gives p q
      there q e =
          ⊎_elim
          (λ old.
          let (p, l, gone, g) = (known.held_iff q).0 old in
          ⊎_elim (λ k. (p, l, rw (eqb-true p n k) (taken_gone taken), g)) (λ k. (p, l, taken_other taken p (eqb-false p n k) ∙ gone, g)) (bool_cases (eqb p n)))
          (λ new. (n, (walk_due known taken).0, taken_gone taken, new))
          ((grown.grown_iff q).0 e)

      back : (q : ℕ) → (p : ℕ) × (p < count) × (holds after.left p ≡ false) × gives p q → holds t q ≡ true
      back q (p, l, gone, g) =
          (grown.grown_iff q).1
          (⊎_elim
          (λ k. inr (rw (eqb-true p n k) at g))
          (λ k. inl ((known.held_iff q).1 (p, l, sym (taken_other taken p (eqb-false p n k)) ∙ gone, g)))
          (bool_cases (eqb p n)))

  -- None is left.
  pub walk_all : {walk : Below} {s : Set} → GatheredOn gives due count walk s → Done walk → Gathered gives count s
  walk_all known done =
      record {
        held_iff = λ q. (
          λ e. let (p, l, gone, g) = (known.held_iff q).0 e in (p, l, g),
          λ (p, l, g). (known.held_iff q).1 (p, l, done.none_left p (omega (arith, known.same_end)), g),
        );
      }
