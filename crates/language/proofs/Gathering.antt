-- Sets that are gathered position by position: what the loops over the positions cite. Assumes nothing.
use mathlib.Core.Path.{◌≡◌, sym, subst, ◌∙◌}
use mathlib.Core.Bool.{Bool, true, ◌||◌}
use mathlib.Core.Logic.{◌↔◌, inl, inr, ⊎_elim}
use Prim.Native.Nat.{ℕ, ◌+◌, ◌≤◌, ◌<◌}
use native.Mathlib.Omega.{arith}
use borrow.Author.Tests.{eqb-true, eqb-false, eq-eqb, ltb-true, ltb-false}
use lib.Dec.{eqb, ltb}
use Rattle.laws.specs.Basics.{bool_cases, not_both, or_either, or_left, or_right}
use Rattle.positions.specs.declared.Set.{Set}
use Rattle.positions.specs.Positions.{holds, Empty, Added}
use Rattle.language.specs.Sets.{Gathered, Grown}

-- A set grew by a test's positions where the test is true exactly of what was given.
pub grown_by :
    (given : ℕ → Type 0) (x : ℕ → Bool) (s t : Set)
    → ((q : ℕ) → holds t q ≡ (x q || holds s q))
    → ((q : ℕ) → (x q ≡ true) ↔ given q)
    → Grown given s t
grown_by given x s t joined is =
    record {
      grown_iff = λ q. (
        λ e. ⊎_elim (λ new. inr ((is q).0 new)) (λ old. inl old) (or_either (x q) (holds s q) (sym (joined q) ∙ e)),
        λ e. joined q ∙ ⊎_elim (λ old. or_right (x q) (holds s q) old) (λ new. or_left (x q) (holds s q) ((is q).1 new)) e,
      );
    }

-- It did not grow where nothing was given.
pub grown_not : (given : ℕ → Type 0) (s : Set) → ((q : ℕ) → given q → ⊥) → Grown given s s
grown_not given s none = record { grown_iff = λ q. (λ e. inl e, λ e. ⊎_elim (λ old. old) (λ new. absurd (none q new)) e) }

-- It grew by one position.
pub grown_with :
    (given : ℕ → Type 0) (p : ℕ) (s t : Set) → Added s p t → ((q : ℕ) → given q → q ≡ p) → given p → Grown given s t
grown_with given p s t added only g = grown_by given (λ q. eqb q p) s t added (λ q. (λ e. rw (eqb-true q p e) g, λ h. eq-eqb q p (only q h)))

module _ (gives : ℕ → ℕ → Type 0) where
  -- No position gives anything to the empty set.
  pub gathered_none : (s : Set) → Empty s → Gathered gives 0 s
  gathered_none s none =
      record { held_iff = λ q. (λ e. absurd (not_both e (none q)), λ g. let (p, l, x) = g in absurd (omega arith)) }

  -- Positions from n to before m that give nothing make no difference.
  pub gathered_skip : (n m : ℕ) (s : Set) → n ≤ m → ((p q : ℕ) → n ≤ p → p < m → gives p q → ⊥) → Gathered gives n s ↔ Gathered gives m s
  gathered_skip n m s h none = (
    λ known. record { held_iff = λ q. (λ e. let (p, l, g) = (known.held_iff q).0 e in (p, (omega arith), g), λ (p, l, g). (known.held_iff q).1 (below p q l g)) },
    λ known. record { held_iff = λ q. (λ e. let (p, l, g) = (known.held_iff q).0 e in below p q l g, λ (p, l, g). (known.held_iff q).1 (p, (omega arith), g)) },
  )
    where
      below : (p q : ℕ) → p < m → gives p q → (p' : ℕ) × (p' < n) × gives p' q
      below p q l g =
          ⊎_elim
          (λ e. (p, ltb-true p n e, g))
          (λ e. absurd (none p q (ltb-false p n e) l g))
          (bool_cases (ltb p n))

  -- With what position n gives, the set has what the positions below n + 1 give.
  pub gathered_more : (n : ℕ) (s t : Set) → Gathered gives n s → Grown (gives n) s t → Gathered gives (n + 1) t
  gathered_more n s t before grown = record { held_iff = λ q. (there q, back q) }
    where
      there : (q : ℕ) → holds t q ≡ true → (p : ℕ) × (p < n + 1) × gives p q
      there q e =
          ⊎_elim
          (λ old. let (p, l, g) = (before.held_iff q).0 old in (p, (omega arith), g))
          (λ new. (n, (omega arith), new))
          ((grown.grown_iff q).0 e)

      back : (q : ℕ) → (p : ℕ) × (p < n + 1) × gives p q → holds t q ≡ true
      back q (p, l, g) =
          (grown.grown_iff q).1
          (⊎_elim
          (λ e. inr (rw (eqb-true p n e) at g))
          (λ e. let ne = eqb-false p n e in inl ((before.held_iff q).1 (p, (omega arith), g)))
          (bool_cases (eqb p n)))

  -- The same, where the number of positions is written otherwise.
  pub gathered_at : {n m : ℕ} {s : Set} → n ≡ m → Gathered gives n s → Gathered gives m s
  gathered_at {s = s} e = subst (λ (k : ℕ). Gathered gives k s) e
