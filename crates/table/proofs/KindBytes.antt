-- Where there is no such kind: the numbers from 6 to 15, and those from 23 on.
use mathlib.Core.Path.{◌≡◌, refl}
use mathlib.Core.Bool.{Bool, true, false, cond}
use mathlib.Core.List.{[], ◌∷◌}
use mathlib.Core.Option.{none}
use Prim.Native.Nat.{ℕ, zero, suc, ◌+◌, ◌-◌}
use native.Mathlib.Omega.{arith}
use lib.Dec.{ltb}
use lib.ListN.{get_elem?}
use borrow.Author.Tests.{ltb-false}
use Rattle.semantics.specs.Table.{Word, Range, PatternJoin, PatternUnion, PatternRepeat, Set, Copy, Const, Key, LensJoin, LensUnion, LensRepeat, Match, kind_of}

-- none of the numbers that are kinds
pub record Unnamed (n : ℕ) : Type 0 where
  pub not_0 : n ≡ 0 → ⊥
  pub not_1 : n ≡ 1 → ⊥
  pub not_2 : n ≡ 2 → ⊥
  pub not_3 : n ≡ 3 → ⊥
  pub not_4 : n ≡ 4 → ⊥
  pub not_5 : n ≡ 5 → ⊥
  pub not_16 : n ≡ 16 → ⊥
  pub not_17 : n ≡ 17 → ⊥
  pub not_18 : n ≡ 18 → ⊥
  pub not_19 : n ≡ 19 → ⊥
  pub not_20 : n ≡ 20 → ⊥
  pub not_21 : n ≡ 21 → ⊥
  pub not_22 : n ≡ 22 → ⊥

low : (n : ℕ) → Unnamed n → get_elem? (Word ∷ Range ∷ PatternJoin ∷ PatternUnion ∷ PatternRepeat ∷ Set ∷ []) n ≡ none
low zero u = absurd (u.not_0 refl)
low (suc zero) u = absurd (u.not_1 refl)
low (suc (suc zero)) u = absurd (u.not_2 refl)
low (suc (suc (suc zero))) u = absurd (u.not_3 refl)
low (suc (suc (suc (suc zero)))) u = absurd (u.not_4 refl)
low (suc (suc (suc (suc (suc zero))))) u = absurd (u.not_5 refl)
low (suc (suc (suc (suc (suc (suc n)))))) u = refl

high : (n m : ℕ) → Unnamed n → n ≡ 16 + m → get_elem? (Copy ∷ Const ∷ Key ∷ LensJoin ∷ LensUnion ∷ LensRepeat ∷ Match ∷ []) m ≡ none
high n zero u e = absurd (u.not_16 e)
high n (suc zero) u e = absurd (u.not_17 e)
high n (suc (suc zero)) u e = absurd (u.not_18 e)
high n (suc (suc (suc zero))) u e = absurd (u.not_19 e)
high n (suc (suc (suc (suc zero)))) u e = absurd (u.not_20 e)
high n (suc (suc (suc (suc (suc zero))))) u e = absurd (u.not_21 e)
high n (suc (suc (suc (suc (suc (suc zero)))))) u e = absurd (u.not_22 e)
high n (suc (suc (suc (suc (suc (suc (suc m))))))) u e = refl

pub unnamed : (n : ℕ) → Unnamed n → kind_of n ≡ none
unfolding kind_of
unnamed n u = go (ltb n 16) refl
  where
    go :
        (b : Bool)
        → ltb n 16 ≡ b
        → cond b (get_elem? (Word ∷ Range ∷ PatternJoin ∷ PatternUnion ∷ PatternRepeat ∷ Set ∷ []) n) (get_elem? (Copy ∷ Const ∷ Key ∷ LensJoin ∷ LensUnion ∷ LensRepeat ∷ Match ∷ []) (n - 16)) ≡ none
    go true p = low n u
    go false p = high n (n - 16) u (omega (arith, ltb-false n 16 p))
