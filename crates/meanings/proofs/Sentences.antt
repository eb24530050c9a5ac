-- Which numbers have a sentence, arm by arm.
use mathlib.Core.Bool.{Bool, true, false, ◌&&◌}
use mathlib.Core.Path.{◌≡◌, refl, sym}
use Prim.Native.Nat.{ℕ, ◌-◌, ◌≤◌, ◌<◌}
use native.Mathlib.Omega.{arith}
use borrow.Author.Tests.{leb-true, le-leb, lt-leb, ltb-true, ltb-false}
use lib.Dec.{leb, ltb}
use Rattle.meanings.specs.Sentences.{has_sentence}

-- one of them
pub has : (first number : ℕ) → first ≤ number → number ≤ 19 → has_sentence first number ≡ true
unfolding has_sentence
has first number low high = rw (le-leb _ _ low, le-leb _ _ high) refl

-- none of them
pub has_none : (first number : ℕ) → (first ≤ number → 19 < number) → has_sentence first number ≡ false
unfolding has_sentence
has_none first number above = go (leb first number) refl
  where
    go : (b : Bool) → leb first number ≡ b → (b && leb number 19) ≡ false
    go true e = lt-leb _ _ (above (leb-true _ _ e))
    go false e = refl

-- and a place among them
pub placed : (number place : ℕ) → (1 ≤ number) × (place ≡ number - 1) → ltb place 19 ≡ has_sentence 1 number
placed number place (low, is) = go (ltb place 19) refl
  where
    go : (b : Bool) → ltb place 19 ≡ b → b ≡ has_sentence 1 number
    go true e = sym (has 1 number low (omega (arith, ltb-true place 19 e)))
    go false e = sym (has_none 1 number (λ h. omega (arith, ltb-false place 19 e)))
