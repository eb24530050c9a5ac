-- Texts are lists of bytes. Here are the few notions on lists that every later file uses.
use Rattle.std.specs.Prelude.{◌≡◌, Bool, true, false, ◌&&◌, ◌||◌, cond, List, [], ◌∷◌, ◌++◌, ◌⊎◌, ℕ, zero, suc, eqb}
use Rattle.std.proofs.Math.Option.{Option, none, some}

-- Document 01: 'Texts are bytes.'
abbrev pub Text : Type 0
Text = List ℕ

-- Document 01: 'Two texts are equal if their lengths and all their bytes are', as a test
unfoldable pub same_text : Text → Text → Bool
same_text [] [] = true
same_text [] (y ∷ ys) = false
same_text (x ∷ xs) [] = false
same_text (x ∷ xs) (y ∷ ys) = eqb x y && same_text xs ys

-- whether a text is spaces (0x20) alone
unfoldable pub all_spaces : Text → Bool
all_spaces [] = true
all_spaces (c ∷ t) = eqb c 32 && all_spaces t

-- a text without its trailing spaces: from where nothing but spaces follows, nothing is left
unfoldable pub trimmed : Text → Text
trimmed [] = []
trimmed (c ∷ t) = let kept = c ∷ trimmed t in cond (all_spaces (c ∷ t)) [] kept

-- the least i below n for which `test i` is true, or n where there is none
unfoldable pub least : ℕ → (ℕ → Bool) → ℕ
least zero test = zero
least (suc n) test = let later = suc (least n (λ i. test (suc i))) in cond (test zero) zero later

module _ {A : Type 0} where
  -- a list of parts, joined; of texts, the text that they join to
  unfoldable pub joined : List (List A) → List A
  joined [] = []
  joined (p ∷ ps) = p ++ joined ps

  -- whether the test is true of some element
  unfoldable pub some_passes : (A → Bool) → List A → Bool
  some_passes test [] = false
  some_passes test (x ∷ xs) = let later = some_passes test xs in test x || later

  -- P holds of each element
  abbrev pub All : (A → Type 0) → List A → Type 0
  All P [] = Unit {0}
  All P (x ∷ xs) = P x × All P xs

  abbrev pub Member : A → List A → Type 0
  Member x [] = ⊥
  Member x (y ∷ ys) = (x ≡ y) ⊎ Member x ys

  -- no element stands twice
  abbrev pub Different : List A → Type 0
  Different [] = Unit {0}
  Different (x ∷ xs) = ¬ (Member x xs) × Different xs

  unfoldable pub or_else : A → Option A → A
  or_else d none = d
  or_else d (some x) = x

unfoldable pub apply : {A B : Type 0} → (A → B) → Option A → Option B
apply f none = none
apply f (some x) = some (f x)

unfoldable pub apply₂ : {A B C : Type 0} → (A → B → C) → Option A → Option B → Option C
apply₂ f none y = none
apply₂ f (some x) none = none
apply₂ f (some x) (some y) = some (f x y)
