-- A class that is made run by run: what the proof of `of` cites. Assumes nothing.
use mathlib.Core.Path.{◌≡◌, refl, sym, ap, ap₂, ◌∙◌}
use mathlib.Core.Bool.{Bool, false, ◌||◌}
use mathlib.Core.List.{[], ◌∷◌}
use Prim.Native.Nat.{ℕ, suc, ◌+◌, ◌*◌, ◌/◌}
use native.Mathlib.Omega.{arith}
use lib.ListN.{length, get_or}
use Rattle.semantics.specs.Text.{Text, some_passes}
use Rattle.semantics.specs.Pattern.{in_run, in_class}
use Rattle.semantics.specs.Table.{runs_of}
use Rattle.classes.specs.declared.Class.{Class}
use Rattle.classes.specs.Classes.{holds_byte, any_below}
use Rattle.classes.proofs.Anys.{any_more, any_first}

-- whether pair i holds the byte
abbrev pub pair_holds : Text → ℕ → ℕ → Bool
pair_holds runs byte i = in_run byte (record { first = get_or runs (2 * i) 0; last = get_or runs (2 * i + 1) 0 })

-- The class of the first n pairs.
pub record MadeOf (runs : Text) (n : ℕ) (k : Class) : Type 0 where
  pub holds_is : (byte : ℕ) → holds_byte k byte ≡ any_below n (pair_holds runs byte)

-- A pair more in front moves the others one place on.
pair_behind : (first last : ℕ) (more : Text) (byte i : ℕ) → pair_holds (first ∷ last ∷ more) byte (suc i) ≡ pair_holds more byte i
pair_behind first last more byte i =
    let place : 2 * suc i ≡ suc (suc (2 * i)) = omega arith in
    let behind : 2 * suc i + 1 ≡ suc (suc (2 * i + 1)) = omega arith in
    ap₂ (λ (x y : ℕ). in_run byte (record { first = get_or (first ∷ last ∷ more) x 0; last = get_or (first ∷ last ∷ more) y 0 })) place behind

-- A byte is in the class of runs exactly if some pair holds it.
some_pair : (runs : Text) (byte : ℕ) → in_class (runs_of runs) byte ≡ any_below (length runs / 2) (pair_holds runs byte)
unfolding in_class some_passes runs_of any_below
some_pair [] byte = refl
some_pair (first ∷ []) byte = refl
some_pair (first ∷ last ∷ more) byte =
    let half : (suc (suc (length more))) / 2 ≡ suc (length more / 2) = omega arith in
    ap (λ b. in_run byte (record { first = first; last = last }) || b) (
    some_pair more byte ∙ ap (any_below (length more / 2)) (λ j i. sym (pair_behind first last more byte i) j)
    )
    ∙ sym (any_first (length more / 2) (pair_holds (first ∷ last ∷ more) byte))
    ∙ ap (λ (n : ℕ). any_below n (pair_holds (first ∷ last ∷ more) byte)) (sym half)

module _ {runs : Text} where
  -- no pair yet
  pub made_none : {k : Class} → ((byte : ℕ) → holds_byte k byte ≡ false) → MadeOf runs 0 k
  unfolding any_below
  made_none none = record { holds_is = none }

  -- one pair more
  pub made_more :
      {n : ℕ} {k r : Class} (next : Class)
      → MadeOf runs n k
      → ((byte : ℕ) → holds_byte next byte ≡ pair_holds runs byte n)
      → ((byte : ℕ) → holds_byte r byte ≡ (holds_byte next byte || holds_byte k byte))
      → MadeOf runs (n + 1) r
  made_more {n} next made run join =
      record { holds_is = λ byte. join byte ∙ ap₂ ◌||◌ (run byte) (made.holds_is byte) ∙ sym (any_more n (pair_holds runs byte)) }

  -- every pair
  pub made_all : {n : ℕ} {k : Class} → n ≡ length runs / 2 → MadeOf runs n k → (byte : ℕ) → holds_byte k byte ≡ in_class (runs_of runs) byte
  made_all same made byte =
      made.holds_is byte ∙ ap (λ (m : ℕ). any_below m (pair_holds runs byte)) same ∙ sym (some_pair runs byte)
