-- A text that is read byte by byte, and its refusal. Assumes nothing.
use mathlib.Core.Path.{◌≡◌, refl, ap}
use mathlib.Core.Bool.{true, false, ◌&&◌}
use mathlib.Core.List.{[], ◌∷◌}
use Prim.Native.Nat.{ℕ}
use native.Mathlib.Omega.{arith}
use lib.Dec.{eqb}
use borrow.Author.Tests.{eqb-true, eq-eqb, ne_eqb}
use Rattle.std.specs.List.{list_all}
use Rattle.semantics.specs.Text.{Text}
use Rattle.laws.specs.Basics.{and_both}
use Rattle.meanings.specs.Sentences.{has_sentence}
use Rattle.meanings.specs.Texts.{is_text_byte, is_text, text_refused}
use Rattle.meanings.proofs.Sentences.{has}

-- the test of each byte is the definition
pub each_byte : (bytes : Text) → list_all is_text_byte bytes ≡ is_text bytes
unfolding is_text
each_byte [] = refl
each_byte (byte ∷ bytes) = ap (λ rest. is_text_byte byte && rest) (each_byte bytes)

-- the refusal of another number
pub refused_else : (number : ℕ) (table : Text) → ¬ (number ≡ 1) → false ≡ text_refused number table
unfolding text_refused
refused_else number table other = rw (ne_eqb number 1 other) refl

-- number 1
pub refused_sizes : (number : ℕ) (table : Text) → number ≡ 1 → is_text table ≡ text_refused number table
unfolding text_refused
refused_sizes number table e = rw (eq-eqb number 1 e) refl

-- of a refused text there is a sentence
pub refused_has : (number : ℕ) (table : Text) → text_refused number table ≡ true → has_sentence 1 number ≡ true
unfolding text_refused
refused_has number table e =
    let first : number ≡ 1 = eqb-true number 1 (and_both (eqb number 1) (is_text table) e).0 in
    has 1 number (omega arith) (omega arith)
