-- Which files are texts. One that stands where the table should is most likely the program's text, from which the table is made.
use Rattle.std.specs.Prelude.{◌≡◌, refl, Bool, true, false, ◌&&◌, ◌||◌, [], ◌∷◌, ℕ, ◌≤◌, eqb, leb}
use Rattle.std.proofs.Common.{⊎_elim, arith, leb-true, eqb-true}
use Rattle.semantics.specs.Text.{Text}
use Rattle.semantics.specs.Table.{at, two, pool_length, sizes_wrong, line, lines, first_that_holds}
use Rattle.semantics.specs.Calls.{refuses, program, verdict}
use Rattle.laws.specs.Basics.{and_both, or_either}
use Rattle.laws.specs.RightSizes.{Right, right_of}

-- A byte of a text file: at least 32, as in all letters and marks of ASCII and UTF-8, or tab (9), newline (10) or carriage return (13).
unfoldable pub is_text_byte : ℕ → Bool
is_text_byte byte = leb 32 byte || eqb byte 9 || eqb byte 10 || eqb byte 13

-- A text file has only such bytes. No table of right sizes is one: its second byte, the high byte of a pool length up to 512, is 0, 1 or 2.
unfoldable pub is_text : Text → Bool
is_text [] = true
is_text (byte ∷ bytes) = is_text_byte byte && is_text bytes

-- The sizes were refused, and of a text.
unfoldable pub text_refused : ℕ → Text → Bool
text_refused number table = eqb number 1 && is_text table

-- ---- Every text is refused with number 1

-- a byte of a text is far above the high byte of a pool length
text_byte : (byte : ℕ) → is_text_byte byte ≡ true → 9 ≤ byte
unfolding is_text_byte
text_byte byte e = ⊎_elim three (λ h. omega (arith, eqb-true byte 13 h)) (or_either _ _ e)
  where
    two_tests : leb 32 byte || eqb byte 9 ≡ true → 9 ≤ byte
    two_tests h = ⊎_elim (λ k. omega (arith, leb-true 32 byte k)) (λ k. omega (arith, eqb-true byte 9 k)) (or_either _ _ h)

    three : leb 32 byte || eqb byte 9 || eqb byte 10 ≡ true → 9 ≤ byte
    three h = ⊎_elim two_tests (λ k. omega (arith, eqb-true byte 10 k)) (or_either _ _ h)

-- so a text has no right sizes
not_right : (table : Text) → is_text table ≡ true → Right table → ⊥
unfolding is_text pool_length two at
not_right [] e right = absurd (omega (arith, right.three))
not_right (a ∷ []) e right = absurd (omega (arith, right.three))
not_right (a ∷ b ∷ bytes) e right =
    let behind-first = (and_both (is_text_byte a) (is_text_byte b && is_text bytes) e).1 in
    let second = text_byte b (and_both (is_text_byte b) (is_text bytes) behind-first).0 in
    omega (arith, right.small_pool)

text_sizes : (table : Text) → is_text table ≡ true → sizes_wrong table ≡ true
text_sizes table e = go (sizes_wrong table) refl
  where
    go : (b : Bool) → sizes_wrong table ≡ b → b ≡ true
    go true h = refl
    go false h = absurd (not_right table e (right_of table h))

pub text_program : (table : Text) → is_text table ≡ true → program table ≡ refuses 1 0
unfolding program verdict lines line first_that_holds
text_program table e = rw (text_sizes table e) refl
