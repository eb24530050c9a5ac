-- The bytes that may stand at a position: what the functions' proofs, here and in the crates above, cite. Assumes nothing.
use mathlib.Core.Path.{◌≡◌, refl, sym, ap, ap₂, ◌∙◌}
use mathlib.Core.Bool.{Bool, true, false, ◌&&◌, cond}
use mathlib.Core.List.{List}
use mathlib.Core.Logic.{◌↔◌}
use Prim.Native.Nat.{ℕ, ◌+◌, ◌-◌, ◌/◌, ◌%◌, ◌≤◌, ◌<◌}
use native.Mathlib.Omega.{arith}
use borrow.Author.Tests.{lt-ltb, le-ltb, eqb-true, eq-eqb}
use lib.Dec.{eqb, ltb}
use lib.ListN.{get_or}
use Rattle.laws.specs.Basics.{not_both, and_both, and_of, cond_true, cond_false}
use Rattle.positions.specs.Positions.{bit, holds}
use Rattle.positions.proofs.Bits.{holds_low, holds_high}
use Rattle.classes.specs.declared.Class.{Class}
use Rattle.classes.specs.Classes.{holds_byte, SharedByte, any_below}
use Rattle.classes.specs.Classes as C
use Rattle.classes.proofs.Anys.{split_at, same_where, any_iff}
use Rattle.classes.proofs.Bytes.{in_low, in_high, past_high}
use Rattle.automaton.specs.Rows.{set_at, held_of, class_at, stands_in, share_in, stands_or_none, FirstShared, alike_in}

-- ---- A class in four numbers

module _ (prepared : List ℕ) (i : ℕ) where
  -- which bit of which number says whether the byte is held: those of a set,
  set_bit : (q : ℕ) → q < 128 → holds (set_at prepared i) q ≡ bit (q % 64) (get_or prepared (i + q / 64) 0)
  set_bit q h =
      split_at q 64
      (λ l.
      let place : q % 64 ≡ q = omega arith in
      let number : i + q / 64 ≡ i = omega arith in
      holds_low (set_at prepared i) q l ∙ sym (ap₂ (λ (p n : ℕ). bit p (get_or prepared n 0)) place number))
      (λ l.
      let place : q % 64 ≡ q - 64 = omega arith in
      let number : i + q / 64 ≡ i + 1 = omega arith in
      holds_high (set_at prepared i) q l h ∙ sym (ap₂ (λ (p n : ℕ). bit p (get_or prepared n 0)) place number))

-- and so those of a class
pub class_bit : (prepared : List ℕ) (i byte : ℕ) → byte < 256 → holds_byte (class_at prepared i) byte ≡ bit (byte % 64) (get_or prepared (i + byte / 64) 0)
class_bit prepared i byte h =
    split_at byte 128
    (λ l. in_low (class_at prepared i) byte l ∙ set_bit prepared i byte l)
    (λ l.
    let place : (byte - 128) % 64 ≡ byte % 64 = omega arith in
    let number : i + 2 + (byte - 128) / 64 ≡ i + byte / 64 = omega arith in
    in_high (class_at prepared i) byte l
    ∙ set_bit prepared (i + 2) (byte - 128) (omega arith)
    ∙ ap₂ (λ (p n : ℕ). bit p (get_or prepared n 0)) place number)

-- ---- A letter, or a class

module _ (prepared : List ℕ) (row : ℕ) where
  -- at a letter's position stands that byte,
  pub stands_letter : held_of prepared row < 256 → (byte : ℕ) → stands_in prepared row byte ≡ eqb byte (held_of prepared row)
  unfolding stands_in
  stands_letter h byte = cond_true (ltb (held_of prepared row) 256) _ _ (lt-ltb (held_of prepared row) 256 h)

  -- at any other those of its class
  pub stands_class : 256 ≤ held_of prepared row → (byte : ℕ) → stands_in prepared row byte ≡ holds_byte (class_at prepared (held_of prepared row)) byte
  unfolding stands_in
  stands_class h byte = cond_false (ltb (held_of prepared row) 256) _ _ (le-ltb (held_of prepared row) 256 h)

  -- at a letter's position that letter, and no other byte
  pub letter_stands : held_of prepared row < 256 → stands_in prepared row (held_of prepared row) ≡ true
  letter_stands h = stands_letter h (held_of prepared row) ∙ eq-eqb (held_of prepared row) (held_of prepared row) refl

  pub letter_only : held_of prepared row < 256 → (byte : ℕ) → stands_in prepared row byte ≡ true → byte ≡ held_of prepared row
  letter_only h byte e = eqb-true byte (held_of prepared row) (sym (stands_letter h byte) ∙ e)

  -- what may stand at a position is a byte
  pub stands_byte : (byte : ℕ) → stands_in prepared row byte ≡ true → byte < 256
  stands_byte byte e =
      split_at (held_of prepared row) 256
      (λ h. let same = letter_only h byte e in omega arith)
      (λ h. split_at byte 256 (λ l. l) (λ l. absurd (not_both e (stands_class h byte ∙ past_high (class_at prepared (held_of prepared row)) byte l))))

-- ---- Two positions

-- the same number, the same bytes
alike_stands :
    (prepared : List ℕ) (row row' : ℕ)
    → alike_in prepared row row' ≡ true
    → (byte : ℕ)
    → stands_in prepared row byte ≡ stands_in prepared row' byte
unfolding alike_in stands_in
alike_stands prepared row row' e byte =
    ap
    (λ (held : ℕ). cond (ltb held 256) (eqb byte held) (holds_byte (class_at prepared held) byte))
    (eqb-true (held_of prepared row) (held_of prepared row') e)

-- and so they share a byte with the same positions
pub alike_shares :
    (prepared : List ℕ) (row row' other : ℕ) → alike_in prepared row row' ≡ true → share_in prepared row other ≡ share_in prepared row' other
unfolding share_in
alike_shares prepared row row' other e =
    ap (any_below 256) (λ j byte. alike_stands prepared row row' e byte j && stands_in prepared other byte)

-- two positions share a byte exactly if one may stand at both
pub share_iff :
    (prepared : List ℕ) (row row' : ℕ)
    → (share_in prepared row row' ≡ true) ↔ ((byte : ℕ) × (stands_in prepared row byte ≡ true) × (stands_in prepared row' byte ≡ true))
unfolding share_in
share_iff prepared row row' =
    let found = any_iff 256 (λ byte. stands_in prepared row byte && stands_in prepared row' byte) in (
      λ e.
          let (byte, l, both) = found.0 e in
          let (u, v) = and_both (stands_in prepared row byte) (stands_in prepared row' byte) both in
          (byte, u, v),
      λ h.
          let (byte, u, v) = h in
          found.1 (byte, stands_byte prepared row byte u, and_of (stands_in prepared row byte) (stands_in prepared row' byte) u v),
    )

module _ (prepared : List ℕ) (row row' : ℕ) where
  -- a letter is shared if it may stand at the other position
  pub share_first : held_of prepared row < 256 → stands_in prepared row' (held_of prepared row) ≡ share_in prepared row row'
  share_first h =
      let shares = share_iff prepared row row' in
      same_where _ _
      (λ e. shares.1 (held_of prepared row, letter_stands prepared row h, e))
      (λ e. let (byte, u, v) = shares.0 e in ap (stands_in prepared row') (sym (letter_only prepared row h byte u)) ∙ v)

  pub share_second : held_of prepared row' < 256 → stands_in prepared row (held_of prepared row') ≡ share_in prepared row row'
  share_second h =
      let shares = share_iff prepared row row' in
      same_where _ _
      (λ e. shares.1 (held_of prepared row', e, letter_stands prepared row' h))
      (λ e. let (byte, u, v) = shares.0 e in ap (stands_in prepared row) (sym (letter_only prepared row' h byte v)) ∙ u)

  -- two classes share what both hold
  pub share_classes :
      256 ≤ held_of prepared row
      → 256 ≤ held_of prepared row'
      → {k m : Class}
      → k ≡ class_at prepared (held_of prepared row)
      → m ≡ class_at prepared (held_of prepared row')
      → (r : Bool)
      → (r ≡ true) ↔ SharedByte k m
      → r ≡ share_in prepared row row'
  share_classes h h' {k} {m} k-is m_is r meets =
      let shares = share_iff prepared row row' in
      let first : (byte : ℕ) → stands_in prepared row byte ≡ holds_byte k byte =
      λ byte. stands_class prepared row h byte ∙ ap (λ c. holds_byte c byte) (sym k-is) in
      let second : (byte : ℕ) → stands_in prepared row' byte ≡ holds_byte m byte =
      λ byte. stands_class prepared row' h' byte ∙ ap (λ c. holds_byte c byte) (sym m_is) in
      same_where r _
      (λ e. let (byte, l, u, v) = meets.0 e in shares.1 (byte, first byte ∙ u, second byte ∙ v))
      (λ e.
      let (byte, u, v) = shares.0 e in
      meets.1 (byte, stands_byte prepared row byte u, sym (first byte) ∙ u, sym (second byte) ∙ v))

-- ---- The lowest byte of both

module _ (prepared : List ℕ) (row row' : ℕ) where
  -- a letter, where it may stand at the other position, else none
  pub first_letter :
      held_of prepared row < 256 → (r : ℕ) → r ≡ stands_or_none prepared row' (held_of prepared row) → FirstShared prepared row row' r
  unfolding stands_or_none
  first_letter h r is = go (stands_in prepared row' (held_of prepared row)) refl
    where
      go : (b : Bool) → stands_in prepared row' (held_of prepared row) ≡ b → FirstShared prepared row row' r
      go true e =
          let same : r ≡ held_of prepared row = is ∙ cond_true _ _ _ e in
          record {
            in_both = λ l. rw same (letter_stands prepared row h, e);
            none_lower = λ byte l n i j. let only = letter_only prepared row h byte i in omega arith;
          }
      go false e =
          let none : r ≡ 256 = is ∙ cond_false _ _ _ e in
          record {
            in_both = λ l. absurd (omega arith);
            none_lower = λ byte l n i j. not_both (ap (stands_in prepared row') (sym (letter_only prepared row h byte i)) ∙ j) e;
          }

  pub first_of_classes :
      256 ≤ held_of prepared row
      → 256 ≤ held_of prepared row'
      → {k m : Class}
      → k ≡ class_at prepared (held_of prepared row)
      → m ≡ class_at prepared (held_of prepared row')
      → (r : ℕ)
      → C.FirstShared k m r
      → FirstShared prepared row row' r
  first_of_classes h h' {k} {m} k-is m_is r shared =
      let first : (byte : ℕ) → stands_in prepared row byte ≡ holds_byte k byte =
      λ byte. stands_class prepared row h byte ∙ ap (λ c. holds_byte c byte) (sym k-is) in
      let second : (byte : ℕ) → stands_in prepared row' byte ≡ holds_byte m byte =
      λ byte. stands_class prepared row' h' byte ∙ ap (λ c. holds_byte c byte) (sym m_is) in
      record {
        in_both = λ l. let both = shared.in_both l in (first r ∙ both.0, second r ∙ both.1);
        none_lower = λ byte l n i j. shared.none_lower byte l n (sym (first byte) ∙ i) (sym (second byte) ∙ j);
      }

-- the other way round it is the same
pub first_turned : (prepared : List ℕ) (row row' r : ℕ) → FirstShared prepared row row' r → FirstShared prepared row' row r
first_turned prepared row row' r shared =
    record {
      in_both = λ l. let both = shared.in_both l in (both.1, both.0);
      none_lower = λ byte l n i j. shared.none_lower byte l n j i;
    }
