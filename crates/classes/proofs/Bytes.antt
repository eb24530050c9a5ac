-- The two halves of a class: what the functions' proofs cite. Assumes nothing.
use mathlib.Core.Path.{◌≡◌, refl, sym, ap, ap₂, ◌∙◌}
use mathlib.Core.Bool.{Bool, true, false, not, ◌&&◌}
use Prim.Native.Nat.{ℕ, ◌+◌, ◌-◌, ◌≤◌, ◌<◌}
use native.Mathlib.Omega.{arith}
use borrow.Author.Tests.{lt-ltb, le-ltb, leb-true, leb-false, le-leb, lt-leb}
use lib.Dec.{ltb, leb}
use Rattle.semantics.specs.Pattern.{in_run}
use Rattle.laws.specs.Basics.{cond_true, cond_false, not_both, and_both, and_of}
use Rattle.positions.specs.declared.Set.{Set}
use Rattle.positions.specs.Positions.{holds, Empty, Shared, Met, FirstFrom}
use Rattle.positions.proofs.Bits.{holds_past}
use Rattle.classes.specs.declared.Class.{Class}
use Rattle.classes.specs.Classes.{holds_byte, SharedByte, FirstShared}
use Rattle.classes.proofs.Anys.{split_at}

-- the positions from one on
abbrev From : ℕ → Set → Type 0
From p s = (q : ℕ) → holds s q ≡ (ltb q 128 && leb p q)

module _ (k : Class) (byte : ℕ) where
  -- what the class holds in each half
  pub in_low : byte < 128 → holds_byte k byte ≡ holds k.low byte
  unfolding holds_byte
  in_low h = cond_true (ltb byte 128) _ _ (lt-ltb byte 128 h)

  pub in_high : 128 ≤ byte → holds_byte k byte ≡ holds k.high (byte - 128)
  unfolding holds_byte
  in_high h = cond_false (ltb byte 128) _ _ (le-ltb byte 128 h)

  -- and behind the last byte: nothing
  pub past_high : 256 ≤ byte → holds_byte k byte ≡ false
  past_high h = in_high (omega arith) ∙ holds_past k.high (byte - 128) (omega arith)

  -- an answer that is right in both halves is what the class holds
  by_halves : {b : Bool} → (byte < 128 → holds k.low byte ≡ b) → (128 ≤ byte → holds k.high (byte - 128) ≡ b) → holds_byte k byte ≡ b
  by_halves low high = split_at byte 128 (λ h. in_low h ∙ low h) (λ h. in_high h ∙ high h)

-- What holds of both halves of three classes holds of their bytes.
pub each_half :
    (f : Bool → Bool → Bool) (k m r : Class)
    → ((q : ℕ) → holds r.low q ≡ f (holds k.low q) (holds m.low q))
    → ((q : ℕ) → holds r.high q ≡ f (holds k.high q) (holds m.high q))
    → (byte : ℕ)
    → holds_byte r byte ≡ f (holds_byte k byte) (holds_byte m byte)
each_half f k m r low high byte =
    by_halves r byte
    (λ h. low byte ∙ sym (ap₂ f (in_low k byte h) (in_low m byte h)))
    (λ h. high (byte - 128) ∙ sym (ap₂ f (in_high k byte h) (in_high m byte h)))

-- Two empty halves hold nothing.
pub nothing : (k : Class) → Empty k.low → Empty k.high → (byte : ℕ) → holds_byte k byte ≡ false
nothing k low high byte = by_halves k byte (λ h. low byte) (λ h. high (byte - 128))

-- ---- The bytes from one on

-- a byte of the upper half is below 256 if it is, less 128, below 128
upper : (byte : ℕ) → 128 ≤ byte → ltb (byte - 128) 128 ≡ ltb byte 256
upper byte h =
    split_at byte 256
    (λ l. lt-ltb (byte - 128) 128 (omega arith) ∙ sym (lt-ltb byte 256 l))
    (λ l. le-ltb (byte - 128) 128 (omega arith) ∙ sym (le-ltb byte 256 l))

-- the first of them stands in the lower half
pub from_low : (k : Class) (first : ℕ) → first < 128 → From first k.low → From 0 k.high → (byte : ℕ) → holds_byte k byte ≡ (ltb byte 256 && leb first byte)
from_low k first f low high byte =
    by_halves k byte
    (λ h. low byte ∙ ap₂ ◌&&◌ (lt-ltb byte 128 h ∙ sym (lt-ltb byte 256 (omega arith))) refl)
    (λ h. high (byte - 128) ∙ ap₂ ◌&&◌ (upper byte h) (le-leb 0 (byte - 128) (omega arith) ∙ sym (le-leb first byte (omega arith))))

-- or in the upper one
pub from_high : (k : Class) (first : ℕ) → 128 ≤ first → Empty k.low → From (first - 128) k.high → (byte : ℕ) → holds_byte k byte ≡ (ltb byte 256 && leb first byte)
from_high k first f low high byte =
    by_halves k byte
    (λ h. low byte ∙ ap₂ ◌&&◌ (sym (lt-ltb byte 256 (omega arith))) (sym (lt-leb first byte (omega arith))))
    (λ h. high (byte - 128) ∙ ap₂ ◌&&◌ (upper byte h) (less h))
  where
    less : 128 ≤ byte → leb (first - 128) (byte - 128) ≡ leb first byte
    less h =
        split_at byte first
        (λ l. lt-leb (first - 128) (byte - 128) (omega arith) ∙ sym (lt-leb first byte l))
        (λ l. le-leb (first - 128) (byte - 128) (omega arith) ∙ sym (le-leb first byte l))

-- what is behind the last byte is in neither
neither : (x y : Bool) → ((x && y) && not (x && true)) ≡ (y && false)
neither true true = refl
neither true false = refl
neither false true = refl
neither false false = refl

-- Without those behind the last byte of a run, they are the bytes of the run.
pub from_to :
    (first last byte : ℕ)
    → last < 256
    → (ltb byte 256 && leb first byte && not (ltb byte 256 && leb (last + 1) byte)) ≡ in_run byte (record { first = first; last = last })
unfolding in_run
from_to first last byte h = go (leb byte last) refl
  where
    go : (b : Bool) → leb byte last ≡ b → ((ltb byte 256 && leb first byte) && not (ltb byte 256 && leb (last + 1) byte)) ≡ (leb first byte && b)
    go true e =
        let l = leb-true byte last e in
        rw (lt-ltb byte 256 (omega arith), lt-leb (last + 1) byte (omega arith))
    go false e = let l = leb-false byte last e in rw (le-leb (last + 1) byte (omega arith)) (neither (ltb byte 256) (leb first byte))

-- ---- A byte of both

module _ (k m : Class) where
  -- it stands in the lower halves, or in the upper ones
  pub shared_low : Shared k.low m.low → SharedByte k m
  shared_low (p, l, u, v) = (p, omega arith, in_low k p l ∙ u, in_low m p l ∙ v)

  pub shared_high : Shared k.high m.high → SharedByte k m
  shared_high (p, l, u, v) =
      let back : 128 + p - 128 ≡ p = omega arith in
      (128 + p, omega arith, in_high k (128 + p) (omega arith) ∙ rw back u, in_high m (128 + p) (omega arith) ∙ rw back v)

  pub shared_half : SharedByte k m → {C : Type 0} → (Shared k.low m.low → C) → (Shared k.high m.high → C) → C
  shared_half (byte, l, u, v) low high =
      split_at byte 128
      (λ h. low (byte, h, sym (in_low k byte h) ∙ u, sym (in_low m byte h) ∙ v))
      (λ h. high (byte - 128, omega arith, sym (in_high k byte h) ∙ u, sym (in_high m byte h) ∙ v))

-- ---- The lowest byte of both

-- where both hold a position, what they share holds it; so before the first of what they share they share none
none_before :
    (s t m : Set) (r : ℕ) → Met s t m → FirstFrom m 0 r → (q : ℕ) → q < r → holds s q ≡ true → ¬ (holds t q ≡ true)
none_before s t m r met first q h in-s in-t = not_both (met q ∙ and_of _ _ in-s in-t) (first.skipped q (omega arith) h)

module _ (k m : Class) (low : Set) (low-met : Met k.low m.low low) (below : ℕ) (first_low : FirstFrom low 0 below) where
  -- the lower halves share a byte: their first one
  pub shared_below : below < 128 → FirstShared k m below
  shared_below h =
      let both = and_both _ _ (sym (low-met below) ∙ first_low.held h) in
      record {
        in_both = λ l. (in_low k below h ∙ both.0, in_low m below h ∙ both.1);
        none_lower = λ byte l n i j. none_before _ _ low below low-met first_low byte l (sym (in_low k byte (omega arith)) ∙ i) (sym (in_low m byte (omega arith)) ∙ j);
      }

  module _ (high : Set) (high-met : Met k.high m.high high) (above : ℕ) (first_high : FirstFrom high 0 above) (none_below : 128 ≤ below) where
    -- the lower ones do not: before the first one of the upper halves there is none
    none_lower_above : (byte : ℕ) → byte < 128 + above → holds_byte k byte ≡ true → ¬ (holds_byte m byte ≡ true)
    none_lower_above byte l i j =
        split_at byte 128
        (λ h. none_before _ _ low below low-met first_low byte (omega arith) (sym (in_low k byte h) ∙ i) (sym (in_low m byte h) ∙ j))
        (λ h. none_before _ _ high above high-met first_high (byte - 128) (omega arith) (sym (in_high k byte h) ∙ i) (sym (in_high m byte h) ∙ j))

    pub shared_above : above < 128 → FirstShared k m (128 + above)
    shared_above h =
        let both = and_both _ _ (sym (high-met above) ∙ first_high.held h) in
        let same : 128 + above - 128 ≡ above = omega arith in
        record {
          in_both = λ l. (in_high k (128 + above) (omega arith) ∙ ap (holds k.high) same ∙ both.0, in_high m (128 + above) (omega arith) ∙ ap (holds m.high) same ∙ both.1);
          none_lower = λ byte l n i j. none_lower_above byte l i j;
        }

    pub shared_none : 128 ≤ above → FirstShared k m 256
    shared_none h = record { in_both = λ l. absurd (omega arith); none_lower = λ byte l n i j. none_lower_above byte (omega arith) i j }
