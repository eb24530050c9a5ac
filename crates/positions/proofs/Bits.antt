-- Bits of numbers, and the positions of a set that they stand for: what the functions' proofs cite. Assumes nothing.
use mathlib.Core.Path.{◌≡◌, refl, sym, ap, ap₂, ◌∙◌}
use mathlib.Core.Bool.{Bool, true, false, not, ◌&&◌, ◌||◌, cond, true≢false, false≢true}
use mathlib.Core.Logic.{◌≢◌, ◌↔◌}
use Prim.Native.Nat.{ℕ, zero, suc, ◌+◌, ◌-◌, ◌*◌, ◌/◌, ◌%◌, ◌^◌, ◌≤◌, ◌<◌, suc-le-suc}
use native.Mathlib.Nat.{zero-div, div-one, one-mul, pow-suc, mul-mod_left, mul-div_cancel, zero-lt-suc, lt_of_le_of_lt, lt_of_lt_of_le, mul_assoc, div-eq_of_lt, div-le_self, mod-lt}
use native.Mathlib.Numerals.{one-add, add-one}
use native.Mathlib.Omega.{arith}
use borrow.Author.Tests.{ltb-true, ltb-false, lt-ltb, le-ltb, leb-true, leb-false, le-leb, lt-leb, eqb-true, eqb-false, eq-eqb, ne_eqb, not-true}
use lib.Arith.{lt-one}
use lib.Count.{under, count_trailing_zeros}
use lib.Bits.{bit_and, bit_or, bit_xor, and_shr, and_mod, or_shr, or_mod, xor_shr, xor_mod, or_lt, and_le_l, shifted_even}
use lib.Dec.{ltb, leb, eqb, eqb-zero-suc, eqb-suc-zero, eqb-suc-suc}
use lib.Pow.{shl_exact, shl-shr, shr_lt, shr-shr, field, mod-mod-pow, pow-add, pow_mono}
use Rattle.positions.specs.declared.Set.{Set}
use Rattle.positions.specs.Positions.{bit, holds, Empty, Only, Removed, Less, Shared, holds_moved, Moved, FirstFrom}

-- ---- Truth values

-- Where neither is true, both are false.
or-false : (x y : Bool) → (x || y) ≡ false → (x ≡ false) × (y ≡ false)
or-false true y e = absurd (true≢false e)
or-false false y e = (refl, e)

-- A false side adds nothing.
or_false_right : (x : Bool) → (x || false) ≡ x
or_false_right true = refl
or_false_right false = refl

-- Two tests may change places.
and_comm : (x y : Bool) → (x && y) ≡ (y && x)
and_comm true true = refl
and_comm true false = refl
and_comm false true = refl
and_comm false false = refl

-- Where both are true, each is.
and-true : (x y : Bool) → (x && y) ≡ true → (x ≡ true) × (y ≡ true)
and-true true y e = (refl, e)
and-true false y e = absurd (false≢true e)

-- Two tests for equality agree where the equations do.
pub same_test : (a b x y : ℕ) → (a ≡ b → x ≡ y) → (x ≡ y → a ≡ b) → eqb a b ≡ eqb x y
same_test a b x y there back = go (eqb x y) refl
  where
    go : (t : Bool) → eqb x y ≡ t → eqb a b ≡ t
    go true e = eq-eqb a b (back (eqb-true x y e))
    go false e = ne_eqb a b (λ h. eqb-false x y e (there h))

-- ---- One bit

-- The bits of half a number are its own, one place down.
bit_suc : (j n : ℕ) → bit (suc j) n ≡ bit j (n / 2)
unfolding bit
bit_suc j n = rw (← (one-add j), ← (shr-shr n 1 j))

-- Zero has no bit.
pub bit_zero : (j : ℕ) → bit j 0 ≡ false
unfolding bit
bit_zero j = rw zero-div

-- Bit 0 of a number says whether it is odd.
bit_first : (n : ℕ) → bit 0 n ≡ eqb (n % 2) 1
unfolding bit
bit_first n = rw div-one

-- A power of two has one bit.
bit_power : (i j : ℕ) → bit j (2 ^ i) ≡ eqb j i
unfolding bit
bit_power zero zero = refl
bit_power zero (suc j) = bit_suc j 1 ∙ bit_zero j ∙ sym (eqb-suc-zero j)
bit_power (suc i) zero = bit_first (2 ^ suc i) ∙ rw (pow-suc 2 i, mul-mod_left (2 ^ i) 2) (sym (eqb-zero-suc i))
bit_power (suc i) (suc j) =
    bit_suc j (2 ^ suc i) ∙ ap (λ (n : ℕ). bit j (n / 2)) (pow-suc 2 i)
    ∙ ap (bit j) (mul-div_cancel (2 ^ i) (zero-lt-suc 1)) ∙ bit_power i j ∙ sym (eqb-suc-suc j i)

-- One shifted by i places has bit i, and no other.
pub bit_shifted : (i j : ℕ) → i < 64 → bit j (1 * 2 ^ i % 2 ^ 64) ≡ eqb j i
bit_shifted i j h = ap (bit j) (shl_exact 1 i 64 (omega arith) (omega arith) ∙ one-mul (2 ^ i)) ∙ bit_power i j

-- A number cut to w bits has its own bits below w.
bit_cut : (w n j : ℕ) → j < w → bit j (n % 2 ^ w) ≡ bit j n
unfolding bit
bit_cut w n j h =
    let cut : (w - j - 1) + 1 + j ≡ w = omega arith in
    rw (← cut, field n ((w - j - 1) + 1) j, mod-mod-pow (n / 2 ^ j) (w - j - 1) 1)

-- Shifted up by i places, a number has its bits i places up, and none below.
bit_up : (n i j : ℕ) → i ≤ j → bit j (n * 2 ^ i) ≡ bit (j - i) n
unfolding bit
bit_up n i j h =
    let back : i + (j - i) ≡ j = omega arith in
    ap (λ (k : ℕ). eqb (n * 2 ^ i / 2 ^ k % 2) 1) (sym back) ∙ rw (← (shr-shr (n * 2 ^ i) i (j - i)), shl-shr n i)

bit_under : (n i j : ℕ) → j < i → bit j (n * 2 ^ i) ≡ false
unfolding bit
bit_under n i j h =
    let parts : suc (i - j - 1) + j ≡ i = omega arith in
    rw (← parts, pow-add 2 (suc (i - j - 1)) j, ← (mul_assoc n (2 ^ suc (i - j - 1)) (2 ^ j)), shl-shr (n * 2 ^ suc (i - j - 1)) j, shifted_even n (i - j - 1))

-- Shifted down, it has them as many places down.
bit_down : (n i j : ℕ) → bit j (n / 2 ^ i) ≡ bit (i + j) n
unfolding bit
bit_down n i j = rw (shr-shr n i j)

-- A number has no bit beyond its width.
bit_beyond : (w n j : ℕ) → n < 2 ^ w → w ≤ j → bit j n ≡ false
unfolding bit
bit_beyond w n j h l = rw (div-eq_of_lt (lt_of_lt_of_le h (pow_mono l)))

-- One less than a power of two has every bit below the exponent.
bit_ones : (w j : ℕ) → j < w → bit j (2 ^ w - 1) ≡ true
bit_ones zero j h = absurd (omega arith)
bit_ones (suc w) zero h =
    let some : 2 ^ 0 ≤ 2 ^ w = pow_mono {i = 0} {j = w} (omega arith) in
    bit_first (2 ^ suc w - 1) ∙ eq-eqb ((2 ^ suc w - 1) % 2) 1 (omega (arith, some, pow-suc 2 w))
bit_ones (suc w) (suc j) h =
    let some : 2 ^ 0 ≤ 2 ^ w = pow_mono {i = 0} {j = w} (omega arith) in
    let half : (2 ^ suc w - 1) / 2 ≡ 2 ^ w - 1 = omega (arith, some, pow-suc 2 w) in
    bit_suc j (2 ^ suc w - 1) ∙ ap (bit j) half ∙ bit_ones w j (omega arith)

-- A place below w at which n has a bit.
abbrev SomeBit : ℕ → ℕ → Type 0
SomeBit w n = (j : ℕ) × (j < w) × (bit j n ≡ true)

-- A number that is not zero has a bit, below its width.
some_bit : (w n : ℕ) → n < 2 ^ w → n ≢ 0 → SomeBit w n
some_bit zero n h nz = absurd (nz (lt-one h))
some_bit (suc w) n h nz = go (eqb (n % 2) 1) refl (some_bit w (n / 2) (shr_lt w 1 (rw add-one h)))
  where
    go : (b : Bool) → eqb (n % 2) 1 ≡ b → (n / 2 ≢ 0 → SomeBit w (n / 2)) → SomeBit (suc w) n
    go true e higher = (0, zero-lt-suc w, bit_first n ∙ e)
    go false e higher =
        let found = higher (λ (z : n / 2 ≡ 0). nz (omega (arith, eqb-false (n % 2) 1 e))) in
        (suc found.0, suc-le-suc found.1, bit_suc found.0 n ∙ found.2)

-- ---- The three places of a position

module _ (s : Set) (q : ℕ) where
  -- What the set holds at each.
  pub holds_low : q < 64 → holds s q ≡ bit q s.low
  unfolding holds
  holds_low h = simp (lt-ltb q 64 h)

  pub holds_high : 64 ≤ q → q < 128 → holds s q ≡ bit (q - 64) s.high
  unfolding holds
  holds_high h l = simp (le-ltb q 64 h, lt-ltb q 128 l)

  pub holds_past : 128 ≤ q → holds s q ≡ false
  unfolding holds
  holds_past h = simp (le-ltb q 64 (omega arith), le-ltb q 128 h)

  -- An answer that is right at each of the three is what the set holds.
  pub holds_by : {b : Bool} → (q < 64 → bit q s.low ≡ b) → (64 ≤ q → q < 128 → bit (q - 64) s.high ≡ b) → (128 ≤ q → b ≡ false)
      → holds s q ≡ b
  holds_by {b} low high past = go (ltb q 64) (ltb q 128) refl refl
    where
      go : (x y : Bool) → ltb q 64 ≡ x → ltb q 128 ≡ y → holds s q ≡ b
      go true y e f = let h = ltb-true q 64 e in holds_low h ∙ low h
      go false true e f = let h = ltb-false q 64 e in let l = ltb-true q 128 f in holds_high h l ∙ high h l
      go false false e f = let h = ltb-false q 128 f in holds_past h ∙ sym (past h)

-- ---- Two sets at once

-- The operation on the low numbers, and on the high ones.
abbrev pub each : (ℕ → ℕ → ℕ) → Set → Set → Set
each op s t = record { low = op s.low t.low; high = op s.high t.high }

-- The remainder by 2 is 1 or 0.
as_digit : (n : ℕ) → n % 2 ≡ cond (eqb (n % 2) 1) 1 0
as_digit n = go (eqb (n % 2) 1) refl
  where
    go : (b : Bool) → eqb (n % 2) 1 ≡ b → n % 2 ≡ cond b 1 0
    go true e = eqb-true (n % 2) 1 e
    go false e = omega (arith, eqb-false (n % 2) 1 e)

module _
    (op : ℕ → ℕ → ℕ)
    (f : Bool → Bool → Bool)
    (op_shr : (a b k : ℕ) → op a b / 2 ^ k ≡ op (a / 2 ^ k) (b / 2 ^ k))
    (op-mod : (a b k : ℕ) → op a b % 2 ^ k ≡ op (a % 2 ^ k) (b % 2 ^ k))
    (digits : (x y : Bool) → eqb (op (cond x 1 0) (cond y 1 0)) 1 ≡ f x y)
  where
    -- An operation on digits is one on bits.
    bit_op : (a b j : ℕ) → bit j (op a b) ≡ f (bit j a) (bit j b)
    unfolding bit
    bit_op a b j = rw (op_shr, op-mod _ _ 1) (ap₂ (λ (x y : ℕ). eqb (op x y) 1) (as_digit (a / 2 ^ j)) (as_digit (b / 2 ^ j)) ∙ digits (bit j a) (bit j b))

    -- On both numbers of two sets it is one on positions.
    holds_op : f false false ≡ false → (s t : Set) (q : ℕ) → holds (each op s t) q ≡ f (holds s q) (holds t q)
    holds_op nothing s t q =
        holds_by (each op s t) q
        (λ h. bit_op _ _ q ∙ sym (ap₂ f (holds_low s q h) (holds_low t q h)))
        (λ h l. bit_op _ _ (q - 64) ∙ sym (ap₂ f (holds_high s q h l) (holds_high t q h l)))
        (λ h. ap₂ f (holds_past s q h) (holds_past t q h) ∙ nothing)

-- On the digits 1 and 0 the two are the tests' own `or` and `and`.
or_digits : (x y : Bool) → eqb (bit_or (cond x 1 0) (cond y 1 0)) 1 ≡ (x || y)
or_digits true true = refl
or_digits true false = refl
or_digits false true = refl
or_digits false false = refl

and_digits : (x y : Bool) → eqb (bit_and (cond x 1 0) (cond y 1 0)) 1 ≡ (x && y)
and_digits true true = refl
and_digits true false = refl
and_digits false true = refl
and_digits false false = refl

-- The bits of the second number, added and then flipped away.
abbrev pub cleared : ℕ → ℕ → ℕ
cleared a b = bit_xor (bit_or a b) b

cleared_digits : (x y : Bool) → eqb (cleared (cond x 1 0) (cond y 1 0)) 1 ≡ (x && not y)
cleared_digits true true = refl
cleared_digits true false = refl
cleared_digits false true = refl
cleared_digits false false = refl

-- The bits of an `or`.
bit_or_lem : (a b j : ℕ) → bit j (bit_or a b) ≡ (bit j a || bit j b)
bit_or_lem = bit_op bit_or ◌||◌ or_shr or_mod or_digits

-- What the two numbers' `or` and `and` hold, and what is left of one without the other.
pub holds_or : (s t : Set) (q : ℕ) → holds (each bit_or s t) q ≡ (holds s q || holds t q)
holds_or = holds_op bit_or ◌||◌ or_shr or_mod or_digits refl

pub holds_and : (s t : Set) (q : ℕ) → holds (each bit_and s t) q ≡ (holds s q && holds t q)
holds_and = holds_op bit_and ◌&&◌ and_shr and_mod and_digits refl

pub holds_cleared : (s t : Set) (q : ℕ) → holds (each cleared s t) q ≡ (holds s q && not (holds t q))
holds_cleared =
    holds_op
    cleared
    (λ x y. x && not y)
    (λ a b k. xor_shr (bit_or a b) b k ∙ ap (λ n. bit_xor n (b / 2 ^ k)) (or_shr a b k))
    (λ a b k. xor_mod (bit_or a b) b k ∙ ap (λ n. bit_xor n (b % 2 ^ k)) (or_mod a b k))
    cleared_digits
    refl

-- Less one position.
pub less_one : (s one r : Set) (p : ℕ) → Only p one → Less s one r → Removed s p r
less_one s one r p only less q = less q ∙ ap (λ (b : Bool). holds s q && not b) (only q) ∙ and_comm (holds s q) (not (eqb q p))

-- ---- A set moved up by n

module _ (s : Set) (n q : ℕ) where
  -- what it holds where nothing of s can come, and where what stood n below comes
  moved_none : (128 ≤ q → ⊥) → q < n → false ≡ holds_moved s n q
  moved_none h l = rw (lt-ltb q 128 (omega arith), lt-leb n q l)

  moved_past : 128 ≤ q → holds_moved s n q ≡ false
  moved_past h = rw (le-ltb q 128 h)

  moved_some : q < 128 → n ≤ q → holds s (q - n) ≡ holds_moved s n q
  moved_some h l = rw (lt-ltb q 128 h, le-leb n q l)

  -- a number of the set shifted up by i places, where bit j of it stands for position q
  shifted_bit :
      (m i j : ℕ)
      → j < 64
      → q < 128
      → (i ≤ j → holds s (q - n) ≡ bit (j - i) m)
      → (i ≤ j → n ≤ q)
      → (j < i → q < n)
      → bit j (m * 2 ^ i % 2 ^ 64) ≡ holds_moved s n q
  shifted_bit m i j h l there up under = bit_cut 64 (m * 2 ^ i) j h ∙ go (leb i j) refl
    where
      go : (b : Bool) → leb i j ≡ b → bit j (m * 2 ^ i) ≡ holds_moved s n q
      go true e = let k = leb-true i j e in bit_up m i j k ∙ sym (there k) ∙ moved_some l (up k)
      go false e = let k = leb-false i j e in bit_under m i j k ∙ moved_none (omega arith) (under k)

module _ (s : Set) (n : ℕ) where
  -- moved by 128 or more it is empty
  pub moved_away : 128 ≤ n → (r : Set) → Empty r → Moved s n r
  moved_away h r none q = none q ∙ go (ltb q 128) refl
    where
      go : (b : Bool) → ltb q 128 ≡ b → false ≡ (b && (leb n q && holds s (q - n)))
      go true e = let k = ltb-true q 128 e in rw (lt-leb n q (omega arith))
      go false e = refl

  -- moved by 64 or more, `low` comes into `high`
  pub moved_far : 64 ≤ n → n < 128 → Moved s n (record { low = 0; high = s.low * 2 ^ (n - 64) % 2 ^ 64 })
  moved_far h l q =
      holds_by (record { low = 0; high = s.low * 2 ^ (n - 64) % 2 ^ 64 }) q
      (λ k. bit_zero q ∙ moved_none s n q (omega arith) (omega arith))
      (λ k m.
      shifted_bit s n q s.low (n - 64) (q - 64) (omega arith) m
      (λ u. let same : q - 64 - (n - 64) ≡ q - n = omega arith in rw same (holds_low s (q - n) (omega arith)))
      (λ u. omega arith)
      (λ u. omega arith))
      (moved_past s n q)

  -- not moved it is itself
  pub moved_not : n ≡ 0 → Moved s n s
  moved_not e q = go (ltb q 128) refl
    where
      go : (b : Bool) → ltb q 128 ≡ b → holds s q ≡ (b && (leb n q && holds s (q - n)))
      go true f = let same : q - n ≡ q = omega arith in rw (same, le-leb n q (omega arith))
      go false f = holds_past s q (ltb-false q 128 f)

  -- moved by less, `low` comes into both numbers
  pub moved_near :
      0 < n
      → n < 64
      → s.low < 2 ^ 64
      → Moved s n (record { low = s.low * 2 ^ n % 2 ^ 64; high = bit_or (s.high * 2 ^ n % 2 ^ 64) (s.low / 2 ^ (64 - n)) })
  moved_near z h fits q =
      holds_by (record { low = s.low * 2 ^ n % 2 ^ 64; high = bit_or (s.high * 2 ^ n % 2 ^ 64) (s.low / 2 ^ (64 - n)) }) q
      (λ k. shifted_bit s n q s.low n q k (omega arith) (λ u. holds_low s (q - n) (omega arith)) (λ u. u) (λ u. u))
      (λ k m. bit_or_lem (s.high * 2 ^ n % 2 ^ 64) (s.low / 2 ^ (64 - n)) (q - 64) ∙ ap₂ ◌||◌ (bit_cut 64 (s.high * 2 ^ n) (q - 64) (omega arith)) (from_low k) ∙ go k m (leb n (q - 64)) refl)
      (moved_past s n q)
    where
      -- what is shifted down to the bottom of `high` is the top of `low`
      from_low : 64 ≤ q → bit (q - 64) (s.low / 2 ^ (64 - n)) ≡ bit (q - n) s.low
      from_low k =
          let same : 64 - n + (q - 64) ≡ q - n = omega arith in
          bit_down s.low (64 - n) (q - 64) ∙ ap (λ (j : ℕ). bit j s.low) same

      go :
          64 ≤ q
          → q < 128
          → (b : Bool)
          → leb n (q - 64) ≡ b
          → (bit (q - 64) (s.high * 2 ^ n) || bit (q - n) s.low) ≡ holds_moved s n q
      go k m true e =
          let u = leb-true n (q - 64) e in
          let same : q - 64 - n ≡ q - n - 64 = omega arith in
          ap₂ ◌||◌ (bit_up s.high n (q - 64) u) (bit_beyond 64 s.low (q - n) fits (omega arith))
          ∙ or_false_right _
          ∙ ap (λ (j : ℕ). bit j s.high) same
          ∙ sym (holds_high s (q - n) (omega arith) (omega arith))
          ∙ moved_some s n q m (omega arith)
      go k m false e =
          let u = leb-false n (q - 64) e in
          ap₂ ◌||◌ (bit_under s.high n (q - 64) u) (sym (holds_low s (q - n) (omega arith))) ∙ moved_some s n q m (omega arith)

-- ---- Every position, and those from one on

-- The set of all ones holds every position.
pub holds_full : (q : ℕ) → holds (record { low = 18446744073709551615; high = 18446744073709551615 }) q ≡ ltb q 128
holds_full q =
    holds_by (record { low = 18446744073709551615; high = 18446744073709551615 }) q
    (λ h. bit_ones 64 q h ∙ sym (lt-ltb q 128 (omega arith)))
    (λ h l. bit_ones 64 (q - 64) (omega arith) ∙ sym (lt-ltb q 128 l))
    (λ h. le-ltb q 128 h)

-- Moved up by p, it holds those from p on.
pub full_moved : (s : Set) (p q : ℕ) → ((j : ℕ) → holds s j ≡ ltb j 128) → holds_moved s p q ≡ (ltb q 128 && leb p q)
full_moved s p q full = rw (full (q - p)) (go (ltb q 128) refl)
  where
    go : (b : Bool) → ltb q 128 ≡ b → (b && (leb p q && ltb (q - p) 128)) ≡ (b && leb p q)
    go true e = let h = ltb-true q 128 e in rw (lt-ltb (q - p) 128 (omega arith)) (and_comm (leb p q) true)
    go false e = refl

-- ---- No position, or some

-- Whether the `or` of the two numbers is zero.
abbrev pub blank : Set → Bool
blank s = eqb (bit_or s.low s.high) 0

-- A position that the set holds.
abbrev SomeHeld : Set → Type 0
SomeHeld s = (p : ℕ) × (p < 128) × (holds s p ≡ true)

module _ (s : Set) where
  -- Where it is zero, the set holds nothing.
  none_held : blank s ≡ true → Empty s
  none_held e p = holds_by s p (λ h. (neither p).0) (λ h l. (neither (p - 64)).1) (λ h. refl)
    where
      neither : (j : ℕ) → (bit j s.low ≡ false) × (bit j s.high ≡ false)
      neither j = or-false _ _ (sym (bit_or_lem s.low s.high j) ∙ ap (bit j) (eqb-true _ 0 e) ∙ bit_zero j)

  -- Where it is not, the set holds some position.
  some_held : s.low < 2 ^ 64 → s.high < 2 ^ 64 → blank s ≡ false → SomeHeld s
  some_held l h e =
      let (j, k, found) = some_bit 64 (bit_or s.low s.high) (or_lt 64 _ _ l h) (eqb-false _ 0 e) in
      place j k (bit j s.low) refl (sym (bit_or_lem s.low s.high j) ∙ found)
    where
      place : (j : ℕ) → j < 64 → (x : Bool) → bit j s.low ≡ x → (x || bit j s.high) ≡ true → SomeHeld s
      place j k true e f = (j, omega arith, holds_low s j k ∙ e)
      place j k false e f =
          let back : 64 + j - 64 ≡ j = omega arith in
          (64 + j, omega arith, holds_high s (64 + j) (omega arith) (omega arith) ∙ rw back f)

-- So that test says whether the set is empty.
pub empty_test : (s : Set) → s.low < 2 ^ 64 → s.high < 2 ^ 64 → (blank s ≡ true) ↔ Empty s
empty_test s l h = (none_held s, λ none. go none (blank s) refl)
  where
    go : Empty s → (t : Bool) → blank s ≡ t → t ≡ true
    go none true e = refl
    go none false e = let (p, k, held) = some_held s l h e in sym (none p) ∙ held

-- On the `and` of two sets it says whether they share a position.
pub shared_test : (s t : Set) → s.low < 2 ^ 64 → s.high < 2 ^ 64 → (not (blank (each bit_and s t)) ≡ true) ↔ Shared s t
shared_test s t l h = (found, λ w. go w (blank both) refl)
  where
    both : Set
    both = each bit_and s t

    found : not (blank both) ≡ true → Shared s t
    found e =
        let (p, k, held) = some_held both (lt_of_le_of_lt (and_le_l _ _) l) (lt_of_le_of_lt (and_le_l _ _) h) (not-true _ e) in
        let (in-s, in-t) = and-true _ _ (sym (holds_and s t p) ∙ held) in
        (p, k, in-s, in-t)

    go : Shared s t → (x : Bool) → blank both ≡ x → not x ≡ true
    go (p, k, in-s, in-t) true e = sym (none_held both e p) ∙ holds_and s t p ∙ ap₂ ◌&&◌ in-s in-t
    go w false e = refl

-- ---- The first position from a place on

-- Of the first k bits of n, bit t is the lowest that is 1; t is k if none is.
abbrev Lowest : ℕ → ℕ → ℕ → Type 0
Lowest t k n = ((j : ℕ) → j < t → bit j n ≡ false) × (t < k → bit t n ≡ true)

-- With one digit more below the k of half a number.
lowest_digit : (k n d t : ℕ) → n % 2 ≡ d → Lowest t k (n / 2) → Lowest (under d t) (suc k) n
lowest_digit k n zero t e rest = (even, λ h. bit_suc t n ∙ rest.1 (omega arith))
  where
    even : (j : ℕ) → j < suc t → bit j n ≡ false
    even zero h = bit_first n ∙ ne_eqb (n % 2) 1 (λ o. omega arith)
    even (suc j) h = bit_suc j n ∙ rest.0 j (omega arith)
lowest_digit k n (suc d) t e rest = (λ j h. absurd (omega arith), λ h. bit_first n ∙ eq-eqb (n % 2) 1 (omega (arith, mod-lt n (zero-lt-suc 1))))

-- The zeros in which a number ends stand below that bit.
zeros_below : (k n : ℕ) → Lowest (count_trailing_zeros k n) k n
unfolding count_trailing_zeros
zeros_below zero n = (λ j h. absurd (omega arith), λ h. absurd (omega arith))
zeros_below (suc k) n = lowest_digit k n (n % 2) (count_trailing_zeros k (n / 2)) refl (zeros_below k (n / 2))

-- A number that is not zero has it.
zeros_few : (n : ℕ) → n < 2 ^ 64 → n ≢ 0 → count_trailing_zeros 64 n < 64
zeros_few n fits some = let (j, k, b) = some_bit 64 n fits some in go j k b (ltb j (count_trailing_zeros 64 n)) refl
  where
    go : (j : ℕ) → j < 64 → bit j n ≡ true → (x : Bool) → ltb j (count_trailing_zeros 64 n) ≡ x → count_trailing_zeros 64 n < 64
    go j k b true e = absurd (true≢false (sym b ∙ (zeros_below 64 n).0 j (ltb-true j (count_trailing_zeros 64 n) e)))
    go j k b false e = let u = ltb-false j (count_trailing_zeros 64 n) e in omega arith

-- A bit that is 1 is one of the number's own.
bit_within : (w n j : ℕ) → n < 2 ^ w → bit j n ≡ true → j < w
bit_within w n j fits b = go (ltb j w) refl
  where
    go : (x : Bool) → ltb j w ≡ x → j < w
    go true e = ltb-true j w e
    go false e = absurd (true≢false (sym b ∙ bit_beyond w n j fits (ltb-false j w e)))

-- The bits of a number from i on, once it is shifted down.
shifted_down : (m i q : ℕ) → i ≤ q → bit (q - i) (m / 2 ^ i) ≡ bit q m
shifted_down m i q h = let same : i + (q - i) ≡ q = omega arith in bit_down m i (q - i) ∙ ap (λ (j : ℕ). bit j m) same

module _ (s : Set) (p : ℕ) where
  -- in `low`, if a bit is left there
  pub first_low : p < 64 → s.low < 2 ^ 64 → s.low / 2 ^ p ≢ 0 → FirstFrom s p (p + count_trailing_zeros 64 (s.low / 2 ^ p))
  first_low h fits some =
      let rest = s.low / 2 ^ p in
      let t = count_trailing_zeros 64 rest in
      let lowest = zeros_below 64 rest in
      let there : bit (p + t) s.low ≡ true =
      sym (bit_down s.low p t) ∙ lowest.1 (zeros_few rest (lt_of_le_of_lt (div-le_self s.low (2 ^ p)) fits) some) in
      let within = bit_within 64 s.low (p + t) fits there in
      record {
        from = omega arith;
        skipped = λ q k l. holds_low s q (omega arith) ∙ sym (shifted_down s.low p q k) ∙ lowest.0 (q - p) (omega arith);
        held = λ l. holds_low s (p + t) within ∙ there;
      }

  -- otherwise in `high`
  pub first_after : p < 64 → s.low / 2 ^ p ≡ 0 → FirstFrom s p (64 + count_trailing_zeros 64 s.high)
  first_after h none =
      let t = count_trailing_zeros 64 s.high in
      let lowest = zeros_below 64 s.high in
      let same : 64 + t - 64 ≡ t = omega arith in
      record {
        from = omega arith;
        skipped = λ q k l. holds_by s q (λ u. sym (shifted_down s.low p q k) ∙ ap (bit (q - p)) none ∙ bit_zero (q - p)) (λ u v. lowest.0 (q - 64) (omega arith)) (λ u. refl);
        held = λ l. holds_high s (64 + t) (omega arith) (omega arith) ∙ ap (λ (j : ℕ). bit j s.high) same ∙ lowest.1 (omega arith);
      }

  -- or, from 64 on, there only
  pub first_high : 64 ≤ p → p < 128 → FirstFrom s p (p + count_trailing_zeros 64 (s.high / 2 ^ (p - 64)))
  first_high h l =
      let rest = s.high / 2 ^ (p - 64) in
      let t = count_trailing_zeros 64 rest in
      let lowest = zeros_below 64 rest in
      let same : p + t - p ≡ t = omega arith in
      record {
        from = omega arith;
        skipped = λ q k m. holds_by s q (λ u. absurd (omega arith)) (λ u v. there q k ∙ lowest.0 (q - p) (omega arith)) (λ u. refl);
        held = λ m. holds_high s (p + t) (omega arith) m ∙ there (p + t) (omega arith) ∙ ap (λ (j : ℕ). bit j rest) same ∙ lowest.1 (omega arith);
      }
    where
      there : (q : ℕ) → p ≤ q → bit (q - 64) s.high ≡ bit (q - p) (s.high / 2 ^ (p - 64))
      there q k =
          let same : q - 64 - (p - 64) ≡ q - p = omega arith in
          sym (shifted_down s.high (p - 64) (q - 64) (omega arith)) ∙ ap (λ (j : ℕ). bit j (s.high / 2 ^ (p - 64))) same

  -- From 128 on none is held.
  pub first_past : 128 ≤ p → FirstFrom s p p
  first_past h = record { from = omega arith; skipped = λ q k l. absurd (omega arith); held = λ l. absurd (omega arith) }

-- ---- A set without its first position

-- Nothing is left of a false side.
and-false : (x y : Bool) → y ≡ false → (x && y) ≡ false
and-false true y e = e
and-false false y e = refl

-- A test twice is that test.
and_same : (x : Bool) → (x && x) ≡ x
and_same true = refl
and_same false = refl

-- Bit 0 says whether n is odd or even.
odd : (n : ℕ) → bit 0 n ≡ true → n % 2 ≡ 1
odd n e = eqb-true (n % 2) 1 (sym (bit_first n) ∙ e)

even : (n : ℕ) → bit 0 n ≡ false → n % 2 ≡ 0
even n e = let u = eqb-false (n % 2) 1 (sym (bit_first n) ∙ e) in omega (arith, u, mod-lt n (zero-lt-suc 1))

-- One less than a number has no 1 at the number's lowest 1, and the same bits above it: what both have is the number without that 1.
less_lowest : (t n j : ℕ) → ((i : ℕ) → i < t → bit i n ≡ false) → bit t n ≡ true → (bit j n && bit j (n - 1)) ≡ (not (eqb j t) && bit j n)
less_lowest zero n zero low there =
    let o = odd n there in
    and-false (bit 0 n) (bit 0 (n - 1)) (bit_first (n - 1) ∙ ne_eqb ((n - 1) % 2) 1 (λ e. omega arith))
less_lowest zero n (suc j) low there =
    let o = odd n there in
    let half : (n - 1) / 2 ≡ n / 2 = omega arith in
    ap₂ ◌&&◌ (bit_suc j n) (bit_suc j (n - 1) ∙ ap (bit j) half) ∙ and_same (bit j (n / 2)) ∙ sym (bit_suc j n)
    ∙ rw (eqb-suc-zero j)
less_lowest (suc t) n zero low there =
    let none = low 0 (zero-lt-suc t) in
    rw none (sym (and-false (not (eqb 0 (suc t))) false refl))
less_lowest (suc t) n (suc j) low there =
    let o = even n (low 0 (zero-lt-suc t)) in
    let half : (n - 1) / 2 ≡ n / 2 - 1 = omega arith in
    ap₂ ◌&&◌ (bit_suc j n) (bit_suc j (n - 1) ∙ ap (bit j) half)
    ∙ less_lowest t (n / 2) j (λ i h. sym (bit_suc i n) ∙ low (suc i) (suc-le-suc h)) (sym (bit_suc t n) ∙ there)
    ∙ ap₂ (λ x y. not x && y) (sym (eqb-suc-suc j t)) (sym (bit_suc j n))

-- So the `and` of the two loses that bit and no other.
lowest_off :
    (t n j : ℕ)
    → ((i : ℕ) → i < t → bit i n ≡ false)
    → bit t n ≡ true
    → bit j (bit_and n (n - 1)) ≡ (not (eqb j t) && bit j n)
lowest_off t n j low there = bit_op bit_and ◌&&◌ and_shr and_mod and_digits n (n - 1) j ∙ less_lowest t n j low there

module _ (s : Set) (p : ℕ) (first : FirstFrom s 0 p) where
  -- The first position is at or before any that is held.
  first_least : (q : ℕ) → holds s q ≡ true → p ≤ q
  first_least q h = go (leb p q) refl
    where
      go : (x : Bool) → leb p q ≡ x → p ≤ q
      go true e = leb-true p q e
      go false e = absurd (true≢false (sym h ∙ first.skipped q (omega arith) (leb-false p q e)))

  -- it is in `low`, if a bit is there
  pub rest_low : s.low < 2 ^ 64 → s.low ≢ 0 → Removed s p (record { low = bit_and s.low (s.low - 1); high = s.high })
  rest_low fits some q =
      let (i, k, b) = some_bit 64 s.low fits some in
      let upto = first_least i (holds_low s i k ∙ b) in
      holds_by (record { low = bit_and s.low (s.low - 1); high = s.high }) q
      (λ h.
      lowest_off p s.low q
      (λ j l. sym (holds_low s j (omega arith)) ∙ first.skipped j (omega arith) l)
      (sym (holds_low s p (omega arith)) ∙ first.held (omega arith))
      ∙ ap (λ x. not (eqb q p) && x) (sym (holds_low s q h)))
      (λ h l. sym (holds_high s q h l) ∙ rw (ne_eqb q p (λ e. omega arith)))
      (λ h. and-false (not (eqb q p)) (holds s q) (holds_past s q h))

  -- otherwise in `high`, if a bit is there
  pub rest_high : s.low ≡ 0 → s.high < 2 ^ 64 → s.high ≢ 0 → Removed s p (record { low = 0; high = bit_and s.high (s.high - 1) })
  rest_high none fits some q =
      let (i, k, b) = some_bit 64 s.high fits some in
      let back : 64 + i - 64 ≡ i = omega arith in
      let upto = first_least (64 + i) (holds_high s (64 + i) (omega arith) (omega arith) ∙ rw back b) in
      let here = first.held (omega arith) in
      let behind = beyond here (ltb p 64) refl in
      holds_by (record { low = 0; high = bit_and s.high (s.high - 1) }) q
      (λ h. bit_zero q ∙ sym (and-false (not (eqb q p)) (holds s q) (nothing q h)))
      (λ h l.
      lowest_off (p - 64) s.high (q - 64)
      (λ j m.
      let same : 64 + j - 64 ≡ j = omega arith in
      ap (λ (n : ℕ). bit n s.high) (sym same) ∙ sym (holds_high s (64 + j) (omega arith) (omega arith)) ∙ first.skipped (64 + j) (omega arith) (omega arith))
      (sym (holds_high s p behind (omega arith)) ∙ here)
      ∙ ap₂ (λ x y. not x && y) (same_test (q - 64) (p - 64) q p (λ e. omega arith) (λ e. omega arith)) (sym (holds_high s q h l)))
      (λ h. and-false (not (eqb q p)) (holds s q) (holds_past s q h))
    where
      nothing : (j : ℕ) → j < 64 → holds s j ≡ false
      nothing j h = holds_low s j h ∙ ap (bit j) none ∙ bit_zero j

      beyond : holds s p ≡ true → (x : Bool) → ltb p 64 ≡ x → 64 ≤ p
      beyond here true e = absurd (true≢false (sym here ∙ nothing p (ltb-true p 64 e)))
      beyond here false e = ltb-false p 64 e

-- Where no bit is in either, there is nothing to lose.
pub rest_none : (s : Set) (p : ℕ) → s.low ≡ 0 → s.high ≡ 0 → Removed s p s
rest_none s p low high q = nothing ∙ sym (and-false (not (eqb q p)) (holds s q) nothing)
  where
    nothing : holds s q ≡ false
    nothing = holds_by s q (λ h. ap (bit q) low ∙ bit_zero q) (λ h l. ap (bit (q - 64)) high ∙ bit_zero (q - 64)) (λ h. refl)
