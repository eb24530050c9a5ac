-- The head of an entry, and what of the deck it leaves as it was. Assumes nothing.
use mathlib.Core.Path.{◌≡◌, ap, ◌∙◌}
use Prim.Native.Nat.{ℕ, ◌+◌, ◌-◌, ◌*◌, ◌/◌, ◌%◌, ◌≤◌, ◌<◌}
use native.Mathlib.Omega.{arith}
use lib.ListN.{length, take, drop, get_or, set, length-set}
use lib.Seq.{get_or-set_same, get_or-set_other, take-set-le, drop-set-lt, drop-drop}
use Rattle.semantics.specs.Text.{Text}
use Rattle.books.specs.Looking.{card_place}
use Rattle.decks.specs.Dealing.{HeadPut}

-- three bytes give the number that they are of
three_bytes : (n : ℕ) → n / 65536 * 65536 + n / 256 % 256 * 256 + n % 256 ≡ n
three_bytes n = omega arith

-- what is the same from a place on is the same from every later one on
same_behind : (n : ℕ) (t u : Text) → drop n t ≡ drop n u → (m : ℕ) → drop (n + m) t ≡ drop (n + m) u
same_behind n t u same m = rw (← (drop-drop m n t), ← (drop-drop m n u)) (ap (drop m) same)

module _ {before after : Text} {i print at : ℕ} (put : HeadPut before i print at after) where
  -- the deck after the first byte, the second and the third
  abbrev one : Text
  one = set before (8192 + i) print

  abbrev two : Text
  two = set one (8448 + 3 * i) (at / 65536)

  abbrev three : Text
  three = set two (8448 + 3 * i + 1) (at / 256 % 256)

  pub head_long : length after ≡ length before
  head_long = ap length put.after_is ∙ simp length-set

  -- what stands elsewhere
  head_other :
      (k : ℕ)
      → (k ≡ 8192 + i → ⊥)
      → (k ≡ 8448 + 3 * i → ⊥)
      → (k ≡ 8448 + 3 * i + 1 → ⊥)
      → (k ≡ 8448 + 3 * i + 2 → ⊥)
      → get_or after k 0 ≡ get_or before k 0
  head_other k n₀ n₁ n₂ n₃ =
      ap (λ (t : Text). get_or t k 0) put.after_is
      ∙ get_or-set_other three (8448 + 3 * i + 2) k (at % 256) 0 n₃
      ∙ get_or-set_other two (8448 + 3 * i + 1) k (at / 256 % 256) 0 n₂
      ∙ get_or-set_other one (8448 + 3 * i) k (at / 65536) 0 n₁
      ∙ get_or-set_other before (8192 + i) k print 0 n₀

  -- the source and its path are in front of the heads
  pub head_front : take 8192 after ≡ take 8192 before
  head_front =
      ap (take 8192) put.after_is
      ∙ take-set-le 8192 three (8448 + 3 * i + 2) (at % 256) (omega arith)
      ∙ take-set-le 8192 two (8448 + 3 * i + 1) (at / 256 % 256) (omega arith)
      ∙ take-set-le 8192 one (8448 + 3 * i) (at / 65536) (omega arith)
      ∙ take-set-le 8192 before (8192 + i) print (omega arith)

  module _ (few : i < 256) where
    -- the cards are behind the heads
    pub head_behind : (p : ℕ) → 9216 ≤ p → drop p after ≡ drop p before
    head_behind p h =
        let same : drop 9216 after ≡ drop 9216 before =
        ap (drop 9216) put.after_is
        ∙ drop-set-lt 9216 three (8448 + 3 * i + 2) (at % 256) (omega arith)
        ∙ drop-set-lt 9216 two (8448 + 3 * i + 1) (at / 256 % 256) (omega arith)
        ∙ drop-set-lt 9216 one (8448 + 3 * i) (at / 65536) (omega arith)
        ∙ drop-set-lt 9216 before (8192 + i) print (omega arith) in
        let p_is : p ≡ 9216 + (p - 9216) = omega arith in
        rw p_is (same_behind 9216 after before same (p - 9216))

    -- the heads of other entries
    module _ (j : ℕ) (other : j ≡ i → ⊥) (few' : j < 256) where
      pub head_prints : get_or after (8192 + j) 0 ≡ get_or before (8192 + j) 0
      head_prints = head_other (8192 + j) (λ e. other (omega arith)) (λ e. omega arith) (λ e. omega arith) (λ e. omega arith)

      pub head_places : card_place after j ≡ card_place before j
      head_places =
          let high = head_other (8448 + 3 * j) (λ e. omega arith) (λ e. other (omega arith)) (λ e. omega arith) (λ e. omega arith) in
          let mid = head_other (8448 + 3 * j + 1) (λ e. omega arith) (λ e. omega arith) (λ e. other (omega arith)) (λ e. omega arith) in
          let low = head_other (8448 + 3 * j + 2) (λ e. omega arith) (λ e. omega arith) (λ e. omega arith) (λ e. other (omega arith)) in
          rw (high, mid, low)

    -- and its own
    module _ (room : 9216 ≤ length before) where
      pub head_print : get_or after (8192 + i) 0 ≡ print
      head_print =
          ap (λ (t : Text). get_or t (8192 + i) 0) put.after_is
          ∙ get_or-set_other three (8448 + 3 * i + 2) (8192 + i) (at % 256) 0 (λ e. omega arith)
          ∙ get_or-set_other two (8448 + 3 * i + 1) (8192 + i) (at / 256 % 256) 0 (λ e. omega arith)
          ∙ get_or-set_other one (8448 + 3 * i) (8192 + i) (at / 65536) 0 (λ e. omega arith)
          ∙ get_or-set_same before (8192 + i) print 0 (omega arith)

      pub head_place : card_place after i ≡ at
      head_place =
          let high : get_or after (8448 + 3 * i) 0 ≡ at / 65536 =
          ap (λ (t : Text). get_or t (8448 + 3 * i) 0) put.after_is
          ∙ get_or-set_other three (8448 + 3 * i + 2) (8448 + 3 * i) (at % 256) 0 (λ e. omega arith)
          ∙ get_or-set_other two (8448 + 3 * i + 1) (8448 + 3 * i) (at / 256 % 256) 0 (λ e. omega arith)
          ∙ get_or-set_same one (8448 + 3 * i) (at / 65536) 0 (simp length-set (omega arith)) in
          let mid : get_or after (8448 + 3 * i + 1) 0 ≡ at / 256 % 256 =
          ap (λ (t : Text). get_or t (8448 + 3 * i + 1) 0) put.after_is
          ∙ get_or-set_other three (8448 + 3 * i + 2) (8448 + 3 * i + 1) (at % 256) 0 (λ e. omega arith)
          ∙ get_or-set_same two (8448 + 3 * i + 1) (at / 256 % 256) 0 (simp length-set (omega arith)) in
          let low : get_or after (8448 + 3 * i + 2) 0 ≡ at % 256 =
          ap (λ (t : Text). get_or t (8448 + 3 * i + 2) 0) put.after_is
          ∙ get_or-set_same three (8448 + 3 * i + 2) (at % 256) 0 (simp length-set (omega arith)) in
          rw (high, mid, low) (three_bytes at)
