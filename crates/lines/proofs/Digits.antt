-- A text put into a buffer from a place on, and a number's digits.
use mathlib.Core.Path.{◌≡◌, refl, sym, ap, ◌∙◌}
use mathlib.Core.Bool.{Bool, true, false}
use mathlib.Core.List.{[], ◌∷◌, ◌++◌, append-nil, append_assoc}
use Prim.Native.Nat.{ℕ, zero, suc, ◌+◌, ◌-◌, ◌/◌, ◌%◌, ◌^◌, ◌≤◌, ◌<◌}
use native.Mathlib.Omega.{arith}
use native.Mathlib.Nat.{pow-suc, pow-le-pow_right}
use lib.ListN.{length, take, drop, length-append, length-drop, drop_of_length-le}
use lib.Seq.{sets-eq, take_all, drop-drop}
use lib.Dec.{leb}
use borrow.Author.Tests.{lt-ltb, le-ltb, leb-true, leb-false}
use Rattle.semantics.specs.Text.{Text}
use Rattle.semantics.specs.Calls.{digits, decimal}
use Rattle.io.specs.Digits.{IsDigitCount, hex_digit_ascii}
use Rattle.io.specs.Digits.{last_digits as shownDigits}
use Rattle.texts.specs.Overlay.{Wrote, Writes, overlay, overlay_fits}
use Rattle.lines.specs.Line.{Puts}

-- A text that fits is written into the buffer from a place on, which is lent and given back as the prover says it.
pub puts_lent :
    (text before rest : Text) (at : ℕ) {wrote : Wrote}
    → at + length text ≤ length before
    → Writes text (take (length before - at) (drop at before)) rest wrote
    → Puts text at (at + length text) before (take at before ++ (rest ++ drop (length before - at) (drop at before)))
puts_lent text before rest at h w =
    let reaches : length (drop at before) ≤ length before - at = rw length-drop (omega arith) in
    let fits : length text ≤ length (drop at before) = rw length-drop (omega arith) in
    let lent : take (length before - at) (drop at before) ≡ drop at before = take_all (length before - at) (drop at before) reaches in
    let behind : drop (length text) (drop at before) ≡ drop (at + length text) before = drop-drop (length text) at before in
    let rest_is : rest ≡ text ++ drop (at + length text) before =
    w.buffer_is ∙ ap (overlay text) lent ∙ overlay_fits text (drop at before) fits ∙ ap (λ (l : Text). text ++ l) behind in
    record {
      after_is = rw (drop_of_length-le (drop at before) reaches, append-nil, rest_is) (sym (sets-eq text before at h ∙ append_assoc (take at before) text (drop (at + length text) before)));
      next_is = refl;
    }

-- The fewest digits that hold a number are those of `decimal`.
digit_is : (n : ℕ) → shownDigits 10 1 n ≡ (48 + n % 10) ∷ []
digit_is n = rw (lt-ltb (n % 10) 10 (omega arith)) refl

ten_below : (k : ℕ) → 10 ≤ 10 ^ suc k
ten_below k = pow-le-pow_right {n = 10} (omega arith) {i = 1} {j = suc k} (omega arith)

same_digits :
    (k places n : ℕ)
    → k ≤ places
    → n < 10 ^ suc k
    → (0 < k → 10 ^ k ≤ n)
    → shownDigits 10 (suc k) n ≡ digits (suc places) n
unfolding digits
same_digits zero places n h below above = digit_is n ∙ rw (lt-ltb n 10 (omega arith)) refl
same_digits (suc k) zero n h below above = absurd (omega arith)
same_digits (suc k) (suc places) n h below above =
    let large : 10 ≤ n = omega (arith, ten_below k, above (omega arith)) in
    let less : n / 10 < 10 ^ suc k = omega (arith, pow-suc 10 (suc k)) in
    let head : shownDigits 10 (suc k) (n / 10) ≡ digits (suc places) (n / 10) =
    same_digits k places (n / 10) (omega arith) less (λ p. omega (arith, pow-suc 10 k, above (omega arith))) in
    rw (le-ltb n 10 large, lt-ltb (n % 10) 10 (omega arith)) (ap (λ (t : Text). t ++ (48 + n % 10) ∷ []) head)

-- 64 bits have at most 20 digits
pub few_digits : (k n : ℕ) → n < 2 ^ 64 → IsDigitCount 10 1 n k → k ≤ 20
few_digits k n small f = go (leb k 20) refl
  where
    go : (b : Bool) → leb k 20 ≡ b → k ≤ 20
    go true e = leb-true k 20 e
    go false e =
        let many : 20 < k = leb-false k 20 e in
        absurd (omega (arith, f.2 (omega arith), pow-le-pow_right {n = 10} (omega arith) {i = 20} {j = k - 1} (omega arith)))

decimal_is : (k n : ℕ) → k ≤ 20 → IsDigitCount 10 1 n k → shownDigits 10 k n ≡ decimal n
unfolding decimal
decimal_is zero n h f = absurd (omega (arith, f.0))
decimal_is (suc k) n h f =
    let same : suc k - 1 ≡ k = omega arith in
    same_digits k 19 n (omega arith) f.1 (λ p. rw same at (f.2 (omega arith)))

-- the digits as they are lent
pub decimal_lent :
    (shown : Text) (k n : ℕ) → k ≤ 20 → IsDigitCount 10 1 n k → take k shown ≡ shownDigits 10 k n → take k shown ≡ decimal n
decimal_lent shown k n h f e = e ∙ decimal_is k n h f

-- and how many they are
shown_length : (k n : ℕ) → length (shownDigits 10 k n) ≡ k
shown_length zero n = refl
shown_length (suc k) n = omega (arith, length-append (shownDigits 10 k (n / 10)) (hex_digit_ascii (n % 10) ∷ []), shown_length k (n / 10))

pub decimal_count : (k n : ℕ) → k ≤ 20 → IsDigitCount 10 1 n k → k ≡ length (decimal n)
decimal_count k n h f = sym (ap length (sym (decimal_is k n h f)) ∙ shown_length k n)
