-- Where a byte stands first in a text, and one byte more of a text for the loop that reads a number.
use mathlib.Core.Bool.{true, false}
use mathlib.Core.List.{List, [], ◌∷◌}
use mathlib.Core.Path.{◌≡◌, refl, ap}
use Prim.Native.Nat.{ℕ, zero, suc, ◌+◌, ◌≤◌, ◌<◌}
use native.Mathlib.Numerals.{add-one}
use native.Mathlib.Omega.{arith}
use borrow.Author.Tests.{eq-eqb, ne_eqb}
use lib.ListN.{length, drop, get_or, drop_of_length-le}
use lib.Seq.{drop-cons}
use Rattle.script.specs.Scripts.{bytes_before, is_digit, with_digit, number_from}

-- the byte stands at n, and none in front of it
pub before_first :
    (byte : ℕ) (text : List ℕ) (n : ℕ)
    → n < length text
    → ((k : ℕ) → k < n → ¬ (get_or text k 0 ≡ byte))
    → get_or text n 0 ≡ byte
    → bytes_before byte text ≡ n
unfolding bytes_before
before_first byte [] n inside others here = absurd (omega arith)
before_first byte (x ∷ text) zero inside others here = rw (eq-eqb x byte here) refl
before_first byte (x ∷ text) (suc n) inside others here =
    rw (ne_eqb x byte (others 0 (omega arith))) (ap suc (before_first byte text n (omega arith) (λ k l. others (suc k) (omega arith)) here))

-- or it stands nowhere
pub before_none : (byte : ℕ) (text : List ℕ) → ((k : ℕ) → k < length text → ¬ (get_or text k 0 ≡ byte)) → bytes_before byte text ≡ length text
unfolding bytes_before
before_none byte [] others = refl
before_none byte (x ∷ text) others =
    rw (ne_eqb x byte (others 0 (omega arith))) (ap suc (before_none byte text (λ k l. others (suc k) (omega arith))))

module _ (text : List ℕ) (i n : ℕ) where
  -- a digit
  pub number_more :
      i < length text
      → is_digit (get_or text i 0) ≡ true
      → number_from n (drop i text) ≡ number_from (with_digit n (get_or text i 0)) (drop (i + 1) text)
  unfolding number_from
  number_more l e = rw (add-one, drop-cons text i 0 l, e) refl

  -- another byte
  pub number_stops : i < length text → is_digit (get_or text i 0) ≡ false → number_from n (drop i text) ≡ n
  unfolding number_from
  number_stops l e = rw (drop-cons text i 0 l, e) refl

  -- the text's end
  pub number_end : length text ≤ i → number_from n (drop i text) ≡ n
  unfolding number_from
  number_end l = rw (drop_of_length-le text l) refl
