-- Texts put into a buffer one behind the other, and numbers in decimal.
use mathlib.Core.Path.{◌≡◌, refl, sym, ap, ◌∙◌, subst}
use mathlib.Core.Bool.{Bool, true, false, cond}
use mathlib.Core.List.{List, [], ◌∷◌, ◌++◌}
use Prim.Native.Nat.{ℕ, zero, suc, ◌+◌, ◌-◌, ◌/◌, ◌%◌, ◌≤◌, ◌<◌}
use native.Mathlib.Omega.{arith}
use native.Mathlib.Nat.{add-zero, zero-add, sub-zero}
use lib.Dec.{ltb}
use lib.ListN.{length, take, drop, set, length-append}
use lib.Seq.{sets, sets-eq, take-append_seam}
use borrow.Author.Tests.{lt-ltb, le-ltb, ltb-true, ltb-false}
use Rattle.semantics.specs.Text.{Text}
use Rattle.semantics.specs.Calls.{digits, decimal}
use Rattle.lines.specs.Line.{Puts}

-- ---- One text behind the other

sets_append : (s t l : List ℕ) (i : ℕ) → sets l i (s ++ t) ≡ sets (sets l i s) (i + length s) t
sets_append [] t l i = rw (add-zero i) refl
sets_append (x ∷ s) t l i =
    let same : suc i + length s ≡ i + suc (length s) = omega arith in
    sets_append s t (set l i x) (suc i) ∙ ap (λ (k : ℕ). sets (sets (set l i x) (suc i) s) k t) same

pub puts_then :
    {s t : Text} {at middle end : ℕ} {before between after : List ℕ}
    → Puts s at middle before between
    → Puts t middle end between after
    → Puts (s ++ t) at end before after
puts_then {s} {t} {at} {before} p q = record {
  after_is = rw (q.after_is, p.after_is, p.next_is) (sym (sets_append s t before at));
  next_is = omega (arith, p.next_is, q.next_is, length-append s t);
}

pub puts_as : {s t : Text} {at end : ℕ} {before after : List ℕ} → s ≡ t → Puts s at end before after → Puts t at end before after
puts_as {at} {end} {before} {after} e = subst (λ (x : Text). Puts x at end before after) e

-- what a buffer holds that has a text put at its start
pub puts_start :
    {t : Text} {end : ℕ} {before after : List ℕ}
    → Puts t 0 end before after
    → end ≤ length before
    → (after ≡ t ++ drop (length t) before) × (end ≡ length t)
puts_start {t} {before} p h = (
  rw (zero-add (length t)) at (p.after_is ∙ sets-eq t before 0 (omega (arith, p.next_is))),
  omega (arith, p.next_is),
)

-- and its beginning, lent as the prover says it, is the text
pub puts_front : {t : Text} {end : ℕ} {before after : List ℕ} → Puts t 0 end before after → end ≤ length before → take (end - 0) after ≡ t
puts_front {t} {end} {before} p h =
    let (after_is, end_is) = puts_start p h in
    rw (sub-zero end, end_is, after_is) (take-append_seam t (drop (length t) before))

-- ---- Numbers in decimal

-- no more digits than places
digits_few : (places n : ℕ) → length (digits places n) ≤ places
unfolding digits
digits_few zero n = omega arith
digits_few (suc places) n = go (ltb n 10) (digits_few places (n / 10))
  where
    go : (b : Bool) → length (digits places (n / 10)) ≤ places → length (cond b [] (digits places (n / 10)) ++ (48 + n % 10) ∷ []) ≤ suc places
    go true h = omega arith
    go false h = rw length-append (omega arith)

pub decimal_short : (n : ℕ) → length (decimal n) ≤ 20
unfolding decimal
decimal_short n = digits_few 20 n

one_digit : (places n : ℕ) → n < 10 → digits (suc places) n ≡ (48 + n % 10) ∷ []
unfolding digits
one_digit places n h = rw (lt-ltb n 10 h) refl

more_digits : (places n : ℕ) → 10 ≤ n → digits (suc places) n ≡ digits places (n / 10) ++ (48 + n % 10) ∷ []
unfolding digits
more_digits places n h = rw (le-ltb n 10 h) refl

-- two places are enough for a number below 100
enough : (p q n : ℕ) → n < 100 → digits (suc (suc p)) n ≡ digits (suc (suc q)) n
enough p q n h = go (ltb n 10) refl
  where
    go : (b : Bool) → ltb n 10 ≡ b → digits (suc (suc p)) n ≡ digits (suc (suc q)) n
    go true e = one_digit (suc p) n (ltb-true n 10 e) ∙ sym (one_digit (suc q) n (ltb-true n 10 e))
    go false e =
        let large = ltb-false n 10 e in
        let head : digits (suc p) (n / 10) ≡ digits (suc q) (n / 10) = one_digit p (n / 10) (omega arith) ∙ sym (one_digit q (n / 10) (omega arith)) in
        more_digits (suc p) n large ∙ ap (λ (t : Text). t ++ (48 + n % 10) ∷ []) head ∙ sym (more_digits (suc q) n large)

pub decimal_one : (n : ℕ) → n < 10 → decimal n ≡ (48 + n % 10) ∷ []
unfolding decimal
decimal_one n h = one_digit 19 n h

pub decimal_more : (n : ℕ) → 10 ≤ n → n < 1000 → decimal n ≡ decimal (n / 10) ++ (48 + n % 10) ∷ []
unfolding decimal
decimal_more n h k = more_digits 19 n h ∙ ap (λ (t : Text). t ++ (48 + n % 10) ∷ []) (enough 17 18 (n / 10) (omega arith))

pub decimal_two : (n : ℕ) → 10 ≤ n → n < 100 → decimal n ≡ (48 + n / 10 % 10) ∷ [] ++ (48 + n % 10) ∷ []
decimal_two n h k = decimal_more n h (omega arith) ∙ ap (λ (t : Text). t ++ (48 + n % 10) ∷ []) (decimal_one (n / 10) (omega arith))
