-- Whole numbers: the number that a text of digits writes, the text that writes a number, and that each has one form only.
use Rattle.std.specs.Prelude.{◌≡◌, refl, Bool, true, false, ◌&&◌, [], ◌∷◌, ◌++◌, ◌↔◌, ℕ, zero, suc, ◌+◌, ◌-◌, ◌*◌, ◌/◌, ◌%◌, ◌^◌, ◌≤◌, ◌<◌, eqb, ltb, length}
use Rattle.std.proofs.Common.{sym, ap, ◌∙◌, append-nil, append_assoc, arith, pow-suc, length-append, ltb-true, ltb-false, lt-ltb, le-ltb, eqb-true, ne_eqb}
use Rattle.std.proofs.lemmas.Bool.{eqb-false}
use Rattle.semantics.specs.Text.{Text}
use Rattle.semantics.specs.Calls.{digits, decimal}
use Rattle.laws.specs.Basics.{not_both, and_both, and_of}
use Rattle.sections.specs.Afm.{minus, nought, begins_with, each, is_digit, number_from, number_of, leading_zero, is_number, is_value}
use Rattle.sections.proofs.Splitting.{and_right, each_none, each_both, each_of, each_join, begins_at, digit_range, digit_of, number_of_lem, is_number_lem, value_minus, value_plain, value_none}

-- ---- The digits of a number

-- one digit for a number below ten, and one more than its tenth has for any other
one_digit : (places n : ℕ) → n < 10 → digits (suc places) n ≡ (48 + n % 10) ∷ []
unfolding digits
one_digit places n h = rw (lt-ltb n 10 h) refl

more_digits : (places n : ℕ) → 10 ≤ n → digits (suc places) n ≡ digits places (n / 10) ++ (48 + n % 10) ∷ []
unfolding digits
more_digits places n h = rw (le-ltb n 10 h) refl

-- a digit behind those of a number that is not nought
pub digits_behind : (places n d : ℕ) → 1 ≤ n → d < 10 → digits (suc places) (10 * n + d) ≡ digits places n ++ (48 + d) ∷ []
digits_behind places n d some small =
    let tenth : (10 * n + d) / 10 ≡ n = omega arith in
    let last : (10 * n + d) % 10 ≡ d = omega arith in
    more_digits places (10 * n + d) (omega arith)
    ∙ ap (λ (k : ℕ). digits places k ++ (48 + (10 * n + d) % 10) ∷ []) tenth
    ∙ ap (λ (k : ℕ). digits places n ++ (48 + k) ∷ []) last

-- a number is below ten, or not
by_ten : {X : Type 0} (n : ℕ) → (n < 10 → X) → (10 ≤ n → X) → X
by_ten {X} n small large = go (ltb n 10) refl
  where
    go : (b : Bool) → ltb n 10 ≡ b → X
    go true e = small (ltb-true n 10 e)
    go false e = large (ltb-false n 10 e)

tenth_below : (p n : ℕ) → n < 10 ^ suc p → n / 10 < 10 ^ p
tenth_below p n h = omega (arith, pow-suc 10 p)

-- How many places there are does not matter, as long as they are enough.
pub same_digits : (p q n : ℕ) → n < 10 ^ suc p → n < 10 ^ suc q → digits (suc p) n ≡ digits (suc q) n
same_digits zero q n h k = one_digit zero n (omega arith) ∙ sym (one_digit q n (omega arith))
same_digits (suc p) zero n h k = one_digit (suc p) n (omega arith) ∙ sym (one_digit zero n (omega arith))
same_digits (suc p) (suc q) n h k =
    let tenth = same_digits p q (n / 10) (tenth_below (suc p) n h) (tenth_below (suc q) n k) in
    by_ten
    n
    (λ small. one_digit (suc p) n small ∙ sym (one_digit (suc q) n small))
    (λ large. more_digits (suc p) n large ∙ ap (λ (t : Text). t ++ (48 + n % 10) ∷ []) tenth ∙ sym (more_digits (suc q) n large))

-- ---- The number that digits write

number_from_none : (n : ℕ) → number_from n [] ≡ n
unfolding number_from
number_from_none n = refl

number_from_byte : (n b : ℕ) (t : Text) → number_from n (b ∷ t) ≡ number_from (10 * n + (b - nought)) t
unfolding number_from
number_from_byte n b t = refl

pub number_is : (t : Text) → number_of t ≡ number_from 0 t
unfolding number_of
number_is t = refl

-- the last digit counts once, and those in front of it ten times
pub number_behind : (n : ℕ) (t : Text) (d : ℕ) → number_from n (t ++ (48 + d) ∷ []) ≡ 10 * number_from n t + d
number_behind n [] d =
    let digit : 48 + d - nought ≡ d = omega arith in
    number_from_byte n (48 + d) [] ∙ number_from_none (10 * n + (48 + d - nought)) ∙ ap (λ (k : ℕ). 10 * n + k) digit ∙ ap (λ (k : ℕ). 10 * k + d) (sym (number_from_none n))
number_behind n (b ∷ t) d =
    number_from_byte n b (t ++ (48 + d) ∷ [])
    ∙ number_behind (10 * n + (b - nought)) t d
    ∙ ap (λ (k : ℕ). 10 * k + d) (sym (number_from_byte n b t))

-- k digits make a number below 10 ^ k
number_below : (p n : ℕ) (t : Text) → n < 10 ^ p → each is_digit t ≡ true → number_from n t < 10 ^ (p + length t)
number_below p n [] h e =
    let same : p + 0 ≡ p = omega arith in
    rw (number_from_none n, same) h
number_below p n (b ∷ t) h e =
    let (first, later) = each_both is_digit b t e in
    let (low, high) = digit_range b first in
    let same : p + suc (length t) ≡ suc p + length t = omega arith in
    let next : 10 * n + (b - nought) < 10 ^ suc p = omega (arith, pow-suc 10 p) in
    rw (number_from_byte n b t, same) (number_below (suc p) (10 * n + (b - nought)) t next later)

no_digits : (n : ℕ) → digits zero n ≡ []
unfolding digits
no_digits n = refl

-- The digits that write a number, read again, give it.
number_of_digits : (p n : ℕ) → n < 10 ^ p → number_from 0 (digits p n) ≡ n
number_of_digits zero n h =
    let nothing : 0 ≡ n = omega arith in
    ap (number_from 0) (no_digits n) ∙ number_from_none 0 ∙ nothing
number_of_digits (suc p) n h =
    let rec = number_of_digits p (n / 10) (tenth_below p n h) in
    let parts : 10 * (n / 10) + n % 10 ≡ n = omega arith in
    by_ten
    n
    (λ small.
    ap (number_from 0) (one_digit p n small)
    ∙ number_behind 0 [] (n % 10)
    ∙ ap (λ (k : ℕ). 10 * k + n % 10) (number_from_none 0)
    ∙ (let last : 10 * 0 + n % 10 ≡ n = omega arith in last))
    (λ large.
    ap (number_from 0) (more_digits p n large)
    ∙ number_behind 0 (digits p (n / 10)) (n % 10)
    ∙ ap (λ (k : ℕ). 10 * k + n % 10) rec
    ∙ parts)

pub number_of_decimal : (n : ℕ) → n ≤ 65535 → number_of (decimal n) ≡ n
unfolding decimal
number_of_decimal n h = number_is (digits 20 n) ∙ number_of_digits 20 n (omega arith)

-- ---- The text that writes a number

all_digits : (p n : ℕ) → each is_digit (digits p n) ≡ true
all_digits zero n = ap (each is_digit) (no_digits n) ∙ each_none is_digit
all_digits (suc p) n =
    let last : each is_digit ((48 + n % 10) ∷ []) ≡ true =
    each_of is_digit (48 + n % 10) [] (digit_of (48 + n % 10) (omega arith) (omega arith)) (each_none is_digit) in
    by_ten
    n
    (λ small. ap (each is_digit) (one_digit p n small) ∙ last)
    (λ large. ap (each is_digit) (more_digits p n large) ∙ each_join is_digit (digits p (n / 10)) ((48 + n % 10) ∷ []) (all_digits p (n / 10)) last)

some_digit : (p n : ℕ) → 1 ≤ length (digits (suc p) n)
some_digit p n =
    by_ten
    n
    (λ small. omega (arith, ap length (one_digit p n small)))
    (λ large. omega (arith, ap length (more_digits p n large), length-append (digits p (n / 10)) ((48 + n % 10) ∷ [])))

-- the first digit of a number that is not nought is not a nought, whatever stands behind
first_digit : (p n : ℕ) (u : Text) → 1 ≤ n → n < 10 ^ p → begins_with nought (digits p n ++ u) ≡ false
first_digit zero n u some h = absurd (omega arith)
first_digit (suc p) n u some h =
    by_ten
    n
    (λ small.
    ap (λ (t : Text). begins_with nought (t ++ u)) (one_digit p n small)
    ∙ begins_at nought (48 + n % 10) u
    ∙ ne_eqb (48 + n % 10) nought (λ e. omega arith))
    (λ large.
    ap (λ (t : Text). begins_with nought (t ++ u)) (more_digits p n large)
    ∙ ap (begins_with nought) (append_assoc (digits p (n / 10)) ((48 + n % 10) ∷ []) u)
    ∙ first_digit p (n / 10) ((48 + n % 10) ∷ u) (omega arith) (tenth_below p n h))

-- what begins with no nought has no leading one, and neither has a single byte
other_first : (t : Text) → begins_with nought t ≡ false → leading_zero t ≡ false
unfolding leading_zero
other_first [] e = refl
other_first (b ∷ t) e = ap (λ (x : Bool). x && ltb 0 (length t)) (sym (begins_at nought b t) ∙ e)

single_byte : (b : ℕ) → leading_zero (b ∷ []) ≡ false
unfolding leading_zero
single_byte b = and_right (eqb b nought) (ltb 0 (length {A = ℕ} [])) (le-ltb 0 0 (omega arith))

no_leading : (p n : ℕ) → n < 10 ^ suc p → leading_zero (digits (suc p) n) ≡ false
no_leading p n h =
    by_ten
    n
    (λ small. ap leading_zero (one_digit p n small) ∙ single_byte (48 + n % 10))
    (λ large.
    ap leading_zero (more_digits p n large)
    ∙ other_first (digits p (n / 10) ++ (48 + n % 10) ∷ []) (first_digit p (n / 10) ((48 + n % 10) ∷ []) (omega arith) (tenth_below p n h)))

-- A number up to the limit, in decimal, has the form that is asked for.
pub decimal_is_number : (n limit : ℕ) → n ≤ limit → limit ≤ 65535 → is_number limit (decimal n) ≡ true
unfolding decimal
decimal_is_number n limit h small =
    is_number_lem
    limit
    (digits 20 n)
    (record {
      some = some_digit 19 n;
      digits = all_digits 20 n;
      no_zero = no_leading 19 n (omega arith);
      within = omega (arith, number_of_decimal n (omega arith));
    })

-- More digits behind those of a number that is not nought.
digits_from : (p n : ℕ) (t : Text) → 1 ≤ n → each is_digit t ≡ true → digits (p + length t) (number_from n t) ≡ digits p n ++ t
digits_from p n [] some e =
    let same : p + 0 ≡ p = omega arith in
    ap (λ (k : ℕ). digits k (number_from n [])) same ∙ ap (digits p) (number_from_none n) ∙ sym (append-nil (digits p n))
digits_from p n (b ∷ t) some e =
    let (first, later) = each_both is_digit b t e in
    let (low, high) = digit_range b first in
    let same : p + suc (length t) ≡ suc p + length t = omega arith in
    let byte : 48 + (b - nought) ≡ b = omega arith in
    let next = 10 * n + (b - nought) in
    ap (λ (k : ℕ). digits k (number_from n (b ∷ t))) same
    ∙ ap (digits (suc p + length t)) (number_from_byte n b t)
    ∙ digits_from (suc p) next t (omega arith) later
    ∙ ap (λ (s : Text). s ++ t) (digits_behind p n (b - nought) some (omega arith))
    ∙ ap (λ (c : ℕ). digits p n ++ c ∷ [] ++ t) byte
    ∙ append_assoc (digits p n) (b ∷ []) t

-- a digit writes its number,
one_byte : (b : ℕ) → is_digit b ≡ true → digits 1 (10 * 0 + (b - nought)) ≡ b ∷ []
one_byte b e =
    let (low, high) = digit_range b e in
    let byte : 48 + (10 * 0 + (b - nought)) % 10 ≡ b = omega arith in
    one_digit 0 (10 * 0 + (b - nought)) (omega arith) ∙ ap (λ (c : ℕ). c ∷ []) byte

-- and one that others follow is not a nought
and_not_left : (a b : Bool) → a && b ≡ false → b ≡ true → a ≡ false
and_not_left true b e p = absurd (not_both p e)
and_not_left false b e p = refl

leading_other : (b c : ℕ) (t : Text) → leading_zero (b ∷ c ∷ t) ≡ false → eqb b nought ≡ false
unfolding leading_zero
leading_other b c t e = and_not_left (eqb b nought) (ltb 0 (length (c ∷ t))) e (lt-ltb 0 (length (c ∷ t)) (omega arith))

leading_some : (b c : ℕ) (t : Text) → is_digit b ≡ true → leading_zero (b ∷ c ∷ t) ≡ false → 1 ≤ 10 * 0 + (b - nought)
leading_some b c t e no_zero =
    let (low, high) = digit_range b e in
    omega (arith, eqb-false b nought (leading_other b c t no_zero))

-- So a text of digits without a leading nought is what writes its number, at as many places as it has digits,
digits_of_text :
    (b : ℕ) (t : Text) → each is_digit (b ∷ t) ≡ true → leading_zero (b ∷ t) ≡ false → digits (suc (length t)) (number_from 0 (b ∷ t)) ≡ b ∷ t
digits_of_text b [] e no_zero =
    ap (digits 1) (number_from_byte 0 b [] ∙ number_from_none (10 * 0 + (b - nought))) ∙ one_byte b (each_both is_digit b [] e).0
digits_of_text b (c ∷ t) e no_zero =
    let (first, later) = each_both is_digit b (c ∷ t) e in
    let n = 10 * 0 + (b - nought) in
    let same : suc (length (c ∷ t)) ≡ 1 + length (c ∷ t) = omega arith in
    ap (digits (suc (length (c ∷ t)))) (number_from_byte 0 b (c ∷ t))
    ∙ ap (λ (k : ℕ). digits k (number_from n (c ∷ t))) same
    ∙ digits_from 1 n (c ∷ t) (leading_some b c t first no_zero) later
    ∙ ap (λ (s : Text). s ++ c ∷ t) (one_byte b first)

-- and at twenty.
pub decimal_of_number : (limit : ℕ) (t : Text) → limit ≤ 65535 → is_number limit t ≡ true → decimal (number_of t) ≡ t
unfolding decimal
decimal_of_number limit [] small e = absurd (omega (arith, (number_of_lem limit [] e).some))
decimal_of_number limit (b ∷ t) small e =
    let form = number_of_lem limit (b ∷ t) e in
    let (first, later) = each_both is_digit b t form.digits in
    let (low, high) = digit_range b first in
    let same : 1 + length t ≡ suc (length t) = omega arith in
    let below : number_from (10 * 0 + (b - nought)) t < 10 ^ (1 + length t) = number_below 1 (10 * 0 + (b - nought)) t (omega arith) later in
    let n = number_from 0 (b ∷ t) in
    let few : n < 10 ^ suc (length t) = rw (number_from_byte 0 b t, ← same) below in
    let within : n < 10 ^ 20 = omega (arith, form.within, number_is (b ∷ t)) in
    ap (digits 20) (number_is (b ∷ t)) ∙ same_digits 19 (length t) n within few ∙ digits_of_text b t form.digits form.no_zero

-- ---- Values

-- 'values whole numbers from -32768 to 32767', in decimal, with a minus in front of those below nought
pub data Value (t : Text) : Type 0 where
  plain : (n : ℕ) → n ≤ 32767 → t ≡ decimal n → Value t
  negative : (n : ℕ) → 1 ≤ n → n ≤ 32768 → t ≡ minus ∷ decimal n → Value t

-- a number is a value
number_value : (t : Text) → is_number 32767 t ≡ true → is_value t ≡ true
number_value [] e = absurd (omega (arith, (number_of_lem 32767 [] e).some))
number_value (b ∷ t) e =
    let (low, high) = digit_range b (each_both is_digit b t (number_of_lem 32767 (b ∷ t) e).digits).0 in
    value_plain b t (ne_eqb b minus (λ p. omega arith)) ∙ e

pub value_form : (t : Text) → is_value t ≡ true → Value t
value_form [] e = absurd (not_both e value_none)
value_form (b ∷ t) e = go (eqb b minus) refl
  where
    go : (test : Bool) → eqb b minus ≡ test → Value (b ∷ t)
    go true p =
        let is : b ≡ minus = eqb-true b minus p in
        let (number, some) = and_both (is_number 32768 t) (ltb 0 (number_of t)) (sym (value_minus t) ∙ ap (λ (c : ℕ). is_value (c ∷ t)) (sym is) ∙ e) in
        let same : decimal (number_of t) ≡ t = decimal_of_number 32768 t (omega arith) number in
        negative (number_of t) (ltb-true 0 (number_of t) some) (number_of_lem 32768 t number).within (cc)
    go false p =
        let number : is_number 32767 (b ∷ t) ≡ true = sym (value_plain b t p) ∙ e in
        plain (number_of (b ∷ t)) (number_of_lem 32767 (b ∷ t) number).within (sym (decimal_of_number 32767 (b ∷ t) (omega arith) number))

pub form_value : (t : Text) → Value t → is_value t ≡ true
form_value t (plain n small is) = ap is_value is ∙ number_value (decimal n) (decimal_is_number n 32767 small (omega arith))
form_value t (negative n some small is) =
    ap is_value is
    ∙ value_minus (decimal n)
    ∙ and_of
    (is_number 32768 (decimal n))
    (ltb 0 (number_of (decimal n)))
    (decimal_is_number n 32768 small (omega arith))
    (lt-ltb 0 (number_of (decimal n)) (omega (arith, number_of_decimal n (omega arith))))

-- The test of a value accepts these texts and no others.
pub value_forms : (t : Text) → (is_value t ≡ true) ↔ Value t
value_forms t = (value_form t, form_value t)
