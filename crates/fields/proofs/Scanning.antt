-- The start of a text: names, numbers and values. Assumes nothing.
use mathlib.Core.Path.{◌≡◌, refl, sym, ap, ◌∙◌}
use mathlib.Core.Bool.{Bool, true, false, ◌&&◌, cond}
use mathlib.Core.List.{[], ◌∷◌}
use Prim.Native.Nat.{ℕ, suc, ◌+◌, ◌-◌, ◌*◌, ◌≤◌, ◌<◌}
use native.Mathlib.Omega.{arith}
use lib.Dec.{eqb, leb, ltb}
use native.Mathlib.Numerals.{add-one}
use lib.ListN.{length, take, drop, get_or, drop_of_length-le}
use lib.Seq.{drop-cons, drop-drop}
use Rattle.std.proofs.Common.{nat_eq, Bor, inr}
use Rattle.std.specs.Cmp.Lexicographic.{pointwise}
use borrow.Author.Tests.{lt-ltb, le-ltb, le-leb, ltb-true, eq-eqb, ne_eqb}
use Rattle.std.specs.Prelude.{Option, Some, None, MatchOption}
use Rattle.std.specs.List.{prefix_len}
use Rattle.std.specs.Bool.{then_some}
use Rattle.semantics.specs.Text.{Text}
use Rattle.laws.specs.Basics.{cond_true, cond_false, and_of, not_both, false_of_not_true}
use Rattle.sections.specs.Afm.{semicolon, kpx_word, nought, begins_with, each, is_name_byte, is_name, is_digit, number_from, number_of, leading_zero, is_number, is_value}
use Rattle.sections.proofs.Splitting.{is_space, and_left, and_right, each_both, name_of, number_of_lem, is_number_lem, value_none, value_plain, value_minus, digit_range}
use Rattle.fields.specs.declared.Digits.{Digits}
use Rattle.fields.specs.declared.Form.TheVariants.{Kpx, Sheet}
use Rattle.fields.specs.Scan.{run, front, name_length, number_in, value_front, value_length, separator_length, lead_length, Finds, IsBehind, NoWord, HasWord, NoLead}
use Rattle.fields.specs.Runs.{run_within, front_length, front_each, length_if_true, length_if_false, number_in_is, number_in_none, number_in_some, byte_same, pairs_same, none_some, word_length_true}
use Rattle.fields.specs.Lines.{begins_one}

-- ---- A run of bytes

pub run_prefix : (test : ℕ → Bool) (t : Text) → prefix_len test t ≡ run test t
unfolding run
run_prefix test [] = refl
run_prefix test (b ∷ t) =
    let more : 1 + prefix_len test t ≡ suc (run test t) = omega (arith, run_prefix test t) in
    ap (λ (n : ℕ). cond (test b) n 0) more

-- ---- A name

is_name_lem : (t : Text) → 1 ≤ length t → length t ≤ 63 → each is_name_byte t ≡ true → is_name t ≡ true
unfolding is_name
is_name_lem t some short bytes =
    and_of (leb 1 (length t) && leb (length t) 63) (each is_name_byte t) (and_of (leb 1 (length t)) (leb (length t) 63) (le-leb 1 (length t) some) (le-leb (length t) 63 short)) bytes

module _ (t : Text) where
  pub name_short : 1 ≤ run is_name_byte t → run is_name_byte t ≤ 63 → run is_name_byte t ≡ name_length t
  unfolding name_length
  name_short some short =
      let is = is_name_lem (front is_name_byte t) (omega (arith, front_length is_name_byte t)) (omega (arith, front_length is_name_byte t)) (front_each is_name_byte t) in
      sym (length_if_true is_name (front is_name_byte t) is ∙ front_length is_name_byte t)

  pub name_none : (1 ≤ run is_name_byte t → run is_name_byte t ≤ 63 → ⊥) → name_length t ≡ 0
  unfolding name_length
  name_none h =
      length_if_false is_name (front is_name_byte t)
      (false_of_not_true _ (λ e. h (omega (arith, (name_of (front is_name_byte t) e).some, front_length is_name_byte t)) (omega (arith, (name_of (front is_name_byte t) e).short, front_length is_name_byte t))))

  -- the length of the run is found where it is that of a name, and nothing is where it is not
  pub name_found :
      (n : ℕ) (inside : Bool)
      → n ≡ run is_name_byte t
      → (inside ≡ true → (1 ≤ n) × (n ≤ 63))
      → (inside ≡ false → 1 ≤ n → n ≤ 63 → ⊥)
      → Finds (name_length t) t (then_some inside n)
  name_found n true is within beyond =
      let (some, short) = within refl in
      (is ∙ name_short (omega arith) (omega arith), omega arith, omega (arith, run_within is_name_byte t))
  name_found n false is within beyond = name_none (λ some short. beyond refl (omega arith) (omega arith))

-- ---- A number: the digits from i on are still to come

number_grows : (n : ℕ) (t : Text) → n ≤ number_from n t
unfolding number_from
number_grows n [] = omega arith
number_grows n (d ∷ t) = omega (arith, number_grows (10 * n + (d - nought)) t)

number_more : (n d : ℕ) (t : Text) → number_from n (d ∷ t) ≡ number_from (10 * n + (d - 48)) t
unfolding number_from
number_more n d t = refl

pub record Counts (limit : ℕ) (t : Text) (i number : ℕ) : Type 0 where
  pub goes_on : number_of t ≡ number_from number (drop i t)
  pub digits : each is_digit (drop i t) ≡ true
  pub small : number ≤ limit

pub counts_start : (limit : ℕ) (t : Text) → each is_digit t ≡ true → Counts limit t 0 0
unfolding number_of
counts_start limit t h = record { goes_on = refl; digits = h; small = omega arith }

module _ {limit : ℕ} {t : Text} {i number : ℕ} (inv : Counts limit t i number) where
  module _ (inside : i < length t) where
    next : (is_digit (get_or t i 0) ≡ true) × (each is_digit (drop (suc i) t) ≡ true)
    next = each_both is_digit (get_or t i 0) (drop (suc i) t) (ap (each is_digit) (sym (drop-cons t i 0 inside)) ∙ inv.digits)

    pub counts_digit : 48 ≤ get_or t i 0 × get_or t i 0 ≤ 57
    counts_digit = digit_range (get_or t i 0) next.0

    grows : number_of t ≡ number_from (10 * number + (get_or t i 0 - 48)) (drop (suc i) t)
    grows = inv.goes_on ∙ ap (number_from number) (drop-cons t i 0 inside) ∙ number_more number (get_or t i 0) (drop (suc i) t)

    pub counts_more : 10 * number + (get_or t i 0 - 48) ≤ limit → Counts limit t (i + 1) (10 * number + (get_or t i 0 - 48))
    counts_more small = rw add-one (record { goes_on = grows; digits = next.1; small = small })

    pub counts_over : limit < 10 * number + (get_or t i 0 - 48) → limit < number_of t
    counts_over large = omega (arith, grows, number_grows (10 * number + (get_or t i 0 - 48)) (drop (suc i) t))

  pub counts_all : length t ≤ i → number ≡ number_of t
  unfolding number_from
  counts_all h = sym (inv.goes_on ∙ ap (number_from number) (drop_of_length-le t h))

-- ---- Whether digits are a number up to a limit

pub zero_leads : (t : Text) → 1 < length t → get_or t 0 0 ≡ 48 → leading_zero t ≡ true
unfolding leading_zero
zero_leads [] h e = absurd (omega arith)
zero_leads (d ∷ t) h e = and_of (eqb d 48) (ltb 0 (length t)) (eq-eqb d 48 e) (lt-ltb 0 (length t) (omega arith))

pub no_zero_leads : (t : Text) → (1 < length t → ¬ (get_or t 0 0 ≡ 48)) → leading_zero t ≡ false
unfolding leading_zero
no_zero_leads [] h = refl
no_zero_leads (d ∷ t) h = go (ltb 0 (length t)) refl
  where
    go : (b : Bool) → ltb 0 (length t) ≡ b → eqb d 48 && ltb 0 (length t) ≡ false
    go true e = and_left (eqb d 48) (ltb 0 (length t)) (ne_eqb d 48 (h (omega (arith, ltb-true 0 (length t) e))))
    go false e = and_right (eqb d 48) (ltb 0 (length t)) e

module _ (limit : ℕ) (t : Text) where
  none_in : (is_number limit t ≡ true → ⊥) → None ≡ number_in limit t
  none_in h = sym (number_in_none limit t (false_of_not_true _ h))

  -- there are none,
  pub number_empty : length t < 1 → None ≡ number_in limit t
  number_empty h = none_in (λ is. absurd (omega (arith, (number_of_lem limit t is).some)))

  -- a nought stands in front of others,
  pub number_zero : 1 < length t → get_or t 0 0 ≡ 48 → None ≡ number_in limit t
  number_zero h e = none_in (λ is. not_both (zero_leads t h e) (number_of_lem limit t is).no_zero)

  -- they write more than the limit,
  pub number_large : limit < number_of t → None ≡ number_in limit t
  number_large h = none_in (λ is. absurd (omega (arith, (number_of_lem limit t is).within)))

  -- or they are a number
  pub number_is :
      (count number : ℕ)
      → each is_digit t ≡ true
      → count ≡ length t
      → 1 ≤ count
      → (1 < count → ¬ (get_or t 0 0 ≡ 48))
      → (number ≡ number_of t) × (number ≤ limit)
      → Some (record { count = count; number = number }) ≡ number_in limit t
  number_is count number digits count_is some plain (n, small) =
      let no_zero = no_zero_leads t (λ h. plain (omega arith)) in
      rw (count_is, n)
      (sym (number_in_is limit t (is_number_lem limit t (record { some = omega arith; digits = digits; no_zero = no_zero; within = omega arith }))))

  -- what is known of digits that are none, and of digits that are one
  pub in_none : None ≡ number_in limit t → is_number limit t ≡ false
  in_none e = go (is_number limit t) refl
    where
      go : (b : Bool) → is_number limit t ≡ b → b ≡ false
      go true is = absurd (none_some (e ∙ number_in_is limit t is))
      go false is = refl

-- ---- A value

pub begins_first : (b : ℕ) (t : Text) → 0 < length t → get_or t 0 0 ≡ b → begins_with b t ≡ true
unfolding begins_with
begins_first b [] h e = absurd (omega arith)
begins_first b (c ∷ t) h e = eq-eqb c b e

pub begins_other : (b : ℕ) (t : Text) → (0 < length t → ¬ (get_or t 0 0 ≡ b)) → begins_with b t ≡ false
unfolding begins_with
begins_other b [] h = refl
begins_other b (c ∷ t) h = ne_eqb c b (h (omega arith))

-- digits are a value as they are a number
digits_value : (d : Text) → each is_digit d ≡ true → is_value d ≡ is_number 32767 d
digits_value [] h =
    value_none ∙ sym (false_of_not_true _ (λ is. absurd (omega (arith, (number_of_lem 32767 [] is).some))))
digits_value (b ∷ d) h =
    let digit = digit_range b (each_both is_digit b d h).0 in
    value_plain b d (ne_eqb b 45 (λ e. absurd (omega (arith, digit.0))))

front_plain : (t : Text) → begins_with 45 t ≡ false → value_front t ≡ front is_digit t
unfolding value_front begins_with front run
front_plain [] e = refl
front_plain (b ∷ t) e = cond_false (eqb b 45) (b ∷ front is_digit t) (front is_digit (b ∷ t)) e

front_minus : (t : Text) → value_front (45 ∷ t) ≡ 45 ∷ front is_digit t
unfolding value_front
front_minus t = refl

module _ (t : Text) where
  module _ (plain : begins_with 45 t ≡ false) where
    abbrev digits : Text
    digits = front is_digit t

    is_same : is_value (value_front t) ≡ is_number 32767 digits
    is_same = ap is_value (front_plain t plain) ∙ digits_value digits (front_each is_digit t)

    pub plain_none : None ≡ number_in 32767 digits → value_length t ≡ 0
    unfolding value_length
    plain_none e = length_if_false is_value (value_front t) (is_same ∙ in_none 32767 digits e)

    pub plain_some : (found : Digits) → Some found ≡ number_in 32767 digits → (found.count ≡ value_length t) × (0 < found.count)
    unfolding value_length
    plain_some found e =
        let (is, count, number) = number_in_some 32767 digits found e in
        (count ∙ sym (length_if_true is_value (value_front t) (is_same ∙ is) ∙ ap length (front_plain t plain)), omega (arith, (number_of_lem 32767 digits is).some))

  module _ (negative : begins_with 45 t ≡ true) where
    abbrev behind : Text
    behind = front is_digit (drop 1 t)

    minus_front : value_front t ≡ 45 ∷ behind
    minus_front = ap value_front (begins_one 45 t negative).0 ∙ front_minus (drop 1 t)

    is_minus : is_value (value_front t) ≡ is_number 32768 behind && ltb 0 (number_of behind)
    is_minus = ap is_value minus_front ∙ value_minus behind

    pub minus_none : None ≡ number_in 32768 behind → value_length t ≡ 0
    unfolding value_length
    minus_none e = length_if_false is_value (value_front t) (is_minus ∙ and_left (is_number 32768 behind) (ltb 0 (number_of behind)) (in_none 32768 behind e))

    pub minus_nought : (found : Digits) → Some found ≡ number_in 32768 behind → found.number ≡ 0 → value_length t ≡ 0
    unfolding value_length
    minus_nought found e zero =
        let (is, count, number) = number_in_some 32768 behind found e in
        length_if_false is_value (value_front t) (is_minus ∙ and_right (is_number 32768 behind) (ltb 0 (number_of behind)) (le-ltb 0 (number_of behind) (omega arith)))

    pub minus_some : (found : Digits) → Some found ≡ number_in 32768 behind → ¬ (found.number ≡ 0) → 1 + found.count ≡ value_length t
    unfolding value_length
    minus_some found e some =
        let (is, count, number) = number_in_some 32768 behind found e in
        let true_value = and_of (is_number 32768 behind) (ltb 0 (number_of behind)) is (lt-ltb 0 (number_of behind) (omega arith)) in
        let all : 1 + found.count ≡ length (45 ∷ behind) = omega arith in
        all ∙ sym (length_if_true is_value (value_front t) (is_minus ∙ true_value) ∙ ap length minus_front)

-- ---- Answers of nothing

pub nothing : {X : Type 0} {r : Option X} {P : Type 0} (Q : X → Type 0) → r ≡ None → P → MatchOption r P Q
nothing {X} {r} {P} Q e p = rw e p

pub digits_front : (t : Text) (n : ℕ) → n ≡ run is_digit t → take n t ≡ front is_digit t
unfolding front
digits_front t n e = ap (λ (k : ℕ). take k t) e

-- ---- What is behind spaces, a separator, a word and a lead

pub marked : (t : Text) → pointwise nat_eq (take 1 t) (59 ∷ []) ≡ true → 1 ≡ separator_length Sheet t
unfolding separator_length
marked t e = sym (cond_true (begins_with semicolon t) 1 0 (sym (byte_same 59 t) ∙ e))

pub unmarked : (t : Text) → pointwise nat_eq (take 1 t) (59 ∷ []) ≡ false → separator_length Sheet t ≡ 0
unfolding separator_length
unmarked t e = cond_false (begins_with semicolon t) 1 0 (sym (byte_same 59 t) ∙ e)

pub separator_of_mark :
    (t : Text) (r : Option (Bor Text))
    → MatchOption r (pointwise nat_eq (take 1 t) (59 ∷ []) ≡ false) (λ x. (pointwise nat_eq (take 1 t) (59 ∷ []) ≡ true) × (x.now ≡ drop 1 t) × (length x.now + 1 ≡ length t))
    → MatchOption r (separator_length Sheet t ≡ 0) (λ rest. IsBehind (separator_length Sheet t) t rest.now)
separator_of_mark t None e = unmarked t e
separator_of_mark t (Some x) (e, rest, n) = let one = marked t e in (omega arith, rest ∙ ap (λ (k : ℕ). drop k t) one)

pub separator_of_spaces :
    (t : Text) (r : Option (Bor Text))
    → MatchOption r (run is_space t ≡ 0) (λ rest. IsBehind (run is_space t) t rest.now)
    → MatchOption r (separator_length Kpx t ≡ 0) (λ rest. IsBehind (separator_length Kpx t) t rest.now)
unfolding separator_length
separator_of_spaces t r h = h

pub word_behind :
    (word t : Text) (rest : Text) (r : Option (Bor Text))
    → pointwise nat_eq (take (length word) t) word ≡ true
    → rest ≡ drop (length word) t
    → MatchOption r (run is_space rest ≡ 0) (λ x. IsBehind (run is_space rest) rest x.now)
    → MatchOption r (NoWord word t) (λ x. HasWord word t x.now)
word_behind word t rest None e is h = inr (ap (run is_space) (sym is) ∙ h)
word_behind word t rest (Some x) e is h =
    let starts = sym (pairs_same (take (length word) t) word) ∙ e in
    let some : 0 < run is_space (drop (length word) t) = rw (sym is) h.0 in
    let whole : x.now ≡ drop (length word + run is_space (drop (length word) t)) t =
    h.1 ∙ ap (λ (u : Text). drop (run is_space u) u) is ∙ drop-drop (run is_space (drop (length word) t)) (length word) t in
    (starts, some, whole ∙ ap (λ (k : ℕ). drop k t) (sym (word_length_true word t starts some)))

pub lead_of_word :
    (t : Text) (r : Option (Bor Text))
    → MatchOption r (NoWord kpx_word t) (λ x. HasWord kpx_word t x.now)
    → MatchOption r (NoLead Kpx t) (λ rest. rest.now ≡ drop (lead_length Kpx t) t)
unfolding NoLead lead_length
lead_of_word t None h = h
lead_of_word t (Some x) h = h.2
