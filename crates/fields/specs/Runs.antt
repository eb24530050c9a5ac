-- Runs of bytes at the start of a text.
use Rattle.std.specs.Prelude.{◌≡◌, Bool, ◌&&◌, ◌⊎◌, eqb, ltb, take, drop, get_or, Some, None}
use Rattle.std.proofs.Math.Path.{refl, ap}
use Rattle.std.proofs.Common.{sym, ◌∙◌, true≢false, inl, inr, add-one, length-take, length-drop, drop_of_length-le, drop-cons, lt-ltb, le-ltb, ltb-true, ltb-false}
use Rattle.std.proofs.Math.Bool.{true, false, cond}
use mathlib.Core.List.{[], ◌∷◌, ◌++◌}
use Prim.Native.Nat.{ℕ, suc, ◌+◌, ◌≤◌, ◌<◌}
use native.Mathlib.Omega.{arith}
use Rattle.std.proofs.Math.ListN.{length}
use Rattle.std.proofs.Math.Seq.{length-take-le}
use Rattle.semantics.specs.Text.{Text, same_text}
use Rattle.laws.specs.Basics.{and_both, and_of, cond_true, cond_false, same_text_eq}
use Rattle.sections.specs.Afm.{semicolon, minus, begins_with, each, is_name_byte, is_name, is_digit, number_of, is_number, is_value, kpx_word}
use Rattle.sections.proofs.Splitting.{is_space, and_left, and_right, begins_none}
use Rattle.std.specs.Cmp.Lexicographic.{pointwise}
use Rattle.fields.specs.declared.Digits.{Digits}
use Rattle.fields.specs.declared.Form.{Form}
use Rattle.fields.specs.declared.Form.TheVariants.{Kpx, Sheet}
use Rattle.fields.specs.Scan.{run, front, length_if, number_in, name_length, value_front, value_length, separator_length, word_length, lead_length}

module _ (test : ℕ → Bool) where
  run_cons : (b : ℕ) (t : Text) → run test (b ∷ t) ≡ cond (test b) (suc (run test t)) 0
  unfolding run
  run_cons b t = refl

  -- a byte that passes, and one that doesn't
  pub run_passes : (b : ℕ) (t : Text) → test b ≡ true → run test (b ∷ t) ≡ suc (run test t)
  run_passes b t e = run_cons b t ∙ cond_true (test b) (suc (run test t)) 0 e

  pub run_ends : (b : ℕ) (t : Text) → test b ≡ false → run test (b ∷ t) ≡ 0
  run_ends b t e = run_cons b t ∙ cond_false (test b) (suc (run test t)) 0 e

  pub run_within : (t : Text) → run test t ≤ length t
  unfolding run
  run_within [] = omega arith
  run_within (b ∷ t) = go (test b) (run_within t)
    where
      go : (passes : Bool) → run test t ≤ length t → cond passes (suc (run test t)) 0 ≤ suc (length t)
      go true h = omega arith
      go false h = omega arith

  pub front_length : (t : Text) → length (front test t) ≡ run test t
  unfolding front
  front_length t = length-take-le (run test t) t (run_within t)

  each_nil : each test [] ≡ true
  unfolding each
  each_nil = refl

  each_cons : (b : ℕ) (t : Text) → each test (b ∷ t) ≡ test b && each test t
  unfolding each
  each_cons b t = refl

  -- every byte of the run passes
  pub run_each : (t : Text) → each test (take (run test t) t) ≡ true
  unfolding run each
  run_each [] = refl
  run_each (b ∷ t) = go (test b) refl (run_each t)
    where
      go :
          (passes : Bool)
          → test b ≡ passes
          → each test (take (run test t) t) ≡ true
          → each test (take (cond passes (suc (run test t)) 0) (b ∷ t)) ≡ true
      go true e rest = each_cons b (take (run test t) t) ∙ and_of (test b) (each test (take (run test t) t)) e rest
      go false e rest = each_nil

  pub front_each : (t : Text) → each test (front test t) ≡ true
  unfolding front
  front_each t = run_each t

  -- a run that ends at a byte that does not pass
  pub run_stops : (s t : Text) (b : ℕ) → each test s ≡ true → test b ≡ false → run test (s ++ b ∷ t) ≡ length s
  run_stops [] t b h e = run_ends b t e
  run_stops (c ∷ s) t b h e =
      let both = and_both (test c) (each test s) (sym (each_cons c s) ∙ h) in
      run_passes c (s ++ b ∷ t) both.0 ∙ ap suc (run_stops s t b both.1 e)

  -- ---- from a place on

  module _ (t : Text) (i : ℕ) where
    pub run_more : i < length t → test (get_or t i 0) ≡ true → run test (drop i t) ≡ suc (run test (drop (i + 1) t))
    run_more h e = ap (run test) (drop-cons t i 0 h) ∙ rw add-one (run_passes (get_or t i 0) (drop (suc i) t) e)

    pub run_over : i < length t → test (get_or t i 0) ≡ false → run test (drop i t) ≡ 0
    run_over h e = ap (run test) (drop-cons t i 0 h) ∙ run_ends (get_or t i 0) (drop (suc i) t) e

    pub run_none : length t ≤ i → run test (drop i t) ≡ 0
    unfolding run
    run_none h = ap (run test) (drop_of_length-le t h)

-- ---- Names, numbers, values and separators: what there is, and that it lies in the text

pub length_if_true : (is : Text → Bool) (t : Text) → is t ≡ true → length_if is t ≡ length t
unfolding length_if
length_if_true is t e = cond_true (is t) (length t) 0 e

pub length_if_false : (is : Text → Bool) (t : Text) → is t ≡ false → length_if is t ≡ 0
unfolding length_if
length_if_false is t e = cond_false (is t) (length t) 0 e

length_if_within : (is : Text → Bool) (t : Text) → length_if is t ≤ length t
unfolding length_if
length_if_within is t = go (is t)
  where
    go : (b : Bool) → cond b (length t) 0 ≤ length t
    go true = omega arith
    go false = omega arith

pub name_within : (t : Text) → name_length t ≤ length t
unfolding name_length
name_within t =
    omega (arith, length_if_within is_name (front is_name_byte t), front_length is_name_byte t, run_within is_name_byte t)

value_front_within : (t : Text) → length (value_front t) ≤ length t
unfolding value_front
value_front_within [] = omega arith
value_front_within (b ∷ t) = go (eqb b minus) (front_length is_digit t) (run_within is_digit t) (front_length is_digit (b ∷ t)) (run_within is_digit (b ∷ t))
  where
    go :
        (negative : Bool)
        → length (front is_digit t) ≡ run is_digit t
        → run is_digit t ≤ length t
        → length (front is_digit (b ∷ t)) ≡ run is_digit (b ∷ t)
        → run is_digit (b ∷ t) ≤ suc (length t)
        → length (cond negative (b ∷ front is_digit t) (front is_digit (b ∷ t))) ≤ suc (length t)
    go true p q r s = omega arith
    go false p q r s = omega arith

pub value_within : (t : Text) → value_length t ≤ length t
unfolding value_length
value_within t = omega (arith, length_if_within is_value (value_front t), value_front_within t)

pub begins_some : (m : ℕ) (t : Text) → begins_with m t ≡ true → 1 ≤ length t
begins_some m [] e = absurd (true≢false (sym e ∙ begins_none m))
begins_some m (b ∷ t) e = omega arith

pub separator_within : (form : Form) (t : Text) → separator_length form t ≤ length t
unfolding separator_length
separator_within Kpx t = run_within is_space t
separator_within Sheet t = go (begins_with semicolon t) refl
  where
    go : (b : Bool) → begins_with semicolon t ≡ b → cond b 1 0 ≤ length t
    go true e = begins_some semicolon t e
    go false e = omega arith

-- a word that a text starts with
pub word_within : (word t : Text) → same_text (take (length word) t) word ≡ true → length word ≤ length t
word_within word t e = omega (arith, ap length (same_text_eq (take (length word) t) word e), length-take (length word) t)

pub word_length_true :
    (word t : Text)
    → same_text (take (length word) t) word ≡ true
    → 0 < run is_space (drop (length word) t)
    → word_length word t ≡ length word + run is_space (drop (length word) t)
unfolding word_length
word_length_true word t e h =
    cond_true
    (same_text (take (length word) t) word && ltb 0 (run is_space (drop (length word) t)))
    (length word + run is_space (drop (length word) t))
    (length t)
    (and_of (same_text (take (length word) t) word) (ltb 0 (run is_space (drop (length word) t))) e (lt-ltb 0 (run is_space (drop (length word) t)) h))

pub word_length_false :
    (word t : Text)
    → (same_text (take (length word) t) word ≡ false) ⊎ (run is_space (drop (length word) t) ≡ 0)
    → word_length word t ≡ length t
unfolding word_length
word_length_false word t e =
    cond_false
    (same_text (take (length word) t) word && ltb 0 (run is_space (drop (length word) t)))
    (length word + run is_space (drop (length word) t))
    (length t)
    (go e)
  where
    go :
        (same_text (take (length word) t) word ≡ false) ⊎ (run is_space (drop (length word) t) ≡ 0)
        → same_text (take (length word) t) word && ltb 0 (run is_space (drop (length word) t)) ≡ false
    go (inl h) = and_left (same_text (take (length word) t) word) (ltb 0 (run is_space (drop (length word) t))) h
    go (inr h) = and_right (same_text (take (length word) t) word) (ltb 0 (run is_space (drop (length word) t))) (le-ltb 0 (run is_space (drop (length word) t)) (omega arith))

pub word_length_within : (word t : Text) → word_length word t ≤ length t
word_length_within word t = go (same_text (take (length word) t) word) refl (ltb 0 (run is_space (drop (length word) t))) refl
  where
    go : (a : Bool) → same_text (take (length word) t) word ≡ a → (b : Bool) → ltb 0 (run is_space (drop (length word) t)) ≡ b → word_length word t ≤ length t
    go true e true h =
        omega
        (arith, word_length_true word t e (ltb-true 0 (run is_space (drop (length word) t)) h), word_within word t e, run_within is_space (drop (length word) t), length-drop (length word) t)
    go true e false h =
        let none = ltb-false 0 (run is_space (drop (length word) t)) h in
        omega (arith, word_length_false word t (inr (omega arith)))
    go false e b h = omega (arith, word_length_false word t (inl e))

pub lead_within : (form : Form) (t : Text) → lead_length form t ≤ length t
unfolding lead_length
lead_within Kpx t = word_length_within kpx_word t
lead_within Sheet t = omega arith

-- digits that are a number up to the limit
pub number_in_is : (limit : ℕ) (digits : Text) → is_number limit digits ≡ true → number_in limit digits ≡ Some (record { count = length digits; number = number_of digits })
unfolding number_in
number_in_is limit digits e = cond_true (is_number limit digits) (Some (record { count = length digits; number = number_of digits })) None e

pub number_in_none : (limit : ℕ) (digits : Text) → is_number limit digits ≡ false → number_in limit digits ≡ None
unfolding number_in
number_in_none limit digits e = cond_false (is_number limit digits) (Some (record { count = length digits; number = number_of digits })) None e

pub none_some : {X : Type 0} {x : X} → None ≡ Some x → ⊥
none_some e = cc

some_same : {X : Type 0} {x y : X} → Some x ≡ Some y → x ≡ y
some_same e = cc

-- what is known of digits that are one
pub number_in_some :
    (limit : ℕ) (t : Text) (found : Digits)
    → Some found ≡ number_in limit t
    → (is_number limit t ≡ true) × (found.count ≡ length t) × (found.number ≡ number_of t)
number_in_some limit t found e = go (is_number limit t) refl
  where
    go : (b : Bool) → is_number limit t ≡ b → (b ≡ true) × (found.count ≡ length t) × (found.number ≡ number_of t)
    go true is =
        let f = some_same (e ∙ number_in_is limit t is) in
        (refl, ap (λ (d : Digits). d.count) f, ap (λ (d : Digits). d.number) f)
    go false is = absurd (none_some (sym (e ∙ number_in_none limit t is)))

-- one byte that a text begins with, as `strip_prefix` asks for it
pub byte_same : (b : ℕ) (t : Text) → pointwise eqb (take 1 t) (b ∷ []) ≡ begins_with b t
unfolding begins_with
byte_same b [] = refl
byte_same b (c ∷ t) = and-true (eqb c b)
  where
    and-true : (x : Bool) → x && true ≡ x
    and-true true = refl
    and-true false = refl

-- two texts that are compared as lists of bytes
pub pairs_same : (a b : Text) → pointwise eqb a b ≡ same_text a b
unfolding same_text
pairs_same [] [] = refl
pairs_same [] (y ∷ b) = refl
pairs_same (x ∷ a) [] = refl
pairs_same (x ∷ a) (y ∷ b) = ap (λ rest. eqb x y && rest) (pairs_same a b)
