-- Where the parts of a line with a pair stand, one behind the other, and what a missing part says. Assumes nothing.
use Rattle.std.specs.Prelude.{◌≡◌, true, false, ◌&&◌, [], ◌∷◌, ℕ, ◌+◌, ◌-◌, ◌<◌, ltb, length, take, drop}
use Rattle.std.proofs.Math.Path.{refl, sym, ap}
use Rattle.std.proofs.Common.{◌∙◌, arith, lt-ltb, nat_eq}
use Rattle.std.proofs.Math.Seq.{drop-drop}
use Rattle.std.specs.Cmp.Lexicographic.{pointwise}
use Rattle.semantics.specs.Text.{Text}
use Rattle.laws.specs.Basics.{and_of, not_both, false_of_not_true}
use Rattle.sections.specs.Afm.{newline, begins_with, kpx_word, Pair}
use Rattle.fields.specs.declared.Form.{Form}
use Rattle.fields.specs.declared.Form.TheVariants.{Kpx, Sheet}
use Rattle.fields.specs.declared.PairLine.{PairLine}
use Rattle.fields.specs.Scan.{name_length, value_length, separator_length, lead_length, Line, LineAt, is_pair, ends_at, IsBehind, NoLead}
use Rattle.fields.specs.Runs.{byte_same, word_length_false}
use Rattle.fields.specs.Lines.{Rises, pair_rises, places, places_at, NoPair, IsPairLine}

-- A part of a text, from place a to place b. s is the text from a on.
module _ (part : Text → ℕ) (t : Text) (a b : ℕ) (at_is : b ≡ a + part (drop a t)) where
  -- what is behind it,
  part_behind : {s rest : Text} {n : ℕ} → s ≡ drop a t → n ≡ part s → rest ≡ drop n s → rest ≡ drop b t
  part_behind {s} {rest} {n} is n_is rest_is =
      let whole : a + n ≡ b = omega (arith, n_is ∙ ap part is) in
      rest_is ∙ ap (drop n) is ∙ drop-drop n a t ∙ ap (λ (k : ℕ). drop k t) whole

  -- and the part,
  part_taken : {s w : Text} {n : ℕ} → s ≡ drop a t → n ≡ part s → w ≡ take n s → w ≡ take (b - a) (drop a t)
  part_taken {s} {w} {n} is n_is w_is =
      let whole : n ≡ b - a = omega (arith, n_is ∙ ap part is) in
      w_is ∙ ap (take n) is ∙ ap (λ (k : ℕ). take k (drop a t)) whole

  -- which takes some bytes, or none
  part_some : {s : Text} → s ≡ drop a t → 0 < part s → a < b
  part_some is some = omega (arith, ap part is)

  part_none : {s : Text} → s ≡ drop a t → part s ≡ 0 → b ≡ a
  part_none is none = omega (arith, ap part is)

rises_pair : (t : Text) (at : Line) → Rises t at → is_pair t at ≡ true
unfolding is_pair ends_at
rises_pair t at r =
    let lefts = and_of (ltb at.left at.between) (ltb at.between at.right) (lt-ltb at.left at.between r.left_rises) (lt-ltb at.between at.right r.between_rises) in
    let rights = and_of (ltb at.right at.behind) (ltb at.behind at.value) (lt-ltb at.right at.behind r.right_rises) (lt-ltb at.behind at.value r.behind_rises) in
    let values = and_of (ltb at.value at.end) (begins_with newline (drop at.end t)) (lt-ltb at.value at.end r.value_rises) r.ends in
    and_of ((ltb at.left at.between && ltb at.between at.right) && (ltb at.right at.behind && ltb at.behind at.value)) (ltb at.value at.end && begins_with newline (drop at.end t)) (and_of (ltb at.left at.between && ltb at.between at.right) (ltb at.right at.behind && ltb at.behind at.value) lefts rights) values

module _ (form : Form) (t : Text) where
  abbrev at : Line
  at = places form t

  along : LineAt form t at
  along = places_at form t

  none : (Rises t at → ⊥) → NoPair form t
  none h = false_of_not_true (is_pair t at) (λ e. h (pair_rises t at e))

  -- ---- What is missing

  lead_missing : (f : Form) → NoLead f t → lead_length f t ≡ length t
  unfolding NoLead lead_length
  lead_missing Kpx h = word_length_false kpx_word t h
  lead_missing Sheet h = absurd h

  pub no_lead : NoLead form t → NoPair form t
  no_lead h =
      none (λ r. absurd (omega (arith, along.left_is ∙ lead_missing form h, along.within, r.left_rises, r.between_rises, r.right_rises, r.behind_rises, r.value_rises)))

  module _ {s : Text} where
    pub no_left : s ≡ drop at.left t → name_length s ≡ 0 → NoPair form t
    no_left is e = none (λ r. absurd (omega (arith, part_none name_length t at.left at.between along.between_is is e, r.left_rises)))

    pub no_first : s ≡ drop at.between t → separator_length form s ≡ 0 → NoPair form t
    no_first is e = none (λ r. absurd (omega (arith, part_none (separator_length form) t at.between at.right along.right_is is e, r.between_rises)))

    pub no_right : s ≡ drop at.right t → name_length s ≡ 0 → NoPair form t
    no_right is e = none (λ r. absurd (omega (arith, part_none name_length t at.right at.behind along.behind_is is e, r.right_rises)))

    pub no_second : s ≡ drop at.behind t → separator_length form s ≡ 0 → NoPair form t
    no_second is e = none (λ r. absurd (omega (arith, part_none (separator_length form) t at.behind at.value along.value_is is e, r.behind_rises)))

    pub no_value : s ≡ drop at.value t → value_length s ≡ 0 → NoPair form t
    no_value is e = none (λ r. absurd (omega (arith, part_none value_length t at.value at.end along.end_is is e, r.value_rises)))

    pub no_end : s ≡ drop at.end t → pointwise nat_eq (take 1 s) (10 ∷ []) ≡ false → NoPair form t
    no_end is e = none (λ r. not_both r.ends (ap (begins_with 10) (sym is) ∙ sym (byte_same 10 s) ∙ e))

  -- ---- Where the parts stand

  pub at_left : {s : Text} → s ≡ drop (lead_length form t) t → s ≡ drop at.left t
  at_left is = is ∙ ap (λ (k : ℕ). drop k t) (sym along.left_is)

  module _ {s rest : Text} where
    pub at_between : {n : ℕ} → s ≡ drop at.left t → n ≡ name_length s → rest ≡ drop n s → rest ≡ drop at.between t
    at_between is n_is rest_is = part_behind name_length t at.left at.between along.between_is is n_is rest_is

    pub at_right : s ≡ drop at.between t → IsBehind (separator_length form s) s rest → rest ≡ drop at.right t
    at_right is behind = part_behind (separator_length form) t at.between at.right along.right_is is refl behind.1

    pub at_behind : {n : ℕ} → s ≡ drop at.right t → n ≡ name_length s → rest ≡ drop n s → rest ≡ drop at.behind t
    at_behind is n_is rest_is = part_behind name_length t at.right at.behind along.behind_is is n_is rest_is

    pub at_value : s ≡ drop at.behind t → IsBehind (separator_length form s) s rest → rest ≡ drop at.value t
    at_value is behind = part_behind (separator_length form) t at.behind at.value along.value_is is refl behind.1

    pub at_end : {n : ℕ} → s ≡ drop at.value t → n ≡ value_length s → rest ≡ drop n s → rest ≡ drop at.end t
    at_end is n_is rest_is = part_behind value_length t at.value at.end along.end_is is n_is rest_is

  -- ---- All of it is there

  pub all_there :
      {line : PairLine} {s0 s1 s2 s3 s4 s5 : Text} {l r v : ℕ}
      → s0 ≡ drop at.left t
      → s1 ≡ drop at.between t
      → s2 ≡ drop at.right t
      → s3 ≡ drop at.behind t
      → s4 ≡ drop at.value t
      → s5 ≡ drop at.end t
      → (l ≡ name_length s0) × (0 < l)
      → (r ≡ name_length s2) × (0 < r)
      → (v ≡ value_length s4) × (0 < v)
      → 0 < separator_length form s1
      → 0 < separator_length form s3
      → pointwise nat_eq (take 1 s5) (10 ∷ []) ≡ true
      → line.left.now ≡ take l s0
      → line.right.now ≡ take r s2
      → line.value.now ≡ take v s4
      → line.rest.now ≡ drop 1 s5
      → IsPairLine form t line
  all_there {line} {s0} {s1} {s2} {s3} {s4} {s5} e0 e1 e2 e3 e4 e5 (l, l_some) (r, r_some) (v, v_some) first second newline_is left_is right_is value_is rest_is =
      let rises : Rises t at =
      record {
        left_rises = part_some name_length t at.left at.between along.between_is e0 (omega arith);
        between_rises = part_some (separator_length form) t at.between at.right along.right_is e1 first;
        right_rises = part_some name_length t at.right at.behind along.behind_is e2 (omega arith);
        behind_rises = part_some (separator_length form) t at.behind at.value along.value_is e3 second;
        value_rises = part_some value_length t at.value at.end along.end_is e4 (omega arith);
        ends = ap (begins_with 10) (sym e5) ∙ sym (byte_same 10 s5) ∙ newline_is;
      } in
      record {
        is = rises_pair t at rises;
        pair_is = same_pair (part_taken name_length t at.left at.between along.between_is e0 l left_is) (part_taken name_length t at.right at.behind along.behind_is e2 r right_is) (part_taken value_length t at.value at.end along.end_is e4 v value_is);
        rest_is = rest_is ∙ ap (drop 1) e5 ∙ drop-drop 1 at.end t;
      }
    where
      same_pair : {l l' r r' v v' : Text} → l ≡ l' → r ≡ r' → v ≡ v' → ◌≡◌ {A = Pair} (record { left = l; right = r; value = v }) (record { left = l'; right = r'; value = v' })
      same_pair e f g = rw (e, f, g) refl
