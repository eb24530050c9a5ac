-- The first and the last line of a section. Assumes nothing.
use mathlib.Core.Path.{◌≡◌, refl, sym, ap, ◌∙◌}
use mathlib.Core.Bool.{Bool, true, false, cond}
use mathlib.Core.List.{List, [], ◌∷◌, ◌++◌, append_assoc, append-nil}
use mathlib.Core.Option.{Option, none, some}
use Prim.Native.Nat.{ℕ, ◌+◌, ◌≤◌, ◌<◌}
use native.Mathlib.Omega.{arith}
use lib.Dec.{eqb}
use lib.ListN.{length, take, drop, length-append, length-drop, take-append-drop}
use lib.Seq.{take-append_seam, drop-append_seam}
use borrow.Author.Tests.{eqb-true, eqb-false}
use Rattle.semantics.specs.Text.{Text, same_text}
use Rattle.semantics.specs.Calls.{decimal}
use Rattle.laws.specs.Basics.{not_both, cond_true, cond_false, false_of_not_true, same_text_eq, same_text_refl}
use Rattle.sections.specs.Afm.{newline, space, begins_with, squeezed, split, each, is_digit, number_of, is_number, fields_of, max_count, count_from, count_of, Lines, lines_of, with_byte, Pairs, pairs_of, kpx_of, nothing_left, good, bad, Section, section_end, section_from, section_in, section_of, start_word, end_word}
use Rattle.sections.proofs.Splitting.{is_not, each_join, number_of_lem, number_clean, number_some, number_begins, newline_no_name, space_no_name, lines_ended, lines_first}
use Rattle.sections.proofs.Numbers.{decimal_of_number}
use Rattle.sections.proofs.Writing.{start_clean, count_form, count_from_lem, count_word}
use Rattle.fields.specs.declared.Form.TheVariants.{Kpx}
use Rattle.fields.specs.declared.Digits.{Digits}
use Rattle.std.specs.Prelude.{Option as Maybe, Some, None, MatchOption}
use Rattle.std.specs.Cmp.Lexicographic.{pointwise}
use Rattle.fields.specs.Scan.{front, word_length, number_in, NoWord, HasWord}
use Rattle.fields.specs.Runs.{number_in_is, number_in_some, none_some, byte_same, front_length, run_within, word_length_false}
use Rattle.fields.specs.Shapes.{Separates, AfterWord, fields_in, fields_more, fields_last, more_fields, last_field}
use Rattle.fields.specs.Lines.{front_through, newline_no_digit, word_read, word_found, begins_one, separator_clean, behind_part}
use Rattle.afm.specs.declared.section.Start.{Start}
use Rattle.afm.specs.Section.{section_behind, StartsAt, faulty, EndFault}

-- ---- The last line

-- nothing is left of no text, and something of any other
pub left_none : nothing_left (lines_of []).ended (lines_of []).rest ≡ true
unfolding lines_of nothing_left
left_none = refl

left_with : (b : ℕ) (lines : List Text) (rest : Text) → nothing_left (with_byte b lines rest).ended (with_byte b lines rest).rest ≡ false
unfolding with_byte nothing_left
left_with b [] rest = refl
left_with b (line ∷ lines) rest = refl

pub left_some : (t : Text) → 0 < length t → nothing_left (lines_of t).ended (lines_of t).rest ≡ false
unfolding lines_of nothing_left
left_some [] h = absurd (omega arith)
left_some (b ∷ t) h = go (eqb b newline)
  where
    go :
        (e : Bool)
        → nothing_left
        (cond {A = Lines} e (record { ended = [] ∷ (lines_of t).ended; rest = (lines_of t).rest }) (with_byte b (lines_of t).ended (lines_of t).rest)).ended
        (cond {A = Lines} e (record { ended = [] ∷ (lines_of t).ended; rest = (lines_of t).rest }) (with_byte b (lines_of t).ended (lines_of t).rest)).rest
        ≡ false
    go true = refl
    go false = left_with b (lines_of t).ended (lines_of t).rest

abbrev last_line : Text
last_line = end_word ++ newline ∷ []

end_clean : each (is_not newline) end_word ≡ true
unfolding each is_not
end_clean = refl

pub length_none : (t : Text) → length t ≡ 0 → t ≡ []
length_none [] e = refl
length_none (b ∷ t) e = absurd (omega arith)

-- a text that starts with the last line
module _ (t : Text) (starts : same_text (take 13 t) last_line ≡ true) where
  end_text : t ≡ end_word ++ newline ∷ drop 13 t
  end_text = sym (take-append-drop 13 t) ∙ ap (λ (x : Text). x ++ drop 13 t) (same_text_eq (take 13 t) last_line starts)

  end_lines : lines_of t ≡ record { ended = end_word ∷ (lines_of (drop 13 t)).ended; rest = (lines_of (drop 13 t)).rest }
  end_lines = ap lines_of end_text ∙ lines_ended end_word (drop 13 t) end_clean

  end_told :
      (n : ℕ) (section : Section) (nothing : Bool)
      → nothing_left (lines_of (drop 13 t)).ended (lines_of (drop 13 t)).rest ≡ nothing
      → section_end n section (lines_of t).ended (lines_of t).rest ≡ cond nothing (good section) (bad (2 + n))
  unfolding section_end
  end_told n section nothing e =
      ap (λ (lines : Lines). section_end n section lines.ended lines.rest) end_lines
      ∙ cond_true
      (same_text end_word end_word)
      (cond (nothing_left (lines_of (drop 13 t)).ended (lines_of (drop 13 t)).rest) (good section) (bad (2 + n)))
      (bad (1 + n))
      (same_text_refl end_word)
      ∙ ap (λ (b : Bool). cond b (good section) (bad (2 + n))) e

  pub end_whole : length (drop 13 t) ≡ 0 → EndFault t None
  unfolding faulty
  end_whole h =
      let nothing = ap (λ (u : Text). nothing_left (lines_of u).ended (lines_of u).rest) (length_none (drop 13 t) h) ∙ left_none in
      record { end_is = λ n section. end_told n section true nothing; at_most = tt }

  pub end_more : 0 < length (drop 13 t) → EndFault t (Some 2)
  unfolding faulty
  end_more h =
      let some_left_lem = left_some (drop 13 t) h in
      record {
        end_is = λ n section. let two : 2 + n ≡ n + 2 = omega arith in end_told n section false some_left_lem ∙ ap bad two;
        at_most = omega arith;
      }

  -- what is behind it tells
  pub end_behind :
      (behind : Text) (fault : Maybe ℕ)
      → behind ≡ drop 13 t
      → (length behind ≡ 0 → fault ≡ None)
      → (0 < length behind → fault ≡ Some 2)
      → EndFault t fault
  end_behind [] fault is nothing more = rw (nothing refl) (end_whole (ap length (sym is)))
  end_behind (b ∷ behind) fault is nothing more = rw (more (omega arith)) (end_more (omega (arith, ap length is)))

-- a text that does not
module _ (t : Text) (other : same_text (take 13 t) last_line ≡ false) where
  end_other : (line : Text) (lines : List Text) → (lines_of t).ended ≡ line ∷ lines → same_text line end_word ≡ false
  end_other line lines e = false_of_not_true (same_text line end_word) (λ h. not_both (starts h) other)
    where
      starts : same_text line end_word ≡ true → same_text (take 13 t) last_line ≡ true
      starts h =
          let text_is : t ≡ last_line ++ (lines_first t line lines e).behind =
          (lines_first t line lines e).text_is ∙ ap (λ (x : Text). x ++ newline ∷ (lines_first t line lines e).behind) (same_text_eq line end_word h) in
          ap (λ (x : Text). same_text (take 13 x) last_line) text_is
          ∙ ap (λ (x : Text). same_text x last_line) (take-append_seam last_line (lines_first t line lines e).behind)
          ∙ same_text_refl last_line

  pub end_missing : EndFault t (Some 1)
  unfolding faulty section_end
  end_missing = record { end_is = λ n section. go n section (lines_of t).ended refl; at_most = omega arith }
    where
      go : (n : ℕ) (section : Section) (lines : List Text) → (lines_of t).ended ≡ lines → section_end n section lines (lines_of t).rest ≡ bad (n + 1)
      go n section [] e = let one : 1 + n ≡ n + 1 = omega arith in ap bad one
      go n section (line ∷ lines) e =
          let one : 1 + n ≡ n + 1 = omega arith in
          cond_false (same_text line end_word) (cond (nothing_left lines (lines_of t).rest) (good section) (bad (2 + n))) (bad (1 + n)) (end_other line lines e) ∙ ap bad one

-- ---- The first line

newline_begins : (t : Text) → begins_with newline (newline ∷ t) ≡ true
unfolding begins_with
newline_begins t = refl

from_none : (found : Pairs) (rest : Text) → section_from none found rest ≡ bad 1
unfolding section_from
from_none found rest = refl

-- the word, spaces and a count
record CountShape (line : Text) (n : ℕ) : Type 0 where
  spaces : Text
  line_is : line ≡ start_word ++ (spaces ++ decimal n)
  separates : Separates Kpx spaces
  small : n ≤ max_count

start_one_line : each (is_not newline) start_word ≡ true
unfolding each is_not
start_one_line = refl

shape_count : (line : Text) (n : ℕ) → CountShape line n → count_of line ≡ some n
unfolding count_of fields_of fields_in
shape_count line n shape =
    let number = count_form n shape.small in
    let plain = number_clean space space_no_name max_count (decimal n) number in
    let clear = ap (begins_with space) (sym (append-nil (decimal n))) ∙ number_begins max_count (decimal n) [] number in
    ap count_from
    (ap (fields_in Kpx) shape.line_is
    ∙ fields_more Kpx start_word shape.spaces (decimal n) start_clean shape.separates clear
    ∙ ap (λ (fs : List Text). start_word ∷ fs) (fields_last Kpx (decimal n) plain))
    ∙ count_from_lem n shape.small

count_shape : (line : Text) (n : ℕ) → count_of line ≡ some n → CountShape line n
unfolding count_of fields_of fields_in
count_shape line n e =
    let (fields_are, small) = count_word (split space (squeezed line)) n e in
    let m = more_fields Kpx line start_word (decimal n) [] fields_are in
    record {
      spaces = m.between;
      line_is = m.line_is ∙ ap (λ (x : Text). start_word ++ (m.between ++ x)) (last_field Kpx m.behind (decimal n) m.behind_is);
      separates = m.separates;
      small = small;
    }

shape_clean : (line : Text) (n : ℕ) → CountShape line n → each (is_not newline) line ≡ true
shape_clean line n shape =
    ap (each (is_not newline)) shape.line_is
    ∙ each_join (is_not newline) start_word (shape.spaces ++ decimal n) start_one_line
    (each_join (is_not newline) shape.spaces (decimal n) (separator_clean Kpx shape.spaces shape.separates) (number_clean newline newline_no_name max_count (decimal n) (count_form n shape.small)))

-- where no first line has a count, the first is at fault
faulted :
    (t : Text)
    → ((line : Text) (lines : List Text) (n : ℕ) → (lines_of t).ended ≡ line ∷ lines → CountShape line n → ⊥)
    → section_of t ≡ bad 1
unfolding section_of section_in
faulted t no_count = go (lines_of t).ended refl
  where
    one : (line : Text) (lines : List Text) (found-count : Option ℕ) → (lines_of t).ended ≡ line ∷ lines → count_of line ≡ found-count → section_from found-count (pairs_of kpx_of lines) (lines_of t).rest ≡ bad 1
    one l ls none e f = from_none (pairs_of kpx_of ls) (lines_of t).rest
    one l ls (some n) e f = absurd (no_count l ls n e (count_shape l n f))

    go : (lines : List Text) → (lines_of t).ended ≡ lines → section_in lines (lines_of t).rest ≡ bad 1
    go [] e = refl
    go (l ∷ ls) e = one l ls (count_of l) e refl

-- what stands behind the word of a first line that has a count
module _ (t line : Text) (lines : List Text) (n : ℕ) (e : (lines_of t).ended ≡ line ∷ lines) (shape : CountShape line n) where
  abbrev behind_line : Text
  behind_line = (lines_first t line lines e).behind

  abbrev written : Text
  written = decimal n

  written_form : is_number max_count written ≡ true
  written_form = count_form n shape.small

  whole : t ≡ start_word ++ (shape.spaces ++ (written ++ newline ∷ behind_line))
  whole =
      (lines_first t line lines e).text_is ∙ ap (λ (x : Text). x ++ newline ∷ behind_line) shape.line_is ∙ simp append_assoc refl

  clear : begins_with space (written ++ newline ∷ behind_line) ≡ false
  clear = number_begins max_count written (newline ∷ behind_line) written_form

  at_word : word_length start_word t ≡ length start_word + length shape.spaces
  at_word = ap (word_length start_word) whole ∙ word_read start_word shape.spaces (written ++ newline ∷ behind_line) shape.separates clear

  at_start : drop (length start_word) t ≡ shape.spaces ++ (written ++ newline ∷ behind_line)
  at_start = ap (drop (length start_word)) whole ∙ drop-append_seam start_word (shape.spaces ++ (written ++ newline ∷ behind_line))

  at_count : drop (word_length start_word t) t ≡ written ++ newline ∷ behind_line
  at_count = ap (λ (k : ℕ). drop k t) at_word ∙ behind_part t shape.spaces (written ++ newline ∷ behind_line) (length start_word) (length shape.spaces) at_start refl

  word_ends : word_length start_word t < length t
  word_ends = omega (arith, ap length at_count, length-append written (newline ∷ behind_line), length-drop (word_length start_word t) t)

  front_is : front is_digit (drop (word_length start_word t) t) ≡ written
  front_is =
      ap (front is_digit) at_count ∙ front_through is_digit written (newline ∷ behind_line) (number_of_lem max_count written written_form).digits (newline_no_digit behind_line)

  at_newline : drop (length written) (drop (word_length start_word t) t) ≡ newline ∷ behind_line
  at_newline = ap (drop (length written)) at_count ∙ drop-append_seam written (newline ∷ behind_line)

module _ (t : Text) where
  pub no_word : NoWord start_word t → section_of t ≡ bad 1
  no_word h = faulted t (λ line lines n e shape. absurd (omega (arith, word_ends t line lines n e shape, word_length_false start_word t h)))

  module _ {rest : Text} (has : HasWord start_word t rest) where
    digits_here : front is_digit rest ≡ front is_digit (drop (word_length start_word t) t)
    digits_here = ap (front is_digit) has.2

    pub no_number : None ≡ number_in 65535 (front is_digit rest) → section_of t ≡ bad 1
    no_number h =
        faulted t
        (λ line lines n e shape. none_some (h ∙ ap (number_in 65535) (digits_here ∙ front_is t line lines n e shape) ∙ number_in_is max_count (decimal n) (count_form n shape.small)))

    module _ {found : Digits} (found_is : Some found ≡ number_in 65535 (front is_digit rest)) where
      known : (is_number max_count (front is_digit rest) ≡ true) × (found.count ≡ length (front is_digit rest)) × (found.number ≡ number_of (front is_digit rest))
      known = number_in_some max_count (front is_digit rest) found found_is

      pub no_newline : pointwise eqb (take 1 (drop found.count rest)) (newline ∷ []) ≡ false → section_of t ≡ bad 1
      no_newline h =
          faulted t
          (λ line lines n e shape.
          let count_is : found.count ≡ length (decimal n) = known.1 ∙ ap length (digits_here ∙ front_is t line lines n e shape) in
          let at_end : drop found.count rest ≡ newline ∷ (lines_first t line lines e).behind =
          ap (λ (k : ℕ). drop k rest) count_is ∙ ap (drop (length (decimal n))) has.2 ∙ at_newline t line lines n e shape in
          not_both (ap (begins_with newline) at_end ∙ newline_begins (lines_first t line lines e).behind) (sym (byte_same newline (drop found.count rest)) ∙ h))

      -- a line that begins as it should is the first line
      module _ {lines : Text} (ends : pointwise eqb (take 1 (drop found.count rest)) (newline ∷ []) ≡ true) (lines_are : lines ≡ drop 1 (drop found.count rest)) where
        abbrev at : ℕ
        at = word_length start_word t

        abbrev digits : Text
        digits = front is_digit (drop at t)

        next : begins_with newline (drop found.count rest) ≡ true
        next = sym (byte_same newline (drop found.count rest)) ∙ ends

        number : is_number max_count digits ≡ true
        number = ap (is_number max_count) (sym digits_here) ∙ known.0

        count_is : found.count ≡ length digits
        count_is = known.1 ∙ ap length digits_here

        word : AfterWord start_word (take at t)
        word =
            word_found start_word t
            (omega (arith, number_some max_count digits number, front_length is_digit (drop at t), run_within is_digit (drop at t), length-drop at t))

        digits_taken : take found.count (drop at t) ≡ digits
        unfolding front
        digits_taken = ap (λ (n : ℕ). take n (drop at t)) (count_is ∙ front_length is_digit (drop at t))

        line : Text
        line = start_word ++ (word.spaces ++ digits)

        shape : CountShape line found.number
        unfolding line
        shape =
            let n_is : found.number ≡ number_of digits = known.2 ∙ ap number_of digits_here in
            let form : decimal found.number ≡ digits = ap decimal n_is ∙ decimal_of_number max_count digits (omega arith) number in
            record {
              spaces = word.spaces;
              line_is = ap (λ (x : Text). start_word ++ (word.spaces ++ x)) (sym form);
              separates = word.separates;
              small = omega (arith, n_is, (number_of_lem max_count digits number).within);
            }

        behind_digits : drop found.count (drop at t) ≡ newline ∷ lines
        behind_digits =
            ap (drop found.count) (sym has.2)
            ∙ (begins_one newline (drop found.count rest) next).0
            ∙ ap (λ (x : Text). newline ∷ x) (sym lines_are)

        text_is : t ≡ line ++ newline ∷ lines
        unfolding line
        text_is =
            sym (take-append-drop at t)
            ∙ ap (λ (x : Text). x ++ drop at t) word.lead_is
            ∙ ap (λ (x : Text). (start_word ++ word.spaces) ++ x)
            (sym (take-append-drop found.count (drop at t))
            ∙ ap (λ (x : Text). x ++ drop found.count (drop at t)) digits_taken
            ∙ ap (λ (x : Text). digits ++ x) behind_digits)
            ∙ simp append_assoc refl

        first_lines : lines_of t ≡ record { ended = line ∷ (lines_of lines).ended; rest = (lines_of lines).rest }
        first_lines = ap lines_of text_is ∙ lines_ended line lines (shape_clean line found.number shape)

        started : section_of t ≡ section_behind found.number lines
        unfolding section_of section_in section_behind
        started =
            ap (λ (all : Lines). section_in all.ended all.rest) first_lines
            ∙ ap
            (λ (count : Option ℕ). section_from count (pairs_of kpx_of (lines_of lines).ended) (lines_of lines).rest)
            (shape_count line found.number shape)

        lines_within : length lines ≤ length t
        lines_within = omega (arith, ap length lines_are, length-drop 1 (drop found.count rest), length-drop found.count rest, ap length has.2, length-drop at t)

        pub starts_at : (start : Start) → start.count ≡ found.number → start.lines.now ≡ lines → StartsAt t start
        starts_at start c l = record { read = started ∙ rw (c, l) refl; within = omega (arith, lines_within, ap length l) }

-- an answer of nothing
pub none_of : {X : Type 0} {r : Maybe X} {P : Type 0} (Q : X → Type 0) → r ≡ None → P → MatchOption r P Q
none_of {X} {r} {P} Q e p = rw e p

-- whether a text is empty, as it is asked
pub rest_some : (t : Text) (empty : Bool) → empty ≡ eqb (length t) 0 → empty ≡ false → 0 < length t
rest_some t empty e is = omega (arith, eqb-false (length t) 0 (sym e ∙ is))

pub rest_none : (t : Text) (empty : Bool) → empty ≡ eqb (length t) 0 → empty ≡ true → length t ≡ 0
rest_none t empty e is = eqb-true (length t) 0 (sym e ∙ is)
