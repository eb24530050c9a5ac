-- What the two calls answer, from what was measured. Assumes nothing.
use mathlib.Core.Path.{◌≡◌, refl, sym, ap, ◌∙◌}
use mathlib.Core.Bool.{Bool, true, false, not, cond}
use mathlib.Core.List.{List, [], ◌∷◌, ◌++◌, map, append_assoc}
use Prim.Native.Nat.{ℕ, ◌+◌, ◌*◌, ◌≤◌, ◌<◌, min}
use native.Mathlib.Omega.{arith}
use lib.ListN.{length, length-append}
use borrow.Author.Tests.{lt-ltb, le-ltb, eq-eqb, ne_eqb}
use Rattle.semantics.specs.Text.{Text, joined}
use Rattle.semantics.specs.Calls.{gives, buffer_after, decimal}
use Rattle.sections.specs.Afm.{newline, space, lines_of, nothing_left, good, bad, sheet_from, sheet_of, Section, section_end, section_from, section_of, kpx_line, write_sheet, write_section, start_word, end_word, max_text, output, imported, import_call, exported, export_call}
use Rattle.sections.proofs.RoundTrips.{section_length}
use Rattle.lines.specs.Line.{Puts}
use Rattle.lines.proofs.Texts.{puts_start}
use Rattle.std.specs.Prelude.{Option as Maybe, Some, None, Ok, Err}
use Rattle.table.specs.Prepared.{refusal}
use Rattle.answers.specs.Outcomes.{Answer, answer_for, GivesText}
use Rattle.answers.proofs.Giving.{refused, passed, given}
use Rattle.fields.specs.declared.Form.TheVariants.{Kpx, Sheet}
use Rattle.fields.specs.Shapes.{form_of}
use Rattle.fields.specs.Lines.{pairs_in}
use Rattle.afm.specs.declared.pair_lines.Measured.{Measured}
use Rattle.afm.specs.declared.section.Start.{Start}
use Rattle.afm.specs.Pairs.{Measures, line_for, lines_for}
use Rattle.afm.specs.Section.{section_behind, StartsAt, faulty, EndFault, section_text}
use Rattle.afm.proofs.Sections.{left_none, left_some, length_none}

-- ---- What both calls do at their ends

-- 16, or the text
pub output_over :
    {before : Text} {answer : Answer} (text : Text) (n : ℕ)
    → n ≡ length text
    → min (length before) max_text < n
    → answer ≡ Err (refusal 16 0)
    → GivesText (output (length before) text) before before answer
unfolding output
output_over {before} text n n_is over is = refused 16 (gives text) is (lt-ltb (min (length before) max_text) (length text) (rw (← n_is) over))

pub output_put :
    {text before after : Text} {end : ℕ} (n : ℕ)
    → n ≡ length text
    → n ≤ min (length before) max_text
    → Puts text 0 end before after
    → GivesText (output (length before) text) before after (Ok n)
unfolding output
output_put {text} {before} n n_is fits puts =
    let (after_is, end_is) = puts_start puts (omega (arith, puts.next_is, n_is, fits)) in
    passed 16 (le-ltb (min (length before) max_text) (length text) (rw (← n_is) fits)) (given n_is after_is)

-- ---- Export

sheet_found : (t : Text) → sheet_of t ≡ sheet_from (pairs_in Sheet t) (lines_of t).rest
unfolding sheet_of form_of
sheet_found t = refl

sheet_told :
    {t : Text} {m : Measured} (b : Bool)
    → Measures Sheet t m
    → nothing_left (lines_of m.rest.now).ended (lines_of m.rest.now).rest ≡ b
    → sheet_of t ≡ cond b (good (pairs_in Sheet t).pairs) (bad (1 + length (pairs_in Sheet t).pairs))
unfolding sheet_from
sheet_told {t} {m} b is e =
    sheet_found t
    ∙ ap
    (λ (c : Bool). cond c (good (pairs_in Sheet t).pairs) (bad (1 + length (pairs_in Sheet t).pairs)))
    (ap (λ (lines : List Text). nothing_left lines (lines_of t).rest) is.behind_is
    ∙ ap (nothing_left (lines_of m.rest.now).ended) is.rest_is
    ∙ e)

module _ {t : Text} {m : Measured} (is : Measures Sheet t m) where
  sheet_bad : 0 < length m.rest.now → sheet_of t ≡ bad (1 + m.count)
  sheet_bad h =
      sheet_told false is (left_some m.rest.now h) ∙ ap (λ (n : ℕ). bad (1 + n)) (sym is.count_is)

  sheet_good : length m.rest.now ≡ 0 → sheet_of t ≡ good (pairs_in Sheet t).pairs
  sheet_good h = sheet_told true is (ap (λ (u : Text). nothing_left (lines_of u).ended (lines_of u).rest) (length_none m.rest.now h) ∙ left_none)

  section_written : section_text m.count t ≡ write_section (pairs_in Sheet t).pairs
  unfolding section_text write_section lines_for line_for
  section_written =
      ap
      (λ (n : ℕ). (start_word ++ space ∷ decimal n ++ newline ∷ []) ++ joined (map kpx_line (pairs_in Sheet t).pairs) ++ end_word ++ newline ∷ [])
      is.count_is

  -- how long the section is
  pub section_long : (d : ℕ) → d ≡ length (decimal m.count) → m.bytes + 4 * m.count + 29 + d ≡ length (section_text m.count t)
  section_long d d-is =
      let digits : d ≡ length (decimal (length (pairs_in Sheet t).pairs)) = d-is ∙ ap (λ (n : ℕ). length (decimal n)) is.count_is in
      omega (arith, is.bytes_are, is.count_is, digits, section_length (pairs_in Sheet t).pairs, ap length section_written)

  module _ (short : length t ≤ max_text) where
    pub export_bad : {before : Text} {answer : Answer} → 0 < length m.rest.now → answer ≡ Err (refusal 18 (1 + m.count)) → GivesText (export_call t (length before)) before before answer
    unfolding export_call exported answer_for buffer_after
    export_bad h e = passed 12 (le-ltb max_text (length t) short) (rw (sheet_bad h) (record { answer_is = e; buffer_is = refl }))

    pub export_good :
        {before after : Text} {answer : Answer}
        → length m.rest.now ≡ 0
        → GivesText (output (length before) (section_text m.count t)) before after answer
        → GivesText (export_call t (length before)) before after answer
    unfolding export_call exported
    export_good h g = passed 12 (le-ltb max_text (length t) short) (rw (sheet_good h) (rw section_written at g))

pub export_long : (t : Text) {before : Text} {answer : Answer} → max_text < length t → answer ≡ Err (refusal 12 0) → GivesText (export_call t (length before)) before before answer
unfolding export_call
export_long t {before} h e = refused 12 (exported (sheet_of t) (length before)) e (lt-ltb max_text (length t) h)

-- ---- Import

module _ (count : ℕ) {t : Text} {m : Measured} {fault : Maybe ℕ} (is : Measures Kpx t m) (end : EndFault m.rest.now fault) where
  abbrev section : Section
  section = record { count = count; pairs = (pairs_in Kpx t).pairs }

  section_told : section_behind count t ≡ faulty fault (1 + m.count) section
  unfolding section_behind section_from form_of
  section_told =
      ap (λ (lines : List Text). section_end (1 + length (pairs_in Kpx t).pairs) section lines (lines_of t).rest) is.behind_is
      ∙ ap (section_end (1 + length (pairs_in Kpx t).pairs) section (lines_of m.rest.now).ended) is.rest_is
      ∙ end.end_is (1 + length (pairs_in Kpx t).pairs) section
      ∙ ap (λ (n : ℕ). faulty fault (1 + n) section) (sym is.count_is)

  faulty_line : (line n : ℕ) (s : Section) → faulty (Some line) n s ≡ bad (n + line)
  unfolding faulty
  faulty_line line n s = refl

  faulty_none : (n : ℕ) (s : Section) → faulty None n s ≡ good s
  unfolding faulty
  faulty_none n s = refl

  told_line : {line : ℕ} → fault ≡ Some line → section_behind count t ≡ bad (1 + m.count + line)
  told_line {line} h = section_told ∙ ap (λ (f : Maybe ℕ). faulty f (1 + m.count) section) h ∙ faulty_line line (1 + m.count) section

  told_good : fault ≡ None → section_behind count t ≡ good section
  told_good h = section_told ∙ ap (λ (f : Maybe ℕ). faulty f (1 + m.count) section) h ∙ faulty_none (1 + m.count) section

  pub import_bad : {line : ℕ} {before : Text} {answer : Answer} → fault ≡ Some line → answer ≡ Err (refusal 18 (1 + m.count + line)) → GivesText (imported (section_behind count t) (length before)) before before answer
  unfolding imported answer_for buffer_after
  import_bad h e = rw (told_line h) (record { answer_is = e; buffer_is = refl })

  pub import_count : {before : Text} {answer : Answer} → fault ≡ None → ¬ (count ≡ m.count) → answer ≡ Err (refusal 19 0) → GivesText (imported (section_behind count t) (length before)) before before answer
  unfolding imported
  import_count {before} h other e =
      rw (told_good h)
      (refused 19 (output (length before) (write_sheet section.pairs)) e (ap not (ne_eqb count (length section.pairs) (λ same. other (same ∙ sym is.count_is)))))

  pub import_good :
      {before after : Text} {answer : Answer}
      → fault ≡ None
      → count ≡ m.count
      → GivesText (output (length before) (lines_for Kpx t)) before after answer
      → GivesText (imported (section_behind count t) (length before)) before after answer
  unfolding imported lines_for line_for write_sheet
  import_good h same g =
      rw (told_good h)
      (passed 19 (ap not (eq-eqb count (length section.pairs) (same ∙ is.count_is))) g)

-- the lines of the sheet, as they were measured
pub sheet_long : {t : Text} {m : Measured} → Measures Kpx t m → m.bytes ≡ length (lines_for Kpx t)
unfolding lines_for line_for write_sheet
sheet_long is = is.bytes_are

pub import_long : (t : Text) {before : Text} {answer : Answer} → max_text < length t → answer ≡ Err (refusal 12 0) → GivesText (import_call t (length before)) before before answer
unfolding import_call
import_long t {before} h e = refused 12 (imported (section_of t) (length before)) e (lt-ltb max_text (length t) h)

module _ (t : Text) (short : length t ≤ max_text) where
  pub import_first : {before : Text} {answer : Answer} → section_of t ≡ bad 1 → answer ≡ Err (refusal 18 1) → GivesText (import_call t (length before)) before before answer
  unfolding import_call imported answer_for buffer_after
  import_first h e = passed 12 (le-ltb max_text (length t) short) (rw h (record { answer_is = e; buffer_is = refl }))

  pub import_behind :
      {start : Start} {before after : Text} {answer : Answer}
      → StartsAt t start
      → GivesText (imported (section_behind start.count start.lines.now) (length before)) before after answer
      → GivesText (import_call t (length before)) before after answer
  unfolding import_call
  import_behind starts g = passed 12 (le-ltb max_text (length t) short) (rw starts.read g)

-- ---- The section, part by part

pub section_parts :
    (count : ℕ) (t : Text)
    → ((((start_word ++ space ∷ []) ++ decimal count) ++ newline ∷ []) ++ lines_for Sheet t) ++ (end_word ++ newline ∷ []) ≡ section_text count t
unfolding section_text
section_parts count t = simp append_assoc refl

pub section_parts_length : (count : ℕ) (t : Text) → length (section_text count t) ≡ 29 + length (decimal count) + length (lines_for Sheet t)
section_parts_length count t = ap length (sym (section_parts count t)) ∙ simp length-append (omega arith)
