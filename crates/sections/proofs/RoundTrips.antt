-- Import and export undo each other; how long the result is; that a count has always its form; and that no refusal is number 0.
use Rattle.std.specs.Prelude.{◌≡◌, refl, Bool, true, false, not, List, [], ◌∷◌, ◌++◌, map, ℕ, ◌+◌, ◌*◌, ◌≤◌, min, eqb, ltb, length}
use Rattle.std.proofs.Common.{sym, ap, ◌∙◌, arith, length-append, ltb-false, le-ltb, eqb-true, eq-eqb}
use Rattle.std.proofs.lemmas.Bool.{not-false}
use Rattle.semantics.specs.Text.{Text}
use Rattle.semantics.specs.Calls.{Answer, gives, refuses, refuse_if, decimal}
use Rattle.laws.specs.Refusals.{Named}
use Rattle.laws.specs.Basics.{never}
use Rattle.sections.specs.Afm.{newline, space, semicolon, squeezed, Pair, start_word, kpx_word, end_word, Read, good, bad, sheet_of, Section, section_of, write_sheet, write_section, max_text, output, imported, import_call, exported, export_call}
use Rattle.sections.proofs.Splitting.{squeezed_short}
use Rattle.sections.proofs.Writing.{pair_line, kpx_text, start_line, with_newlines, newlines_append, sheet_lines, section_lines, section_lines_lem, sheet_written, sheet_read, section_of_lem, section_written, section_read}

-- ---- Lengths

-- the separator does not change the length of a pair's line, and the word and its space are four bytes
pair_length : (m : ℕ) (p : Pair) → length (pair_line m p) ≡ length p.left + length p.right + length p.value + 2
unfolding pair_line
pair_length m p = omega (arith, length-append p.left (m ∷ (p.right ++ m ∷ p.value)), length-append p.right (m ∷ p.value))

kpx_length : (p : Pair) → length (kpx_text p) ≡ 4 + length (pair_line semicolon p)
unfolding kpx_text
kpx_length p = omega (arith, length-append kpx_word (space ∷ pair_line space p), pair_length space p, pair_length semicolon p)

-- each line has its newline
newlines_length : (line : Text) (lines : List Text) → length (with_newlines (line ∷ lines)) ≡ length line + 1 + length (with_newlines lines)
unfolding with_newlines
newlines_length line lines = omega (arith, length-append line (newline ∷ with_newlines lines))

newlines_none : length (with_newlines []) ≡ 0
unfolding with_newlines
newlines_none = refl

-- so with all the lines of the pairs
kpx_lengths : (ps : List Pair) → length (with_newlines (map kpx_text ps)) ≡ length (with_newlines (map (pair_line semicolon) ps)) + 4 * length ps
kpx_lengths [] = omega (arith, newlines_none)
kpx_lengths (p ∷ ps) =
    omega (
      arith,
      kpx_lengths ps,
      kpx_length p,
      newlines_length (kpx_text p) (map kpx_text ps),
      newlines_length (pair_line semicolon p) (map (pair_line semicolon) ps),
    )

-- the first and the last line, 29 bytes and the digits of the count
start_length : (n : ℕ) → length (start_line n) ≡ 15 + length (decimal n)
unfolding start_line
start_length n = omega (arith, length-append start_word (space ∷ decimal n))

section_lines_length : (ps : List Pair) → length (with_newlines (section_lines ps)) ≡ length (with_newlines (map kpx_text ps)) + 29 + length (decimal (length ps))
unfolding section_lines
section_lines_length ps =
    omega (
      arith,
      newlines_length (start_line (length ps)) (map kpx_text ps ++ end_word ∷ []),
      start_length (length ps),
      ap length (newlines_append (map kpx_text ps) (end_word ∷ [])),
      length-append (with_newlines (map kpx_text ps)) (with_newlines (end_word ∷ [])),
      newlines_length end_word [],
      newlines_none,
    )

-- A section is four bytes for each pair, 29 bytes and the digits of the count longer than the sheet of its pairs.
pub section_length : (ps : List Pair) → length (write_section ps) ≡ length (write_sheet ps) + 4 * length ps + 29 + length (decimal (length ps))
section_length ps =
    omega (arith, ap length (section_lines_lem ps), section_lines_length ps, kpx_lengths ps, ap length (sheet_lines ps))

-- A sheet has a byte at least for each pair, so one of at most 65,535 bytes has at most so many pairs.
line_each : (line : Pair → Text) (ps : List Pair) → length ps ≤ length (with_newlines (map line ps))
line_each line [] = omega arith
line_each line (p ∷ ps) = omega (arith, line_each line ps, newlines_length (line p) (map line ps))

pub few_pairs : (ps : List Pair) → length (write_sheet ps) ≤ 65535 → length ps ≤ 65535
few_pairs ps h = omega (arith, ap length (sheet_lines ps), line_each (pair_line semicolon) ps)

-- ---- The calls

-- what a call gives it did not refuse
not_refused : (test : Bool) (number : ℕ) (rest : Answer Text) (x : Text) → refuse_if test number rest ≡ gives x → (test ≡ false) × (rest ≡ gives x)
unfolding refuse_if
not_refused true number rest x e = never (cc)
not_refused false number rest x e = (refl, e)

refused_not : (test : Bool) (number : ℕ) (rest : Answer Text) → test ≡ false → refuse_if test number rest ≡ rest
unfolding refuse_if
refused_not test number rest e = ap (λ (b : Bool). refuse_if b number rest) e

-- what is given fits into the buffer, and is what was to be written
output_back : (lent : ℕ) (t x : Text) → output lent t ≡ gives x → (x ≡ t) × (length x ≤ lent) × (length x ≤ max_text)
unfolding output
output_back lent t x e =
    let (test, given) = not_refused (ltb (min lent max_text) (length t)) 16 (gives t) x e in
    let is : x ≡ t = cc in
    let fits : length t ≤ min lent max_text = ltb-false (min lent max_text) (length t) test in
    (is, omega (arith, ap length is), omega (arith, ap length is))

output_forth : (t : Text) → length t ≤ max_text → output max_text t ≡ gives t
unfolding output
output_forth t h = refused_not (ltb (min max_text max_text) (length t)) 16 (gives t) (le-ltb (min max_text max_text) (length t) h)

-- What export gives: the section of the pairs that the sheet was read as.
pub record Exported (s x : Text) (lent : ℕ) : Type 0 where
  pub pairs : List Pair
  pub short : length s ≤ max_text
  pub sheet_is : sheet_of s ≡ good pairs
  pub text_is : x ≡ write_section pairs
  pub fits : length x ≤ lent
  pub fits_text : length x ≤ max_text

pub export_back : (s x : Text) (lent : ℕ) → export_call s lent ≡ gives x → Exported s x lent
unfolding export_call exported
export_back s x lent e =
    let (test, given) = not_refused (ltb max_text (length s)) 12 (exported (sheet_of s) lent) x e in
    go (ltb-false max_text (length s) test) (sheet_of s) refl given
  where
    go : length s ≤ max_text → (read : Read (List Pair)) → sheet_of s ≡ read → exported read lent ≡ gives x → Exported s x lent
    go short (good pairs) is given =
        let (text_is, fits, fits_text) = output_back lent (write_section pairs) x given in
        record { pairs = pairs; short = short; sheet_is = is; text_is = text_is; fits = fits; fits_text = fits_text }
    go short (bad line) is given = never (cc)

export_forth : (s : Text) (pairs : List Pair) → length s ≤ max_text → sheet_of s ≡ good pairs → length (write_section pairs) ≤ max_text → export_call s max_text ≡ gives (write_section pairs)
unfolding export_call exported
export_forth s pairs short is fits =
    refused_not (ltb max_text (length s)) 12 (exported (sheet_of s) max_text) (le-ltb max_text (length s) short)
    ∙ ap (λ (read : Read (List Pair)). exported read max_text) is
    ∙ output_forth (write_section pairs) fits

-- What import gives: the sheet of the pairs that the section was read as, which are as many as its count says.
pub record Imported (x s : Text) (lent : ℕ) : Type 0 where
  pub section : Section
  pub short : length x ≤ max_text
  pub section_is : section_of x ≡ good section
  pub count_is : section.count ≡ length section.pairs
  pub text_is : s ≡ write_sheet section.pairs
  pub fits : length s ≤ lent
  pub fits_text : length s ≤ max_text

pub import_back : (x s : Text) (lent : ℕ) → import_call x lent ≡ gives s → Imported x s lent
unfolding import_call imported
import_back x s lent e =
    let (test, given) = not_refused (ltb max_text (length x)) 12 (imported (section_of x) lent) s e in
    go (ltb-false max_text (length x) test) (section_of x) refl given
  where
    go : length x ≤ max_text → (read : Read Section) → section_of x ≡ read → imported read lent ≡ gives s → Imported x s lent
    go short (good section) is given =
        let (test, written) = not_refused (not (eqb section.count (length section.pairs))) 19 (output lent (write_sheet section.pairs)) s given in
        let (text_is, fits, fits_text) = output_back lent (write_sheet section.pairs) s written in
        record {
          section = section;
          short = short;
          section_is = is;
          count_is = eqb-true section.count (length section.pairs) (not-false (eqb section.count (length section.pairs)) test);
          text_is = text_is;
          fits = fits;
          fits_text = fits_text;
        }
    go short (bad line) is given = never (cc)

import_forth :
    (x : Text) (section : Section)
    → length x ≤ max_text
    → section_of x ≡ good section
    → section.count ≡ length section.pairs
    → length (write_sheet section.pairs) ≤ max_text
    → import_call x max_text ≡ gives (write_sheet section.pairs)
unfolding import_call imported
import_forth x section short is count fits =
    refused_not (ltb max_text (length x)) 12 (imported (section_of x) max_text) (le-ltb max_text (length x) short)
    ∙ ap (λ (read : Read Section). imported read max_text) is
    ∙ refused_not
    (not (eqb section.count (length section.pairs)))
    19
    (output max_text (write_sheet section.pairs))
    (ap not (eq-eqb section.count (length section.pairs) count))
    ∙ output_forth (write_sheet section.pairs) fits

-- What was exported is imported as the same sheet.
pub export_import : (s x : Text) → export_call s 65535 ≡ gives x → import_call x 65535 ≡ gives s
export_import s x e =
    let f = export_back s x 65535 e in
    let sheet = sheet_written s f.pairs f.sheet_is in
    let short : length (write_sheet f.pairs) ≤ max_text = omega (arith, ap length sheet.text_is, f.short) in
    let read : section_of x ≡ good (record { count = length f.pairs; pairs = f.pairs }) =
    ap section_of f.text_is ∙ section_read f.pairs sheet.legal (few_pairs f.pairs short) in
    import_forth x (record { count = length f.pairs; pairs = f.pairs }) f.fits_text read refl short ∙ ap gives (sym sheet.text_is)

-- What was imported is exported as the same section, with each run of spaces made one.
pub import_export : (x s : Text) → import_call x 65535 ≡ gives s → export_call s 65535 ≡ gives (squeezed x)
import_export x s e =
    let f = import_back x s 65535 e in
    let pairs = f.section.pairs in
    let written : squeezed x ≡ write_section pairs = section_written x f.section f.section_is f.count_is in
    let read : sheet_of s ≡ good pairs = ap sheet_of f.text_is ∙ sheet_read pairs (section_of_lem x f.section f.section_is).legal in
    let fits : length (write_section pairs) ≤ max_text = omega (arith, ap length written, squeezed_short x, f.short) in
    export_forth s pairs f.fits_text read fits ∙ ap gives (sym written)

-- two readings of one text are the same
good_once : {A : Type 0} (r : Read A) (a b : A) → r ≡ good a → r ≡ good b → a ≡ b
good_once r a b p q = cc

-- Every pair of a section is kept in the sheet that import gives, in order.
pub kept_pairs : (x s : Text) (lent : ℕ) (section : Section) → import_call x lent ≡ gives s → section_of x ≡ good section → sheet_of s ≡ good section.pairs
kept_pairs x s lent section e is =
    let f = import_back x s lent e in
    let same : f.section ≡ section = good_once (section_of x) f.section section f.section_is is in
    ap sheet_of f.text_is
    ∙ sheet_read f.section.pairs (section_of_lem x f.section f.section_is).legal
    ∙ ap (λ (r : Section). good r.pairs) same

-- The section that export gives for that sheet is read as the first one was: the same count, and every pair in order.
pub kept_section :
    (x s : Text) (lent : ℕ) (section : Section) → import_call x lent ≡ gives s → section_of x ≡ good section → section_of (squeezed x) ≡ good section
kept_section x s lent section e is =
    let f = import_back x s lent e in
    let same : f.section ≡ section = good_once (section_of x) f.section section f.section_is is in
    let read = section_of_lem x f.section f.section_is in
    ap section_of (section_written x f.section f.section_is f.count_is)
    ∙ section_read f.section.pairs read.legal (omega (arith, f.count_is, read.small))
    ∙ ap (λ (n : ℕ). good (record { count = n; pairs = f.section.pairs })) (sym f.count_is)
    ∙ ap good same

-- The pairs of a sheet that export takes are never over 65,535, so their count has always its form,
pub exported_few : (s x : Text) (lent : ℕ) (ps : List Pair) → export_call s lent ≡ gives x → sheet_of s ≡ good ps → length ps ≤ 65535
exported_few s x lent ps e is =
    let f = export_back s x lent e in
    few_pairs ps (omega (arith, ap length (sheet_written s ps is).text_is, f.short))

-- and neither is the count of a section, whatever import makes of it, nor the number of pairs of one that import takes.
pub section_few : (x : Text) (section : Section) → section_of x ≡ good section → section.count ≤ 65535
section_few x section is = (section_of_lem x section is).small

pub imported_few :
    (x s : Text) (lent : ℕ) (section : Section) → import_call x lent ≡ gives s → section_of x ≡ good section → length section.pairs ≤ 65535
imported_few x s lent section e is =
    let f = import_back x s lent e in
    let same : f.section ≡ section = good_once (section_of x) f.section section f.section_is is in
    few_pairs section.pairs (omega (arith, f.fits_text, ap length f.text_is, ap (λ (r : Section). length (write_sheet r.pairs)) same))

-- ---- A refusal is never number 0

named_if : {A : Type 0} (test : Bool) (number : ℕ) (rest : Answer A) → 1 ≤ number → Named rest → Named (refuse_if test number rest)
unfolding refuse_if
named_if true number rest least later = record { named = λ n node e. let same : number ≡ n = cc in omega arith }
named_if false number rest least later = later

gives_named : {A : Type 0} (x : A) → Named (gives x)
gives_named x = record { named = λ n node e. never (cc) }

refuses_named : {A : Type 0} (number node : ℕ) → 1 ≤ number → Named {A = A} (refuses number node)
refuses_named number node least = record { named = λ n m e. let same : number ≡ n = cc in omega arith }

output_named : (lent : ℕ) (t : Text) → Named (output lent t)
unfolding output
output_named lent t = named_if (ltb (min lent max_text) (length t)) 16 (gives t) (omega arith) (gives_named t)

pub import_named : (x : Text) (lent : ℕ) → Named (import_call x lent)
unfolding import_call imported
import_named x lent = named_if (ltb max_text (length x)) 12 (imported (section_of x) lent) (omega arith) (go (section_of x))
  where
    go : (read : Read Section) → Named (imported read lent)
    go (good section) =
        named_if
        (not (eqb section.count (length section.pairs)))
        19
        (output lent (write_sheet section.pairs))
        (omega arith)
        (output_named lent (write_sheet section.pairs))
    go (bad line) = refuses_named 18 line (omega arith)

pub export_named : (s : Text) (lent : ℕ) → Named (export_call s lent)
unfolding export_call exported
export_named s lent = named_if (ltb max_text (length s)) 12 (exported (sheet_of s) lent) (omega arith) (go (sheet_of s))
  where
    go : (read : Read (List Pair)) → Named (exported read lent)
    go (good pairs) = output_named lent (write_section pairs)
    go (bad line) = refuses_named 18 line (omega arith)
