-- Document 02 (v): 'Two houses deliver kerning as AFM (Adobe Technical Note 5004). Read a section, StartKernPairs with its count, KPX lines, EndKernPairs and
-- no more, and write sheet lines `left;right;value` with a newline, and the other way.'
use Rattle.std.specs.Prelude.{Bool, true, false, not, ◌&&◌, cond, List, [], ◌∷◌, ◌++◌, map, ℕ, ◌+◌, ◌-◌, ◌*◌, min, eqb, leb, ltb, length}
use Rattle.std.proofs.Math.Option.{Option, none, some}
use Rattle.semantics.specs.Text.{Text, same_text, joined}
use Rattle.semantics.specs.Calls.{Answer, gives, refuses, refuse_if, decimal}

-- ---- Lines and fields

abbrev pub newline : ℕ
newline = 10

abbrev pub space : ℕ
space = 32

abbrev pub semicolon : ℕ
semicolon = 59

-- The lines of a text, each without the newline that ends it, and what stands behind the last newline.
pub record Lines : Type 0 where
  pub ended : List Text
  pub rest : Text

-- a byte in front of all that
unfoldable pub with_byte : ℕ → List Text → Text → Lines
with_byte b [] rest = record { ended = []; rest = b ∷ rest }
with_byte b (line ∷ lines) rest = record { ended = (b ∷ line) ∷ lines; rest = rest }

unfoldable pub lines_of : Text → Lines
lines_of [] = record { ended = []; rest = [] }
lines_of (b ∷ t) =
    let behind = lines_of t in
    cond (eqb b newline) (record { ended = [] ∷ behind.ended; rest = behind.rest }) (with_byte b behind.ended behind.rest)

-- a byte in front of the first of some fields
unfoldable pub on_first : ℕ → List Text → List Text
on_first b [] = (b ∷ []) ∷ []
on_first b (field ∷ fields) = (b ∷ field) ∷ fields

-- What stands between the separators of a line: one field more than there are separators, also empty ones.
unfoldable pub split : ℕ → Text → List Text
split separator [] = [] ∷ []
split separator (b ∷ t) = let behind = split separator t in cond (eqb b separator) ([] ∷ behind) (on_first b behind)

unfoldable pub begins_with : ℕ → Text → Bool
begins_with b [] = false
begins_with b (c ∷ t) = eqb c b

-- each run of spaces made one
unfoldable pub squeezed : Text → Text
squeezed [] = []
squeezed (b ∷ t) = cond (eqb b space && begins_with space t) (squeezed t) (b ∷ squeezed t)

-- ---- Names and whole numbers

-- whether every byte passes the test
unfoldable pub each : (ℕ → Bool) → Text → Bool
each test [] = true
each test (b ∷ t) = test b && each test t

unfoldable pub is_name_byte : ℕ → Bool
is_name_byte b = leb 33 b && leb b 126 && not (eqb b semicolon)

-- 'Names are 1 to 63 bytes from 0x21 to 0x7E without `;`'
unfoldable pub is_name : Text → Bool
is_name t = leb 1 (length t) && leb (length t) 63 && each is_name_byte t

-- `-` and `0`
abbrev pub minus : ℕ
minus = 45

abbrev pub nought : ℕ
nought = 48

unfoldable pub is_digit : ℕ → Bool
is_digit b = leb nought b && leb b 57

-- the number that digits write, behind those that write n
unfoldable pub number_from : ℕ → Text → ℕ
number_from n [] = n
number_from n (d ∷ t) = number_from (10 * n + (d - nought)) t

unfoldable pub number_of : Text → ℕ
number_of t = number_from 0 t

-- a nought with more behind it
unfoldable pub leading_zero : Text → Bool
leading_zero [] = false
leading_zero (d ∷ t) = eqb d nought && ltb 0 (length t)

-- a whole number from 0 to the limit, 'without plus sign, leading zeros'
unfoldable pub is_number : ℕ → Text → Bool
is_number limit t = leb 1 (length t) && each is_digit t && not (leading_zero t) && leb (number_of t) limit

-- 'values whole numbers from -32768 to 32767, without plus sign, leading zeros or minus nought'
unfoldable pub is_value : Text → Bool
is_value [] = false
is_value (b ∷ t) = cond (eqb b minus) (is_number 32768 t && ltb 0 (number_of t)) (is_number 32767 (b ∷ t))

-- ---- Pairs, and the lines that hold one

-- Names and value as their bytes: a number has one form only.
pub record Pair : Type 0 where
  pub left : Text
  pub right : Text
  pub value : Text

-- three fields that are a pair
unfoldable pub pair_from : List Text → Option Pair
pair_from [] = none
pair_from (l ∷ []) = none
pair_from (l ∷ r ∷ []) = none
pair_from (l ∷ r ∷ v ∷ []) = cond (is_name l && is_name r && is_value v) (some (record { left = l; right = r; value = v })) none
pair_from (l ∷ r ∷ v ∷ more ∷ others) = none

-- 'sheet lines `left;right;value`'; 'no other spaces stand in a line', since no name or value has any
unfoldable pub pair_of : Text → Option Pair
pair_of line = pair_from (split semicolon line)

-- 'On input runs of spaces may separate fields; no other spaces stand in a line': one at an end of the line would make an empty field.
unfoldable pub fields_of : Text → List Text
fields_of line = split space (squeezed line)

-- `StartKernPairs`, `KPX` and `EndKernPairs`
abbrev pub start_word : Text
start_word = 83 ∷ 116 ∷ 97 ∷ 114 ∷ 116 ∷ 75 ∷ 101 ∷ 114 ∷ 110 ∷ 80 ∷ 97 ∷ 105 ∷ 114 ∷ 115 ∷ []

abbrev pub kpx_word : Text
kpx_word = 75 ∷ 80 ∷ 88 ∷ []

abbrev pub end_word : Text
end_word = 69 ∷ 110 ∷ 100 ∷ 75 ∷ 101 ∷ 114 ∷ 110 ∷ 80 ∷ 97 ∷ 105 ∷ 114 ∷ 115 ∷ []

unfoldable pub kpx_from : List Text → Option Pair
kpx_from [] = none
kpx_from (word ∷ fields) = cond (same_text word kpx_word) (pair_from fields) none

-- a KPX line: the word, and the three fields of a pair
unfoldable pub kpx_of : Text → Option Pair
kpx_of line = kpx_from (fields_of line)

abbrev pub max_count : ℕ
max_count = 65535

unfoldable pub count_from : List Text → Option ℕ
count_from [] = none
count_from (word ∷ []) = none
count_from (word ∷ count ∷ []) = cond (same_text word start_word && is_number max_count count) (some (number_of count)) none
count_from (word ∷ count ∷ more ∷ others) = none

-- the first line of a section: 'The count is written as a value is, from 0 to 65535.'
unfoldable pub count_of : Text → Option ℕ
count_of line = count_from (fields_of line)

-- ---- A sheet and a section

-- What was read, or the number of the first line that is not of its form, counted from 1: one more than there are such lines in front of it. 'A missing line, a
-- missing newline at the end or a line too many counts as a line not of its form.'
pub data Read (A : Type 0) : Type 0 where
  good : A → Read A
  bad : ℕ → Read A

-- The pairs of the lines that stand first and hold one, and the lines from there on.
pub record Pairs : Type 0 where
  pub pairs : List Pair
  pub behind : List Text

unfoldable pub on_pairs : Option Pair → Text → List Text → Pairs → Pairs
on_pairs none line lines found = record { pairs = []; behind = line ∷ lines }
on_pairs (some p) line lines found = record { pairs = p ∷ found.pairs; behind = found.behind }

unfoldable pub pairs_of : (Text → Option Pair) → List Text → Pairs
pairs_of form [] = record { pairs = []; behind = [] }
pairs_of form (line ∷ lines) = on_pairs (form line) line lines (pairs_of form lines)

-- whether nothing is left of a text: no line, and nothing behind the last newline
unfoldable pub nothing_left : List Text → Text → Bool
nothing_left [] [] = true
nothing_left [] (b ∷ t) = false
nothing_left (line ∷ lines) rest = false

-- A sheet is any number of lines with a pair, also none.
unfoldable pub sheet_from : Pairs → Text → Read (List Pair)
sheet_from found rest = cond (nothing_left found.behind rest) (good found.pairs) (bad (1 + length found.pairs))

unfoldable pub sheet_of : Text → Read (List Pair)
sheet_of t = sheet_from (pairs_of pair_of (lines_of t).ended) (lines_of t).rest

pub record Section : Type 0 where
  pub count : ℕ
  pub pairs : List Pair

-- 'EndKernPairs and no more', behind the pairs: n is the number of lines in front of it
unfoldable pub section_end : ℕ → Section → List Text → Text → Read Section
section_end n section [] rest = bad (1 + n)
section_end n section (line ∷ lines) rest =
    cond (same_text line end_word) (cond (nothing_left lines rest) (good section) (bad (2 + n))) (bad (1 + n))

unfoldable pub section_from : Option ℕ → Pairs → Text → Read Section
section_from none found rest = bad 1
section_from (some count) found rest =
    section_end (1 + length found.pairs) (record { count = count; pairs = found.pairs }) found.behind rest

unfoldable pub section_in : List Text → Text → Read Section
section_in [] rest = bad 1
section_in (line ∷ lines) rest = section_from (count_of line) (pairs_of kpx_of lines) rest

-- 'a section, StartKernPairs with its count, KPX lines, EndKernPairs and no more'
unfoldable pub section_of : Text → Read Section
section_of t = section_in (lines_of t).ended (lines_of t).rest

-- ---- What is written: 'On output one space separates fields and lines end in one newline.'

unfoldable pub pair_with : ℕ → Pair → Text
pair_with separator p = p.left ++ separator ∷ p.right ++ separator ∷ p.value ++ newline ∷ []

unfoldable pub sheet_line : Pair → Text
sheet_line p = pair_with semicolon p

unfoldable pub kpx_line : Pair → Text
kpx_line p = kpx_word ++ space ∷ pair_with space p

unfoldable pub write_sheet : List Pair → Text
write_sheet ps = joined (map sheet_line ps)

unfoldable pub write_section : List Pair → Text
write_section ps = (start_word ++ space ∷ decimal (length ps) ++ newline ∷ []) ++ joined (map kpx_line ps) ++ end_word ++ newline ∷ []

-- ---- The calls. `lent` is the length of the output buffer.

-- 'Texts go up to 65,535 bytes, with 12 and 16 beyond.'
abbrev pub max_text : ℕ
max_text = 65535

unfoldable pub output : ℕ → Text → Answer Text
output lent t = refuse_if (ltb (min lent max_text) (length t)) 16 (gives t)

-- 'It refuses with 18 at the first line not of its form (its number, from 1, as the node), and then with 19 when the count after StartKernPairs is not the number of
-- pairs; both come after 12 and before 16.'
unfoldable pub imported : Read Section → ℕ → Answer Text
imported (bad line) lent = refuses 18 line
imported (good section) lent = refuse_if (not (eqb section.count (length section.pairs))) 19 (output lent (write_sheet section.pairs))

unfoldable pub import_call : Text → ℕ → Answer Text
import_call t lent = refuse_if (ltb max_text (length t)) 12 (imported (section_of t) lent)

unfoldable pub exported : Read (List Pair) → ℕ → Answer Text
exported (bad line) lent = refuses 18 line
exported (good pairs) lent = output lent (write_section pairs)

unfoldable pub export_call : Text → ℕ → Answer Text
export_call t lent = refuse_if (ltb max_text (length t)) 12 (exported (sheet_of t) lent)
