-- The definitions, tried on the cases of the papers by evaluation.
use mathlib.Core.Path.{◌≡◌, refl}
use mathlib.Core.Bool.{true, false}
use mathlib.Core.List.{[], ◌∷◌}
use Rattle.semantics.specs.Text.{same_text, joined}
use Rattle.semantics.specs.Calls.{gives, refuses, refuse_if, digits, decimal}
use Rattle.sections.specs.Afm.{with_byte, lines_of, on_first, split, begins_with, squeezed, each, is_name_byte, is_name, is_digit, number_from, number_of, leading_zero, is_number, is_value, pair_from, pair_of, fields_of, kpx_from, kpx_of, count_from, count_of, good, bad, on_pairs, pairs_of, nothing_left, sheet_from, sheet_of, section_end, section_from, section_in, section_of, pair_with, sheet_line, kpx_line, write_sheet, write_section, output, imported, import_call, exported, export_call}

-- To unfold this is to unfold every definition that the cases compute with.
unfoldable evaluates : Unit {0}
unfolding same_text joined refuse_if digits decimal with_byte lines_of on_first split begins_with squeezed each is_name_byte is_name is_digit number_from number_of leading_zero is_number is_value pair_from pair_of fields_of kpx_from kpx_of count_from count_of on_pairs pairs_of nothing_left sheet_from sheet_of section_end section_from section_in section_of pair_with sheet_line kpx_line write_sheet write_section output imported import_call exported export_call
evaluates = tt

-- `-0`
pub minus_nought : is_value (45 ∷ 48 ∷ []) ≡ false
unfolding evaluates
minus_nought = refl

-- `+1`
pub plus_one : is_value (43 ∷ 49 ∷ []) ≡ false
unfolding evaluates
plus_one = refl

-- `007`
pub leading_noughts : is_value (48 ∷ 48 ∷ 55 ∷ []) ≡ false
unfolding evaluates
leading_noughts = refl

-- `0`
pub nought : is_value (48 ∷ []) ≡ true
unfolding evaluates
nought = refl

-- `32767`
pub largest : is_value (51 ∷ 50 ∷ 55 ∷ 54 ∷ 55 ∷ []) ≡ true
unfolding evaluates
largest = refl

-- `-32768`
pub least_value : is_value (45 ∷ 51 ∷ 50 ∷ 55 ∷ 54 ∷ 56 ∷ []) ≡ true
unfolding evaluates
least_value = refl

-- `32768`
pub too_large : is_value (51 ∷ 50 ∷ 55 ∷ 54 ∷ 56 ∷ []) ≡ false
unfolding evaluates
too_large = refl

-- `-32769`
pub too_small : is_value (45 ∷ 51 ∷ 50 ∷ 55 ∷ 54 ∷ 57 ∷ []) ≡ false
unfolding evaluates
too_small = refl

-- 63 bytes, and 64
pub name_63 : is_name (97 ∷ 97 ∷ 97 ∷ 97 ∷ 97 ∷ 97 ∷ 97 ∷ 97 ∷ 97 ∷ 97 ∷ 97 ∷ 97 ∷ 97 ∷ 97 ∷ 97 ∷ 97 ∷ 97 ∷ 97 ∷ 97 ∷ 97 ∷ 97 ∷ 97 ∷ 97 ∷ 97 ∷ 97 ∷ 97 ∷ 97 ∷ 97 ∷ 97 ∷ 97 ∷ 97 ∷ 97 ∷ 97 ∷ 97 ∷ 97 ∷ 97 ∷ 97 ∷ 97 ∷ 97 ∷ 97 ∷ 97 ∷ 97 ∷ 97 ∷ 97 ∷ 97 ∷ 97 ∷ 97 ∷ 97 ∷ 97 ∷ 97 ∷ 97 ∷ 97 ∷ 97 ∷ 97 ∷ 97 ∷ 97 ∷ 97 ∷ 97 ∷ 97 ∷ 97 ∷ 97 ∷ 97 ∷ 97 ∷ []) ≡ true
unfolding evaluates
name_63 = refl

pub name_64 : is_name (97 ∷ 97 ∷ 97 ∷ 97 ∷ 97 ∷ 97 ∷ 97 ∷ 97 ∷ 97 ∷ 97 ∷ 97 ∷ 97 ∷ 97 ∷ 97 ∷ 97 ∷ 97 ∷ 97 ∷ 97 ∷ 97 ∷ 97 ∷ 97 ∷ 97 ∷ 97 ∷ 97 ∷ 97 ∷ 97 ∷ 97 ∷ 97 ∷ 97 ∷ 97 ∷ 97 ∷ 97 ∷ 97 ∷ 97 ∷ 97 ∷ 97 ∷ 97 ∷ 97 ∷ 97 ∷ 97 ∷ 97 ∷ 97 ∷ 97 ∷ 97 ∷ 97 ∷ 97 ∷ 97 ∷ 97 ∷ 97 ∷ 97 ∷ 97 ∷ 97 ∷ 97 ∷ 97 ∷ 97 ∷ 97 ∷ 97 ∷ 97 ∷ 97 ∷ 97 ∷ 97 ∷ 97 ∷ 97 ∷ 97 ∷ []) ≡ false
unfolding evaluates
name_64 = refl

-- none
pub no_name : is_name [] ≡ false
unfolding evaluates
no_name = refl

-- `a;b`, and a name with a tab
pub name_semicolon : is_name (97 ∷ 59 ∷ 98 ∷ []) ≡ false
unfolding evaluates
name_semicolon = refl

pub name_tab : is_name (97 ∷ 9 ∷ 98 ∷ []) ≡ false
unfolding evaluates
name_tab = refl

-- no pair
pub empty_section : section_of (83 ∷ 116 ∷ 97 ∷ 114 ∷ 116 ∷ 75 ∷ 101 ∷ 114 ∷ 110 ∷ 80 ∷ 97 ∷ 105 ∷ 114 ∷ 115 ∷ 32 ∷ 48 ∷ 10 ∷ 69 ∷ 110 ∷ 100 ∷ 75 ∷ 101 ∷ 114 ∷ 110 ∷ 80 ∷ 97 ∷ 105 ∷ 114 ∷ 115 ∷ 10 ∷ []) ≡ good (record { count = 0; pairs = [] })
unfolding evaluates
empty_section = refl

-- one pair, between runs of spaces
pub one_pair : section_of (83 ∷ 116 ∷ 97 ∷ 114 ∷ 116 ∷ 75 ∷ 101 ∷ 114 ∷ 110 ∷ 80 ∷ 97 ∷ 105 ∷ 114 ∷ 115 ∷ 32 ∷ 49 ∷ 10 ∷ 75 ∷ 80 ∷ 88 ∷ 32 ∷ 32 ∷ 65 ∷ 32 ∷ 32 ∷ 32 ∷ 121 ∷ 32 ∷ 45 ∷ 53 ∷ 10 ∷ 69 ∷ 110 ∷ 100 ∷ 75 ∷ 101 ∷ 114 ∷ 110 ∷ 80 ∷ 97 ∷ 105 ∷ 114 ∷ 115 ∷ 10 ∷ []) ≡ good (record { count = 1; pairs = (record { left = (65 ∷ []); right = (121 ∷ []); value = (45 ∷ 53 ∷ []) }) ∷ [] })
unfolding evaluates
one_pair = refl

-- no line; the last line is missing, behind one pair; it has no newline
pub nothing_at_all : section_of [] ≡ bad 1
unfolding evaluates
nothing_at_all = refl

pub end_missing : section_of (83 ∷ 116 ∷ 97 ∷ 114 ∷ 116 ∷ 75 ∷ 101 ∷ 114 ∷ 110 ∷ 80 ∷ 97 ∷ 105 ∷ 114 ∷ 115 ∷ 32 ∷ 49 ∷ 10 ∷ 75 ∷ 80 ∷ 88 ∷ 32 ∷ 65 ∷ 32 ∷ 121 ∷ 32 ∷ 45 ∷ 53 ∷ 10 ∷ []) ≡ bad 3
unfolding evaluates
end_missing = refl

pub newline_missing : section_of (83 ∷ 116 ∷ 97 ∷ 114 ∷ 116 ∷ 75 ∷ 101 ∷ 114 ∷ 110 ∷ 80 ∷ 97 ∷ 105 ∷ 114 ∷ 115 ∷ 32 ∷ 48 ∷ 10 ∷ 69 ∷ 110 ∷ 100 ∷ 75 ∷ 101 ∷ 114 ∷ 110 ∷ 80 ∷ 97 ∷ 105 ∷ 114 ∷ 115 ∷ []) ≡ bad 2
unfolding evaluates
newline_missing = refl

-- an empty line behind the last, and a piece of one
pub empty_line_behind : section_of (83 ∷ 116 ∷ 97 ∷ 114 ∷ 116 ∷ 75 ∷ 101 ∷ 114 ∷ 110 ∷ 80 ∷ 97 ∷ 105 ∷ 114 ∷ 115 ∷ 32 ∷ 48 ∷ 10 ∷ 69 ∷ 110 ∷ 100 ∷ 75 ∷ 101 ∷ 114 ∷ 110 ∷ 80 ∷ 97 ∷ 105 ∷ 114 ∷ 115 ∷ 10 ∷ 10 ∷ []) ≡ bad 3
unfolding evaluates
empty_line_behind = refl

pub piece_behind : section_of (83 ∷ 116 ∷ 97 ∷ 114 ∷ 116 ∷ 75 ∷ 101 ∷ 114 ∷ 110 ∷ 80 ∷ 97 ∷ 105 ∷ 114 ∷ 115 ∷ 32 ∷ 48 ∷ 10 ∷ 69 ∷ 110 ∷ 100 ∷ 75 ∷ 101 ∷ 114 ∷ 110 ∷ 80 ∷ 97 ∷ 105 ∷ 114 ∷ 115 ∷ 10 ∷ 32 ∷ []) ≡ bad 3
unfolding evaluates
piece_behind = refl

-- a space at the end of the first line, in the last, and in front of a pair
pub space_at_the_end : section_of (83 ∷ 116 ∷ 97 ∷ 114 ∷ 116 ∷ 75 ∷ 101 ∷ 114 ∷ 110 ∷ 80 ∷ 97 ∷ 105 ∷ 114 ∷ 115 ∷ 32 ∷ 48 ∷ 32 ∷ 10 ∷ 69 ∷ 110 ∷ 100 ∷ 75 ∷ 101 ∷ 114 ∷ 110 ∷ 80 ∷ 97 ∷ 105 ∷ 114 ∷ 115 ∷ 10 ∷ []) ≡ bad 1
unfolding evaluates
space_at_the_end = refl

pub space_in_the_last : section_of (83 ∷ 116 ∷ 97 ∷ 114 ∷ 116 ∷ 75 ∷ 101 ∷ 114 ∷ 110 ∷ 80 ∷ 97 ∷ 105 ∷ 114 ∷ 115 ∷ 32 ∷ 48 ∷ 10 ∷ 69 ∷ 110 ∷ 100 ∷ 75 ∷ 101 ∷ 114 ∷ 110 ∷ 80 ∷ 97 ∷ 105 ∷ 114 ∷ 115 ∷ 32 ∷ 10 ∷ []) ≡ bad 2
unfolding evaluates
space_in_the_last = refl

pub space_in_front : section_of (83 ∷ 116 ∷ 97 ∷ 114 ∷ 116 ∷ 75 ∷ 101 ∷ 114 ∷ 110 ∷ 80 ∷ 97 ∷ 105 ∷ 114 ∷ 115 ∷ 32 ∷ 49 ∷ 10 ∷ 32 ∷ 75 ∷ 80 ∷ 88 ∷ 32 ∷ 65 ∷ 32 ∷ 121 ∷ 32 ∷ 49 ∷ 10 ∷ 69 ∷ 110 ∷ 100 ∷ 75 ∷ 101 ∷ 114 ∷ 110 ∷ 80 ∷ 97 ∷ 105 ∷ 114 ∷ 115 ∷ 10 ∷ []) ≡ bad 2
unfolding evaluates
space_in_front = refl

-- a carriage return, and a tab
pub carriage_return : section_of (83 ∷ 116 ∷ 97 ∷ 114 ∷ 116 ∷ 75 ∷ 101 ∷ 114 ∷ 110 ∷ 80 ∷ 97 ∷ 105 ∷ 114 ∷ 115 ∷ 32 ∷ 48 ∷ 13 ∷ 10 ∷ 69 ∷ 110 ∷ 100 ∷ 75 ∷ 101 ∷ 114 ∷ 110 ∷ 80 ∷ 97 ∷ 105 ∷ 114 ∷ 115 ∷ 13 ∷ 10 ∷ []) ≡ bad 1
unfolding evaluates
carriage_return = refl

pub tab : section_of (83 ∷ 116 ∷ 97 ∷ 114 ∷ 116 ∷ 75 ∷ 101 ∷ 114 ∷ 110 ∷ 80 ∷ 97 ∷ 105 ∷ 114 ∷ 115 ∷ 32 ∷ 49 ∷ 10 ∷ 75 ∷ 80 ∷ 88 ∷ 32 ∷ 65 ∷ 9 ∷ 121 ∷ 32 ∷ 49 ∷ 10 ∷ 69 ∷ 110 ∷ 100 ∷ 75 ∷ 101 ∷ 114 ∷ 110 ∷ 80 ∷ 97 ∷ 105 ∷ 114 ∷ 115 ∷ 10 ∷ []) ≡ bad 2
unfolding evaluates
tab = refl

-- a count of 65536, and of `00`
pub count_65536 : section_of (83 ∷ 116 ∷ 97 ∷ 114 ∷ 116 ∷ 75 ∷ 101 ∷ 114 ∷ 110 ∷ 80 ∷ 97 ∷ 105 ∷ 114 ∷ 115 ∷ 32 ∷ 54 ∷ 53 ∷ 53 ∷ 51 ∷ 54 ∷ 10 ∷ 69 ∷ 110 ∷ 100 ∷ 75 ∷ 101 ∷ 114 ∷ 110 ∷ 80 ∷ 97 ∷ 105 ∷ 114 ∷ 115 ∷ 10 ∷ []) ≡ bad 1
unfolding evaluates
count_65536 = refl

pub count_noughts : section_of (83 ∷ 116 ∷ 97 ∷ 114 ∷ 116 ∷ 75 ∷ 101 ∷ 114 ∷ 110 ∷ 80 ∷ 97 ∷ 105 ∷ 114 ∷ 115 ∷ 32 ∷ 48 ∷ 48 ∷ 10 ∷ 69 ∷ 110 ∷ 100 ∷ 75 ∷ 101 ∷ 114 ∷ 110 ∷ 80 ∷ 97 ∷ 105 ∷ 114 ∷ 115 ∷ 10 ∷ []) ≡ bad 1
unfolding evaluates
count_noughts = refl

-- no line, one line, a line without its newline, a line that is empty behind a good one
pub empty_sheet : sheet_of [] ≡ good []
unfolding evaluates
empty_sheet = refl

pub one_line : sheet_of (65 ∷ 59 ∷ 121 ∷ 59 ∷ 45 ∷ 53 ∷ 10 ∷ []) ≡ good ((record { left = (65 ∷ []); right = (121 ∷ []); value = (45 ∷ 53 ∷ []) }) ∷ [])
unfolding evaluates
one_line = refl

pub line_unended : sheet_of (65 ∷ 59 ∷ 121 ∷ 59 ∷ 45 ∷ 53 ∷ []) ≡ bad 1
unfolding evaluates
line_unended = refl

pub line_empty : sheet_of (65 ∷ 59 ∷ 121 ∷ 59 ∷ 45 ∷ 53 ∷ 10 ∷ 10 ∷ []) ≡ bad 2
unfolding evaluates
line_empty = refl

-- the section of no pair has 30 bytes, and a buffer of 29 is too small
pub export_nothing : export_call [] 30 ≡ gives (83 ∷ 116 ∷ 97 ∷ 114 ∷ 116 ∷ 75 ∷ 101 ∷ 114 ∷ 110 ∷ 80 ∷ 97 ∷ 105 ∷ 114 ∷ 115 ∷ 32 ∷ 48 ∷ 10 ∷ 69 ∷ 110 ∷ 100 ∷ 75 ∷ 101 ∷ 114 ∷ 110 ∷ 80 ∷ 97 ∷ 105 ∷ 114 ∷ 115 ∷ 10 ∷ [])
unfolding evaluates
export_nothing = refl

pub export_too_long : export_call [] 29 ≡ refuses 16 0
unfolding evaluates
export_too_long = refl

pub import_nothing : import_call (83 ∷ 116 ∷ 97 ∷ 114 ∷ 116 ∷ 75 ∷ 101 ∷ 114 ∷ 110 ∷ 80 ∷ 97 ∷ 105 ∷ 114 ∷ 115 ∷ 32 ∷ 48 ∷ 10 ∷ 69 ∷ 110 ∷ 100 ∷ 75 ∷ 101 ∷ 114 ∷ 110 ∷ 80 ∷ 97 ∷ 105 ∷ 114 ∷ 115 ∷ 10 ∷ []) 0 ≡ gives []
unfolding evaluates
import_nothing = refl

-- one pair too few; a later line that is not of its form comes first
pub count_of_two : import_call (83 ∷ 116 ∷ 97 ∷ 114 ∷ 116 ∷ 75 ∷ 101 ∷ 114 ∷ 110 ∷ 80 ∷ 97 ∷ 105 ∷ 114 ∷ 115 ∷ 32 ∷ 50 ∷ 10 ∷ 75 ∷ 80 ∷ 88 ∷ 32 ∷ 65 ∷ 32 ∷ 121 ∷ 32 ∷ 49 ∷ 10 ∷ 69 ∷ 110 ∷ 100 ∷ 75 ∷ 101 ∷ 114 ∷ 110 ∷ 80 ∷ 97 ∷ 105 ∷ 114 ∷ 115 ∷ 10 ∷ []) 65535 ≡ refuses 19 0
unfolding evaluates
count_of_two = refl

pub line_before_count : import_call (83 ∷ 116 ∷ 97 ∷ 114 ∷ 116 ∷ 75 ∷ 101 ∷ 114 ∷ 110 ∷ 80 ∷ 97 ∷ 105 ∷ 114 ∷ 115 ∷ 32 ∷ 50 ∷ 10 ∷ 75 ∷ 80 ∷ 88 ∷ 32 ∷ 65 ∷ 32 ∷ 121 ∷ 32 ∷ 49 ∷ 10 ∷ 69 ∷ 110 ∷ 100 ∷ 75 ∷ 101 ∷ 114 ∷ 110 ∷ 80 ∷ 97 ∷ 105 ∷ 114 ∷ 10 ∷ []) 65535 ≡ refuses 18 3
unfolding evaluates
line_before_count = refl

-- the sheet has six bytes
pub import_too_long : import_call (83 ∷ 116 ∷ 97 ∷ 114 ∷ 116 ∷ 75 ∷ 101 ∷ 114 ∷ 110 ∷ 80 ∷ 97 ∷ 105 ∷ 114 ∷ 115 ∷ 32 ∷ 49 ∷ 10 ∷ 75 ∷ 80 ∷ 88 ∷ 32 ∷ 65 ∷ 32 ∷ 121 ∷ 32 ∷ 49 ∷ 10 ∷ 69 ∷ 110 ∷ 100 ∷ 75 ∷ 101 ∷ 114 ∷ 110 ∷ 80 ∷ 97 ∷ 105 ∷ 114 ∷ 115 ∷ 10 ∷ []) 5 ≡ refuses 16 0
unfolding evaluates
import_too_long = refl

pub import_fits : import_call (83 ∷ 116 ∷ 97 ∷ 114 ∷ 116 ∷ 75 ∷ 101 ∷ 114 ∷ 110 ∷ 80 ∷ 97 ∷ 105 ∷ 114 ∷ 115 ∷ 32 ∷ 49 ∷ 10 ∷ 75 ∷ 80 ∷ 88 ∷ 32 ∷ 65 ∷ 32 ∷ 121 ∷ 32 ∷ 49 ∷ 10 ∷ 69 ∷ 110 ∷ 100 ∷ 75 ∷ 101 ∷ 114 ∷ 110 ∷ 80 ∷ 97 ∷ 105 ∷ 114 ∷ 115 ∷ 10 ∷ []) 6 ≡ gives (65 ∷ 59 ∷ 121 ∷ 59 ∷ 49 ∷ 10 ∷ [])
unfolding evaluates
import_fits = refl
