-- The starred cases of document 01's section on program K, its small unstarred ones, 003's l$, a key by a union's left arm, and a case or two
-- for each of the refusals 1 to 11: one table and one theorem, by evaluation of the definitions from the bytes of the tables. What stands on
-- both sides of a limit is in `Limits`. 257 times `A;` and the longest texts that program K accepts belong to the program of cases.
use mathlib.Core.Path.{◌≡◌, refl}
use mathlib.Core.List.{List, [], ◌∷◌, ◌++◌, map}
use Prim.Native.Nat.{ℕ, ◌-◌, ◌/◌, ◌%◌}
use lib.ListN.{length}
use Prim.Native.Char.{code}
use Prim.Native.String.{String}
use Prim.Native.String.{[] as nil, ◌∷◌ as ◌then◌}
use Rattle.semantics.specs.Text.{Text, All, same_text, least, joined, some_passes, or_else, apply, apply₂, all_spaces, trimmed}
use Rattle.semantics.specs.Pattern.{range, in_run, in_class, nullable, before, heads, matches}
use Rattle.semantics.specs.Ambiguity.{runs_meet, share_byte, next_pairs, same_run, same_class, same_pattern, same_pair, visit, explore, word_rests, rests, states, reached, both_end, overlaps, onward, two_cuts, bad_repeat}
use Rattle.semantics.specs.Lens.{source, sheet, const_language, language, cut_at, parts_within, parts, get, key_of, same_key, entry_of, entries, answers, keeping, take_entry, and_then, arm_of, write_arm, write_parts, write_match, write, put, create}
use Rattle.semantics.specs.Table.{at, two, node_count, pool_length, sizes_wrong, node_at, below, nodes, pool, kind_of, pattern_of, lens_of, word_of, tree_at, pattern_at, lens_at, word_at, provided, runs_of, reversed, set_part, set_keeps, build, tree_of, trees_from, trees, pattern_size, lens_size, positions, tree_positions, tree_size, holds_match, line, unknown_kind, is_broken, nested_match, nested, over_limit, first_round, root_of, root_line, typing_lines, tree_lines, second_round, lines, first_that_holds}
use Rattle.semantics.specs.Calls.{Answer, gives, refuses, refuse_if, root_answer, verdict, program, with_program, too_long, not_of, output, check_call, get_call, put_call, create_call, digits, decimal, field, program_line, lenscheck_line}
use Rattle.semantics.specs.Tally.{meet_arm, meet_parts, met, counting, tallied, tally, tally_of, put_tally, counts_line, put_line, tally_line}

-- the bytes of a quoted text
unfoldable pub bytes_of : String → Text
bytes_of nil = []
bytes_of (c then s) = code c ∷ bytes_of s

-- To unfold this is to unfold every definition that a call computes with.
unfoldable pub evaluates : Unit {0}
unfolding same_text least joined some_passes or_else apply apply₂ range in_run in_class nullable before heads matches runs_meet share_byte next_pairs same_run same_class same_pattern same_pair visit explore word_rests rests states reached both_end overlaps onward two_cuts bad_repeat const_language language cut_at parts_within parts get key_of all_spaces trimmed same_key entry_of entries answers keeping take_entry and_then arm_of write_arm write_parts write_match write put create at two node_count pool_length sizes_wrong node_at below nodes pool kind_of pattern_of lens_of word_of tree_at pattern_at lens_at word_at provided runs_of reversed set_part set_keeps build tree_of trees_from trees pattern_size lens_size positions tree_positions tree_size holds_match line unknown_kind is_broken nested_match nested over_limit first_round root_of root_line typing_lines tree_lines second_round lines first_that_holds refuse_if root_answer verdict program with_program too_long not_of output check_call get_call put_call create_call digits decimal field program_line lenscheck_line meet_arm meet_parts met counting tallied tally tally_of put_tally counts_line put_line tally_line
evaluates = tt

-- a node as document 01 writes it: its kind and its operands a, b, c
pub data Row : Type 0 where
  node : ℕ → ℕ → ℕ → ℕ → Row

unfoldable pub kind_byte : Row → ℕ
kind_byte (node kind a b c) = kind

unfoldable pub operands : Row → Text
operands (node kind a b c) = a ∷ b ∷ c ∷ []

-- a table: sizes, kinds, operand records, pool
unfoldable pub table : List Row → String → Text
table rows poolText =
    let p = length (bytes_of poolText) in
    length rows ∷ p / 256 ∷ p % 256 ∷ map kind_byte rows ++ joined (map operands rows) ++ bytes_of poolText

-- Program K, with kind 18 (key) at node 8, or another
unfoldable pub K_with : ℕ → Text
K_with kind =
    table
    (node 1 65 90 0
    ∷ node 4 0 0 0
    ∷ node 2 0 1 0
    ∷ node 1 48 57 0
    ∷ node 4 3 0 0
    ∷ node 0 0 0 0
    ∷ node 0 0 0 1
    ∷ node 0 0 1 1
    ∷ node kind 2 0 0
    ∷ node 17 4 5 6
    ∷ node 16 7 0 0
    ∷ node 19 9 10 0
    ∷ node 19 8 11 0
    ∷ node 22 12 0 0
    ∷ node 21 13 0 0
    ∷ [])
    "0;"

unfoldable pub K : Text
K = K_with 18

-- a* joined with a*
two_stars : Text
two_stars = table (node 1 97 97 0 ∷ node 4 0 0 0 ∷ node 16 1 0 0 ∷ node 19 2 2 0 ∷ []) ""

-- copy A-M or copy from `first` to Z
letters : ℕ → Text
letters first = table (node 1 65 77 0 ∷ node 1 first 90 0 ∷ node 16 0 0 0 ∷ node 16 1 0 0 ∷ node 20 2 3 0 ∷ []) ""

-- repeat of const `a` to the empty word
repeat_of_nothing : Text
repeat_of_nothing = table (node 0 0 0 1 ∷ node 0 0 0 0 ∷ node 17 0 1 0 ∷ node 21 2 0 0 ∷ []) "a"

-- repeat of copy a*
repeat_of_star : Text
repeat_of_star = table (node 1 97 97 0 ∷ node 4 0 0 0 ∷ node 16 1 0 0 ∷ node 21 2 0 0 ∷ []) ""

-- copy of (a or a)
same_twice : Text
same_twice = table (node 0 0 0 1 ∷ node 3 0 0 0 ∷ node 16 1 0 0 ∷ []) "a"

-- 003's entries x* y* z* $, with y hidden and x* the key, repeated as matches or as they are
xyz : List Row → Text
xyz more =
    table
    (node 0 0 0 1
    ∷ node 4 0 0 0
    ∷ node 0 0 1 1
    ∷ node 4 2 0 0
    ∷ node 0 0 2 1
    ∷ node 4 4 0 0
    ∷ node 0 0 3 1
    ∷ node 0 0 0 0
    ∷ node 18 1 0 0
    ∷ node 17 3 7 7
    ∷ node 16 5 0 0
    ∷ node 16 6 0 0
    ∷ node 19 10 11 0
    ∷ node 19 9 12 0
    ∷ node 19 8 13 0
    ∷ more)
    "xyz$"

-- two arms with one sheet: a to x or b to x
one_sheet : Text
one_sheet = table (node 0 0 0 1 ∷ node 0 0 1 1 ∷ node 0 0 2 1 ∷ node 17 0 2 0 ∷ node 17 1 2 1 ∷ node 20 3 4 0 ∷ []) "abx"

-- Entries of a letter and a hidden digit: key x, or (y to x, or copy a-c). The sheet x fits both arms of node 10, a to c only the right one.
key_or_none : Text
key_or_none =
    table
    (node 0 0 0 1
    ∷ node 0 0 1 1
    ∷ node 1 97 99 0
    ∷ node 1 48 57 0
    ∷ node 0 0 0 0
    ∷ node 0 0 2 1
    ∷ node 18 0 0 0
    ∷ node 17 1 0 1
    ∷ node 16 2 0 0
    ∷ node 20 7 8 0
    ∷ node 20 6 9 0
    ∷ node 17 3 4 5
    ∷ node 19 10 11 0
    ∷ node 22 12 0 0
    ∷ node 21 13 0 0
    ∷ [])
    "xy0"

-- a join whose sheets alone are cut two ways: (x to a, y to aa) and (z to a, w to aa)
sheets_clash : Text
sheets_clash =
    table
    (node 0 0 0 1
    ∷ node 0 0 0 2
    ∷ node 0 0 2 1
    ∷ node 0 0 3 1
    ∷ node 0 0 4 1
    ∷ node 0 0 5 1
    ∷ node 17 2 0 2
    ∷ node 17 3 1 3
    ∷ node 20 6 7 0
    ∷ node 17 4 0 4
    ∷ node 17 5 1 5
    ∷ node 20 9 10 0
    ∷ node 19 8 11 0
    ∷ [])
    "aaxyzw"

-- a word of eight bytes, joined with itself again and again
doubled : Text
doubled =
    table
    (node 0 0 0 8
    ∷ node 2 0 0 0
    ∷ node 2 1 1 0
    ∷ node 2 2 2 0
    ∷ node 2 3 3 0
    ∷ node 2 4 4 0
    ∷ node 16 5 0 0
    ∷ [])
    "abcdefgh"

-- the root's written-out size, source positions and sheet positions
unfoldable pub root_counts : Text → List ℕ
root_counts t =
    let root = tree_at (trees t) (node_count t - 1) in
    tree_size root ∷ tree_positions source root ∷ tree_positions sheet root ∷ []

-- a and b both show x; a is an entry
entry_or_none : Text
entry_or_none =
    table
    (node 0 0 0 1 ∷ node 0 0 1 1 ∷ node 0 0 2 1 ∷ node 17 0 2 0 ∷ node 17 1 2 1 ∷ node 22 3 0 0 ∷ node 20 5 4 0 ∷ [])
    "abx"

pub data Case : Type 0 where
  checks : Text → Answer ℕ → Case
  prints : Text → String → Case
  gets : Text → String → ℕ → Answer Text → Case
  puts : Text → String → String → ℕ → Answer Text → Case
  creates : Text → String → ℕ → Answer Text → Case
  tells : Text → String → String → String → Case
  counts : Text → ℕ → ℕ → ℕ → Case

abbrev pub Holds : Case → Type 0
Holds (checks t answer) = check_call t ≡ answer
Holds (prints t text) = lenscheck_line t ≡ bytes_of text
Holds (gets t old lent answer) = get_call t (bytes_of old) lent ≡ answer
Holds (puts t new old lent answer) = put_call t (bytes_of new) (bytes_of old) lent ≡ answer
Holds (creates t new lent answer) = create_call t (bytes_of new) lent ≡ answer
Holds (tells t new old text) = tally_line t (bytes_of new) (bytes_of old) ≡ bytes_of text
Holds (counts t size sources sheets) = root_counts t ≡ size ∷ sources ∷ sheets ∷ []

unfoldable pub result : String → Answer Text
result t = gives (bytes_of t)

cases : List Case
cases =
    checks K (gives 15)
    ∷ prints K "ok 15 4 3\n"
    ∷ counts K 16 4 3
    ∷ prints [] "refused 1 0\n"
    ∷ gets K "AB1;C22;" 4096 (result "AB;C;")
    ∷ gets K "" 0 (result "")
    ∷ puts K "C;AB;" "AB1;C22;" 4096 (result "C22;AB1;")
    ∷ puts K "C;AB;" "AB1;C22;" 8 (result "C22;AB1;")
    ∷ puts K "C;AB;" "AB1;C22;" 7 (refuses 16 0)
    ∷ puts K "C;D;" "AB1;C22;" 4096 (result "C22;D0;")
    ∷ puts K "AB;AB;" "AB1;C22;" 4096 (result "AB1;AB0;")
    ∷ puts K "A;A;" "A1;A2;" 4096 (result "A1;A2;")
    ∷ creates K "AB;" 4096 (result "AB0;")
    ∷ gets K "Z;" 4096 (result "Z;")
    ∷ gets K "[;" 4096 (refuses 13 0)
    ∷ gets K "@;" 4096 (refuses 13 0)
    ∷ creates K "AB1;" 4096 (refuses 14 0)
    ∷ puts (K_with 16) "C;AB;" "AB1;C22;" 4096 (result "C1;AB22;")
    ∷ checks two_stars (refuses 7 3)
    ∷ checks (letters 77) (refuses 9 4)
    ∷ checks (letters 78) (gives 5)
    ∷ checks repeat_of_nothing (refuses 11 3)
    ∷ checks repeat_of_star (refuses 10 3)
    ∷ checks same_twice (gives 3)
    ∷ puts (xyz (node 22 14 0 0 ∷ node 21 15 0 0 ∷ [])) "xxzzz$x$" "xyz$xxyyzz$" 4096 (result "xxyyzzz$xy$")
    ∷ puts (xyz (node 21 14 0 0 ∷ [])) "xxzzz$x$" "xyz$xxyyzz$" 4096 (result "xxyzzz$xyy$")
    ∷ puts one_sheet "x" "b" 4096 (result "b")
    ∷ puts one_sheet "x" "a" 4096 (result "a")
    ∷ creates one_sheet "x" 4096 (result "a")
    -- The sheet of y1 and of x2 is x, which fits the left arm: their key is x. Copies have none. So b takes a3; the first x takes y1 and
    -- keeps y, whose arm the sheet fits; the second x takes x2.
    ∷ puts key_or_none "bxx" "y1x2a3" 4096 (result "b3y1x2")
    ∷ checks (0 ∷ 0 ∷ 0 ∷ []) (refuses 1 0)
    ∷ checks (table (node 1 65 90 0 ∷ node 6 0 0 0 ∷ []) "") (refuses 2 1)
    ∷ checks (table (node 1 65 90 0 ∷ node 16 1 0 0 ∷ []) "") (refuses 3 1)
    ∷ checks (table (node 1 65 90 0 ∷ node 16 0 0 1 ∷ []) "") (refuses 3 1)
    ∷ checks (table (node 1 65 90 0 ∷ node 4 0 0 0 ∷ []) "") (refuses 3 1)
    ∷ checks (table (node 1 65 90 0 ∷ node 18 0 0 0 ∷ node 22 1 0 0 ∷ node 22 2 0 0 ∷ []) "") (refuses 4 3)
    ∷ checks doubled (refuses 5 5)
    ∷ checks (table (node 1 65 90 0 ∷ node 0 0 0 1 ∷ node 17 0 1 1 ∷ []) "x") (refuses 6 2)
    ∷ checks sheets_clash (refuses 8 12)
    -- document 02, (i)
    ∷ tells K "C;D;" "AB1;C22;" "kept 1 made 1 dropped 1\n"
    ∷ tells K "A;A;A;" "A1;" "kept 1 made 2 dropped 0\n"
    ∷ tells K "AB;C;" "AB1;C22;" "kept 2 made 0 dropped 0\n"
    ∷ tells K "" "A1;A2;" "kept 0 made 0 dropped 2\n"
    -- The sheet x fits both arms; it is an entry where the old source is of the left one.
    ∷ tells entry_or_none "x" "a" "kept 1 made 0 dropped 0\n"
    ∷ tells entry_or_none "x" "b" "kept 0 made 0 dropped 0\n"
    ∷ tells K "1" "" "refused 14 0\n"
    ∷ tells [] "" "" "refused 1 0\n"
    ∷ []

-- Program K as document 01 counts it: 65 bytes.
K_size : length K ≡ 65
unfolding K K_with table bytes_of kind_byte operands joined
K_size = refl

infixr 5 ◌&◌
pub ◌&◌ : {P Q : Type 0} → P → Q → P × Q
p & q = (p, q)

-- Every case holds.
cases_hold : All Holds cases
unfolding bytes_of kind_byte operands table K_with K two_stars letters repeat_of_nothing repeat_of_star same_twice one_sheet key_or_none sheets_clash doubled xyz entry_or_none result root_counts cases evaluates
cases_hold = refl & refl & refl & refl & refl & refl & refl & refl & refl & refl & refl & refl & refl & refl & refl & refl & refl & refl & refl & refl & refl & refl & refl & refl & refl & refl & refl & refl & refl & refl & refl & refl & refl & refl & refl & refl & refl & refl & refl & refl & refl & refl & refl & refl & refl & refl & refl & tt
