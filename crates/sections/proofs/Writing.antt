-- What is read from a sheet and a section and written again: the same sheet, and the section with each run of spaces made one; and what is written is read as it was.
use Rattle.std.specs.Prelude.{◌≡◌, refl, Bool, true, false, ◌&&◌, cond, List, [], ◌∷◌, ◌++◌, map, ℕ, ◌+◌, ◌≤◌, length}
use Rattle.std.proofs.Common.{sym, ap, ◌∙◌, subst, append-nil, append_assoc, map-id, arith}
use Rattle.std.proofs.lemmas.List.{map-append}
use Rattle.std.proofs.Math.Option.{Option, none, some, some-injective}
use Rattle.semantics.specs.Text.{Text, same_text, joined, All}
use Rattle.semantics.specs.Calls.{decimal}
use Rattle.laws.specs.Basics.{never, and_both, and_of, cond_true, same_text_refl, same_text_eq, all_append}
use Rattle.sections.specs.Afm.{newline, space, semicolon, Lines, lines_of, split, begins_with, squeezed, each, is_name_byte, is_name, number_of, is_number, is_value, Pair, pair_from, pair_of, fields_of, on_first, start_word, kpx_word, end_word, kpx_from, kpx_of, max_count, count_from, count_of, good, bad, Pairs, on_pairs, pairs_of, nothing_left, sheet_from, sheet_of, Section, section_end, section_from, section_in, section_of, pair_with, sheet_line, kpx_line, write_sheet, write_section}
use Rattle.sections.proofs.Splitting.{is_not, each_of, each_join, split_field, split_last, split_more, split_one, squeezed_none, squeezed_clean, squeezed_between, squeezed_line, lines_empty, lines_ended, lines_first, lines_last, newline_no_name, space_no_name, semicolon_no_name, number_of_lem, name_clean, value_clean, number_clean, name_begins, value_begins, number_begins}
use Rattle.sections.proofs.Numbers.{number_of_decimal, decimal_is_number, decimal_of_number}

-- ---- A pair and its line

-- names and a value of their forms
pub record LegalPair (p : Pair) : Type 0 where
  pub left_name : is_name p.left ≡ true
  pub right_name : is_name p.right ≡ true
  pub value_fits : is_value p.value ≡ true

-- the three fields of a pair with a separator between them, as they stand in a line
unfoldable pub pair_line : ℕ → Pair → Text
pair_line m p = p.left ++ m ∷ (p.right ++ m ∷ p.value)

-- with a newline it is what is written
pair_with_lem : (m : ℕ) (p : Pair) → pair_with m p ≡ pair_line m p ++ newline ∷ []
unfolding pair_with pair_line
pair_with_lem m p = ap (λ (t : Text). t ++ newline ∷ []) (append_assoc p.left (m ∷ p.right) (m ∷ p.value))

-- Split at the separator, the line of a pair gives its three fields,
pub pair_split :
    (m : ℕ) → is_name_byte m ≡ false → (p : Pair) → LegalPair p → split m (pair_line m p) ≡ p.left ∷ p.right ∷ p.value ∷ []
unfolding pair_line
pair_split m apart p legal =
    split_field m p.left (p.right ++ m ∷ p.value) (name_clean m apart p.left legal.left_name)
    ∙ ap
    (λ (fields : List Text). p.left ∷ fields)
    (split_field m p.right p.value (name_clean m apart p.right legal.right_name)
    ∙ ap (λ (fields : List Text). p.right ∷ fields) (split_last m p.value (value_clean m apart p.value legal.value_fits)))

-- and no other line gives them.
pub split_pair : (m : ℕ) (line : Text) (p : Pair) → split m line ≡ p.left ∷ p.right ∷ p.value ∷ [] → line ≡ pair_line m p
unfolding pair_line
split_pair m line p e =
    let a = split_more m line p.left p.right (p.value ∷ []) e in
    let b = split_more m a.rest p.right p.value [] a.rest_is in
    let last : b.rest ≡ p.value = (split_one m b.rest p.value b.rest_is).0 in
    a.line_is ∙ ap (λ (t : Text). p.left ++ m ∷ t) (b.line_is ∙ ap (λ (t : Text). p.right ++ m ∷ t) last)

-- Three fields of their forms are read as a pair,
pub pair_forth : (p : Pair) → LegalPair p → pair_from (p.left ∷ p.right ∷ p.value ∷ []) ≡ some p
unfolding pair_from
pair_forth p legal =
    cond_true
    (is_name p.left && is_name p.right && is_value p.value)
    (some p)
    none
    (and_of
    (is_name p.left && is_name p.right)
    (is_value p.value)
    (and_of (is_name p.left) (is_name p.right) legal.left_name legal.right_name)
    legal.value_fits)

-- and nothing else is.
pub record PairFields (fields : List Text) (p : Pair) : Type 0 where
  pub fields_are : fields ≡ p.left ∷ p.right ∷ p.value ∷ []
  pub legal : LegalPair p

pub pair_back : (fields : List Text) (p : Pair) → pair_from fields ≡ some p → PairFields fields p
unfolding pair_from
pair_back [] p e = never (cc)
pair_back (l ∷ []) p e = never (cc)
pair_back (l ∷ r ∷ []) p e = never (cc)
pair_back (l ∷ r ∷ v ∷ []) p e = go (is_name l && is_name r && is_value v) refl e
  where
    read : Pair
    read = record { left = l; right = r; value = v }

    go : (test : Bool) → is_name l && is_name r && is_value v ≡ test → cond test (some read) none ≡ some p → PairFields (l ∷ r ∷ v ∷ []) p
    go true form e =
        let same : read ≡ p = some-injective read p e in
        let (names, value) = and_both (is_name l && is_name r) (is_value v) form in
        let (left, right) = and_both (is_name l) (is_name r) names in
        subst (PairFields (l ∷ r ∷ v ∷ [])) same (record { fields_are = refl; legal = record { left_name = left; right_name = right; value_fits = value } })
    go false form e = never (cc)
pair_back (l ∷ r ∷ v ∷ more ∷ others) p e = never (cc)

-- ---- The lines of a sheet and of a section

-- 'sheet lines `left;right;value`': the line of a legal pair is read as it, and no other line is.
pub sheet_forth : (p : Pair) → LegalPair p → pair_of (pair_line semicolon p) ≡ some p
unfolding pair_of
sheet_forth p legal = ap pair_from (pair_split semicolon semicolon_no_name p legal) ∙ pair_forth p legal

pub sheet_back : (line : Text) (p : Pair) → pair_of line ≡ some p → (line ≡ pair_line semicolon p) × LegalPair p
unfolding pair_of
sheet_back line p e =
    let f = pair_back (split semicolon line) p e in
    (split_pair semicolon line p f.fields_are, f.legal)

-- A KPX line as it is written, without its newline: it has no run of spaces, is read as its pair,
unfoldable pub kpx_text : Pair → Text
kpx_text p = kpx_word ++ space ∷ pair_line space p

-- (the word has no space,
pub kpx_clean : each (is_not space) kpx_word ≡ true
unfolding each is_not
kpx_clean = refl

-- the fields have none between them but the separators,
pub pair_squeezed : (p : Pair) → LegalPair p → squeezed (pair_line space p) ≡ pair_line space p
unfolding pair_line
pair_squeezed p legal =
    squeezed_between
    p.left
    (p.right ++ space ∷ p.value)
    (name_clean space space_no_name p.left legal.left_name)
    (name_begins p.right (space ∷ p.value) legal.right_name)
    ∙ ap
    (λ (t : Text). p.left ++ space ∷ t)
    (squeezed_between
    p.right
    p.value
    (name_clean space space_no_name p.right legal.right_name)
    (ap (begins_with space) (sym (append-nil p.value)) ∙ value_begins p.value [] legal.value_fits)
    ∙ ap (λ (t : Text). p.right ++ space ∷ t) (squeezed_clean p.value (value_clean space space_no_name p.value legal.value_fits)))

-- and they begin with none)
pair_begins : (p : Pair) → LegalPair p → begins_with space (pair_line space p) ≡ false
unfolding pair_line
pair_begins p legal = name_begins p.left (space ∷ (p.right ++ space ∷ p.value)) legal.left_name

pub kpx_squeezed : (p : Pair) → LegalPair p → squeezed (kpx_text p) ≡ kpx_text p
unfolding kpx_text
kpx_squeezed p legal =
    squeezed_between kpx_word (pair_line space p) kpx_clean (pair_begins p legal)
    ∙ ap (λ (t : Text). kpx_word ++ space ∷ t) (pair_squeezed p legal)

kpx_fields : (p : Pair) → LegalPair p → split space (kpx_text p) ≡ kpx_word ∷ p.left ∷ p.right ∷ p.value ∷ []
unfolding kpx_text
kpx_fields p legal =
    split_field space kpx_word (pair_line space p) kpx_clean
    ∙ ap (λ (fields : List Text). kpx_word ∷ fields) (pair_split space space_no_name p legal)

pub kpx_from_lem : (fields : List Text) → kpx_from (kpx_word ∷ fields) ≡ pair_from fields
unfolding kpx_from
kpx_from_lem fields = cond_true (same_text kpx_word kpx_word) (pair_from fields) none (same_text_refl kpx_word)

pub kpx_forth : (p : Pair) → LegalPair p → kpx_of (kpx_text p) ≡ some p
unfolding kpx_of fields_of
kpx_forth p legal =
    ap (λ (t : Text). kpx_from (split space t)) (kpx_squeezed p legal)
    ∙ ap kpx_from (kpx_fields p legal)
    ∙ kpx_from_lem (p.left ∷ p.right ∷ p.value ∷ [])
    ∙ pair_forth p legal

-- and every line that is read as a pair becomes it when its runs of spaces are made one.
pub kpx_word_lem : (fields : List Text) (p : Pair) → kpx_from fields ≡ some p → (fields ≡ kpx_word ∷ p.left ∷ p.right ∷ p.value ∷ []) × LegalPair p
unfolding kpx_from
kpx_word_lem [] p e = never (cc)
kpx_word_lem (word ∷ fields) p e = go (same_text word kpx_word) refl e
  where
    go :
        (test : Bool)
        → same_text word kpx_word ≡ test
        → cond test (pair_from fields) none ≡ some p
        → (word ∷ fields ≡ kpx_word ∷ p.left ∷ p.right ∷ p.value ∷ []) × LegalPair p
    go true is e =
        let f = pair_back fields p e in
        (ap (λ (w : Text). w ∷ fields) (same_text_eq word kpx_word is) ∙ ap (λ (fs : List Text). kpx_word ∷ fs) f.fields_are, f.legal)
    go false is e = never (cc)

kpx_split : (line : Text) (p : Pair) → split space line ≡ kpx_word ∷ p.left ∷ p.right ∷ p.value ∷ [] → line ≡ kpx_text p
unfolding kpx_text
kpx_split line p e =
    let a = split_more space line kpx_word p.left (p.right ∷ p.value ∷ []) e in
    a.line_is ∙ ap (λ (t : Text). kpx_word ++ space ∷ t) (split_pair space a.rest p a.rest_is)

pub kpx_back : (line : Text) (p : Pair) → kpx_of line ≡ some p → (squeezed line ≡ kpx_text p) × LegalPair p
unfolding kpx_of fields_of
kpx_back line p e =
    let (fields_are, legal) = kpx_word_lem (split space (squeezed line)) p e in
    (kpx_split (squeezed line) p fields_are, legal)

-- The first line of a section with n pairs, in the same way.
unfoldable pub start_line : ℕ → Text
start_line n = start_word ++ space ∷ decimal n

pub start_clean : each (is_not space) start_word ≡ true
unfolding each is_not
start_clean = refl

pub count_form : (n : ℕ) → n ≤ max_count → is_number max_count (decimal n) ≡ true
count_form n small = decimal_is_number n max_count small (omega arith)

start_squeezed : (n : ℕ) → n ≤ max_count → squeezed (start_line n) ≡ start_line n
unfolding start_line
start_squeezed n small =
    squeezed_between
    start_word
    (decimal n)
    start_clean
    (ap (begins_with space) (sym (append-nil (decimal n))) ∙ number_begins max_count (decimal n) [] (count_form n small))
    ∙ ap (λ (t : Text). start_word ++ space ∷ t) (squeezed_clean (decimal n) (number_clean space space_no_name max_count (decimal n) (count_form n small)))

start_fields : (n : ℕ) → n ≤ max_count → split space (start_line n) ≡ start_word ∷ decimal n ∷ []
unfolding start_line
start_fields n small =
    split_field space start_word (decimal n) start_clean
    ∙ ap (λ (fields : List Text). start_word ∷ fields) (split_last space (decimal n) (number_clean space space_no_name max_count (decimal n) (count_form n small)))

pub count_from_lem : (n : ℕ) → n ≤ max_count → count_from (start_word ∷ decimal n ∷ []) ≡ some n
unfolding count_from
count_from_lem n small =
    cond_true
    (same_text start_word start_word && is_number max_count (decimal n))
    (some (number_of (decimal n)))
    none
    (and_of (same_text start_word start_word) (is_number max_count (decimal n)) (same_text_refl start_word) (count_form n small))
    ∙ ap some (number_of_decimal n small)

-- a count up to 65,535 is read,
pub count_forth : (n : ℕ) → n ≤ max_count → count_of (start_line n) ≡ some n
unfolding count_of fields_of
count_forth n small =
    ap (λ (t : Text). count_from (split space t)) (start_squeezed n small) ∙ ap count_from (start_fields n small) ∙ count_from_lem n small

pub count_word : (fields : List Text) (n : ℕ) → count_from fields ≡ some n → (fields ≡ start_word ∷ decimal n ∷ []) × (n ≤ max_count)
unfolding count_from
count_word [] n e = never (cc)
count_word (word ∷ []) n e = never (cc)
count_word (word ∷ count ∷ []) n e = go (same_text word start_word && is_number max_count count) refl e
  where
    go :
        (test : Bool)
        → same_text word start_word && is_number max_count count ≡ test
        → cond test (some (number_of count)) none ≡ some n
        → (word ∷ count ∷ [] ≡ start_word ∷ decimal n ∷ []) × (n ≤ max_count)
    go true form e =
        let (is, number) = and_both (same_text word start_word) (is_number max_count count) form in
        let same : number_of count ≡ n = some-injective (number_of count) n e in
        let digits : count ≡ decimal n = sym (decimal_of_number max_count count (omega arith) number) ∙ ap decimal same in (
          ap (λ (w : Text). w ∷ count ∷ []) (same_text_eq word start_word is) ∙ ap (λ (t : Text). start_word ∷ t ∷ []) digits,
          omega (arith, (number_of_lem max_count count number).within),
        )
    go false form e = never (cc)
count_word (word ∷ count ∷ more ∷ others) n e = never (cc)

start_split : (line : Text) (n : ℕ) → split space line ≡ start_word ∷ decimal n ∷ [] → line ≡ start_line n
unfolding start_line
start_split line n e =
    let a = split_more space line start_word (decimal n) [] e in
    a.line_is ∙ ap (λ (t : Text). start_word ++ space ∷ t) (split_one space a.rest (decimal n) a.rest_is).0

-- and a line that is read as a count becomes it.
pub count_back : (line : Text) (n : ℕ) → count_of line ≡ some n → (squeezed line ≡ start_line n) × (n ≤ max_count)
unfolding count_of fields_of
count_back line n e =
    let (fields_are, small) = count_word (split space (squeezed line)) n e in
    (start_split (squeezed line) n fields_are, small)

-- The last line has no run of spaces and holds no pair.
pub end_squeezed : squeezed end_word ≡ end_word
end_squeezed = squeezed_clean end_word (unfold each is_not in refl)

pub end_no_pair : kpx_of end_word ≡ none
unfolding kpx_of fields_of kpx_from squeezed begins_with split on_first same_text
end_no_pair = refl

-- ---- Lines that are ended one behind the other

-- lines, each with a newline
unfoldable pub with_newlines : List Text → Text
with_newlines [] = []
with_newlines (line ∷ lines) = line ++ newline ∷ with_newlines lines

-- no newline in it
abbrev pub OneLine : Text → Type 0
OneLine line = each (is_not newline) line ≡ true

-- of two lists of lines
pub newlines_append : (s t : List Text) → with_newlines (s ++ t) ≡ with_newlines s ++ with_newlines t
unfolding with_newlines
newlines_append [] t = refl
newlines_append (line ∷ s) t =
    ap (λ (u : Text). line ++ newline ∷ u) (newlines_append s t) ∙ sym (append_assoc line (newline ∷ with_newlines s) (with_newlines t))

-- A text is its lines and its rest.
text_is : (lines : List Text) (t : Text) → (lines_of t).ended ≡ lines → t ≡ with_newlines lines ++ (lines_of t).rest
unfolding with_newlines
text_is [] t e = sym (lines_last t e).0
text_is (line ∷ lines) t e =
    let f = lines_first t line lines e in
    f.text_is
    ∙ ap (λ (u : Text). line ++ newline ∷ u) (text_is lines f.behind f.ended_is ∙ ap (λ (u : Text). with_newlines lines ++ u) f.rest_is)
    ∙ sym (append_assoc line (newline ∷ with_newlines lines) (lines_of t).rest)

pub lines_text : (t : Text) → t ≡ with_newlines (lines_of t).ended ++ (lines_of t).rest
lines_text t = text_is (lines_of t).ended t refl

-- Ended lines are read as they are.
pub lines_read : (lines : List Text) → All OneLine lines → lines_of (with_newlines lines) ≡ record { ended = lines; rest = [] }
unfolding with_newlines
lines_read [] all = lines_empty
lines_read (line ∷ lines) all =
    lines_ended line (with_newlines lines) all.0
    ∙ ap (λ (behind : Lines). record { ended = line ∷ behind.ended; rest = behind.rest }) (lines_read lines all.1)

-- Each line is squeezed on its own.
pub squeezed_lines : (lines : List Text) → squeezed (with_newlines lines) ≡ with_newlines (map squeezed lines)
unfolding with_newlines
squeezed_lines [] = squeezed_none
squeezed_lines (line ∷ lines) = squeezed_line line (with_newlines lines) ∙ ap (λ (u : Text). squeezed line ++ newline ∷ u) (squeezed_lines lines)

-- Lines that are written with their newline, joined, are the lines with newlines.
joined_lines : (ended line : Pair → Text) → ((p : Pair) → ended p ≡ line p ++ newline ∷ []) → (ps : List Pair) → joined (map ended ps) ≡ with_newlines (map line ps)
unfolding with_newlines joined
joined_lines ended line is [] = refl
joined_lines ended line is (p ∷ ps) =
    ap (λ (u : Text). u ++ joined (map ended ps)) (is p)
    ∙ append_assoc (line p) (newline ∷ []) (joined (map ended ps))
    ∙ ap (λ (u : Text). line p ++ newline ∷ u) (joined_lines ended line is ps)

-- So a sheet and a section are these lines:
pub sheet_lines : (ps : List Pair) → write_sheet ps ≡ with_newlines (map (pair_line semicolon) ps)
unfolding write_sheet
sheet_lines ps = joined_lines sheet_line (pair_line semicolon) (λ p. unfold sheet_line in pair_with_lem semicolon p) ps

unfoldable pub section_lines : List Pair → List Text
section_lines ps = start_line (length ps) ∷ (map kpx_text ps ++ end_word ∷ [])

kpx_line_lem : (p : Pair) → kpx_line p ≡ kpx_text p ++ newline ∷ []
unfolding kpx_line kpx_text
kpx_line_lem p = ap (λ (t : Text). kpx_word ++ space ∷ t) (pair_with_lem space p)

section_parts : (start pairs : Text) → start ++ newline ∷ [] ++ pairs ++ end_word ++ newline ∷ [] ≡ start ++ newline ∷ (pairs ++ (end_word ++ newline ∷ []))
section_parts start pairs =
    append_assoc (start ++ newline ∷ [] ++ pairs) end_word (newline ∷ [])
    ∙ append_assoc (start ++ newline ∷ []) pairs (end_word ++ newline ∷ [])
    ∙ append_assoc start (newline ∷ []) (pairs ++ (end_word ++ newline ∷ []))

pub section_lines_lem : (ps : List Pair) → write_section ps ≡ with_newlines (section_lines ps)
unfolding write_section section_lines with_newlines start_line
section_lines_lem ps =
    section_parts (start_word ++ space ∷ decimal (length ps)) (joined (map kpx_line ps))
    ∙ ap
    (λ (u : Text). start_word ++ space ∷ decimal (length ps) ++ newline ∷ u)
    (ap (λ (u : Text). u ++ (end_word ++ newline ∷ [])) (joined_lines kpx_line kpx_text kpx_line_lem ps) ∙ sym (newlines_append (map kpx_text ps) (end_word ∷ [])))

-- and none of them has a newline in it.
pair_one_line : (m : ℕ) → is_not newline m ≡ true → (p : Pair) → LegalPair p → OneLine (pair_line m p)
unfolding pair_line
pair_one_line m apart p legal =
    let left = name_clean newline newline_no_name p.left legal.left_name in
    let right = name_clean newline newline_no_name p.right legal.right_name in
    let value = value_clean newline newline_no_name p.value legal.value_fits in
    let behind : OneLine (p.right ++ m ∷ p.value) =
    each_join (is_not newline) p.right (m ∷ p.value) right (each_of (is_not newline) m p.value apart value) in
    each_join (is_not newline) p.left (m ∷ (p.right ++ m ∷ p.value)) left (each_of (is_not newline) m (p.right ++ m ∷ p.value) apart behind)

semicolon_apart : is_not newline semicolon ≡ true
unfolding is_not
semicolon_apart = refl

space_apart : is_not newline space ≡ true
unfolding is_not
space_apart = refl

kpx_one_line : (p : Pair) → LegalPair p → OneLine (kpx_text p)
unfolding kpx_text
kpx_one_line p legal =
    each_join
    (is_not newline)
    kpx_word
    (space ∷ pair_line space p)
    (unfold each is_not in refl)
    (each_of (is_not newline) space (pair_line space p) space_apart (pair_one_line space space_apart p legal))

start_one_line : (n : ℕ) → n ≤ max_count → OneLine (start_line n)
unfolding start_line
start_one_line n small =
    each_join
    (is_not newline)
    start_word
    (space ∷ decimal n)
    (unfold each is_not in refl)
    (each_of (is_not newline) space (decimal n) space_apart (number_clean newline newline_no_name max_count (decimal n) (count_form n small)))

end_one_line : OneLine end_word
unfolding each is_not
end_one_line = refl

all_one_line : (line : Pair → Text) → ((p : Pair) → LegalPair p → OneLine (line p)) → (ps : List Pair) → All LegalPair ps → All OneLine (map line ps)
all_one_line line one [] all = tt
all_one_line line one (p ∷ ps) all = (one p all.0, all_one_line line one ps all.1)

section_one_line : (ps : List Pair) → All LegalPair ps → length ps ≤ max_count → All OneLine (section_lines ps)
unfolding section_lines
section_one_line ps all few =
    (start_one_line (length ps) few, all_append OneLine (map kpx_text ps) (end_word ∷ []) (all_one_line kpx_text kpx_one_line ps all) (end_one_line, tt))

-- ---- The pairs of lines

-- Lines that are written from pairs are read as those pairs, also with lines behind them of which the first holds none.
pub pairs_forth :
    (form : Text → Option Pair) (line : Pair → Text) → ((p : Pair) → LegalPair p → form (line p) ≡ some p)
    → (lines : List Text) → pairs_of form lines ≡ record { pairs = []; behind = lines }
    → (ps : List Pair) → All LegalPair ps → pairs_of form (map line ps ++ lines) ≡ record { pairs = ps; behind = lines }
unfolding pairs_of on_pairs
pairs_forth form line forth lines stops [] all = stops
pairs_forth form line forth lines stops (p ∷ ps) all =
    ap (λ (o : Option Pair). on_pairs o (line p) (map line ps ++ lines) (pairs_of form (map line ps ++ lines))) (forth p all.0)
    ∙ ap (λ (found : Pairs). record { pairs = p ∷ found.pairs; behind = found.behind }) (pairs_forth form line forth lines stops ps all.1)

-- The lines that were read as pairs stand in front of those behind; seen in one way (as they are, or squeezed), they are what is written from the pairs.
pub record Front (see : Text → Text) (line : Pair → Text) (lines : List Text) (found : Pairs) : Type 0 where
  pub front : List Text
  pub lines_are : lines ≡ front ++ found.behind
  pub seen : map see front ≡ map line found.pairs
  pub legal : All LegalPair found.pairs

pub pairs_back :
    (form : Text → Option Pair) (see : Text → Text) (line : Pair → Text)
    → ((l : Text) (p : Pair) → form l ≡ some p → (see l ≡ line p) × LegalPair p)
    → (lines : List Text) → Front see line lines (pairs_of form lines)
unfolding pairs_of on_pairs
pairs_back form see line back [] = record { front = []; lines_are = refl; seen = refl; legal = tt }
pairs_back form see line back (l ∷ lines) = go (form l) refl (pairs_back form see line back lines)
  where
    go :
        (o : Option Pair)
        → form l ≡ o
        → Front see line lines (pairs_of form lines)
        → Front see line (l ∷ lines) (on_pairs o l lines (pairs_of form lines))
    go none e later = record { front = []; lines_are = refl; seen = refl; legal = tt }
    go (some p) e later =
        let (first, legal) = back l p e in
        record {
          front = l ∷ later.front;
          lines_are = ap (λ (ls : List Text). l ∷ ls) later.lines_are;
          seen = ap (λ (t : Text). t ∷ map see later.front) first ∙ ap (λ (ts : List Text). line p ∷ ts) later.seen;
          legal = (legal, later.legal);
        }

-- ---- Sheets

-- what the test says that nothing is left
nothing_left_lem : (lines : List Text) (rest : Text) → nothing_left lines rest ≡ true → (lines ≡ []) × (rest ≡ [])
unfolding nothing_left
nothing_left_lem [] [] e = (refl, refl)
nothing_left_lem [] (b ∷ t) e = never (cc)
nothing_left_lem (line ∷ lines) rest e = never (cc)

left_nothing : nothing_left [] [] ≡ true
unfolding nothing_left
left_nothing = refl

-- what is left and what was found, where a sheet is good
sheet_from_lem : (found : Pairs) (rest : Text) (ps : List Pair) → sheet_from found rest ≡ good ps → (found.behind ≡ []) × (rest ≡ []) × (found.pairs ≡ ps)
unfolding sheet_from
sheet_from_lem found rest ps e = go (nothing_left found.behind rest) refl e
  where
    go :
        (test : Bool)
        → nothing_left found.behind rest ≡ test
        → cond test (good found.pairs) (bad (1 + length found.pairs)) ≡ good ps
        → (found.behind ≡ []) × (rest ≡ []) × (found.pairs ≡ ps)
    go true left e = let (last, empty) = nothing_left_lem found.behind rest left in (last, empty, cc)
    go false left e = never (cc)

-- A sheet that is read is what is written from its pairs, and they are all legal.
pub record SheetOf (t : Text) (ps : List Pair) : Type 0 where
  pub text_is : t ≡ write_sheet ps
  pub legal : All LegalPair ps

pub sheet_written : (t : Text) (ps : List Pair) → sheet_of t ≡ good ps → SheetOf t ps
unfolding sheet_of
sheet_written t ps e =
    let found = pairs_of pair_of (lines_of t).ended in
    let f = pairs_back pair_of (λ (l : Text). l) (pair_line semicolon) sheet_back (lines_of t).ended in
    let (last, empty, pairs_are) = sheet_from_lem found (lines_of t).rest ps e in
    let lines_are : (lines_of t).ended ≡ map (pair_line semicolon) ps =
    f.lines_are
    ∙ ap (λ (ls : List Text). f.front ++ ls) last
    ∙ append-nil f.front
    ∙ sym (map-id f.front)
    ∙ f.seen
    ∙ ap (map (pair_line semicolon)) pairs_are in
    record {
      text_is = lines_text t
          ∙ ap (λ (u : Text). with_newlines (lines_of t).ended ++ u) empty
          ∙ append-nil (with_newlines (lines_of t).ended)
          ∙ ap with_newlines lines_are
          ∙ sym (sheet_lines ps);
      legal = subst (All LegalPair) pairs_are f.legal;
    }

-- And a sheet that is written from legal pairs is read as them.
sheet_from_all : (ps : List Pair) → sheet_from (record { pairs = ps; behind = [] }) [] ≡ good ps
unfolding sheet_from
sheet_from_all ps = cond_true (nothing_left [] []) (good ps) (bad (1 + length ps)) left_nothing

no_lines : (form : Text → Option Pair) → pairs_of form [] ≡ record { pairs = []; behind = [] }
unfolding pairs_of
no_lines form = refl

sheet_is_lines : (ps : List Pair) → All LegalPair ps → lines_of (write_sheet ps) ≡ record { ended = map (pair_line semicolon) ps; rest = [] }
sheet_is_lines ps all =
    ap lines_of (sheet_lines ps)
    ∙ lines_read (map (pair_line semicolon) ps) (all_one_line (pair_line semicolon) (pair_one_line semicolon semicolon_apart) ps all)

pub sheet_read : (ps : List Pair) → All LegalPair ps → sheet_of (write_sheet ps) ≡ good ps
unfolding sheet_of
sheet_read ps all =
    let lines = map (pair_line semicolon) ps in
    ap (λ (l : Lines). sheet_from (pairs_of pair_of l.ended) l.rest) (sheet_is_lines ps all)
    ∙ ap (λ (ls : List Text). sheet_from (pairs_of pair_of ls) []) (sym (append-nil lines))
    ∙ ap (λ (found : Pairs). sheet_from found []) (pairs_forth pair_of (pair_line semicolon) sheet_forth [] (no_lines pair_of) ps all)
    ∙ sheet_from_all ps

-- ---- Sections

-- What a section that is read consists of: a first line with the count, lines with the pairs, the last line, and no more.
pub record SectionOf (lines : List Text) (rest : Text) (section : Section) : Type 0 where
  pub first : Text
  pub front : List Text
  pub lines_are : lines ≡ first ∷ (front ++ end_word ∷ [])
  pub rest_is : rest ≡ []
  pub first_is : squeezed first ≡ start_line section.count
  pub small : section.count ≤ max_count
  pub front_is : map squeezed front ≡ map kpx_text section.pairs
  pub legal : All LegalPair section.pairs

-- what the end of a good section is
section_end_lem :
    (n : ℕ) (read : Section) (lines : List Text) (rest : Text) (section : Section)
    → section_end n read lines rest ≡ good section
    → (lines ≡ end_word ∷ []) × (rest ≡ []) × (read ≡ section)
unfolding section_end
section_end_lem n read [] rest section e = never (cc)
section_end_lem n read (line ∷ lines) rest section e = go (same_text line end_word) refl (nothing_left lines rest) refl e
  where
    go :
        (last : Bool)
        → same_text line end_word ≡ last
        → (left : Bool)
        → nothing_left lines rest ≡ left
        → cond last (cond left (good read) (bad (2 + n))) (bad (1 + n)) ≡ good section
        → (line ∷ lines ≡ end_word ∷ []) × (rest ≡ []) × (read ≡ section)
    go true is true left e =
        let (others, empty) = nothing_left_lem lines rest left in
        (ap (λ (l : Text). l ∷ lines) (same_text_eq line end_word is) ∙ ap (λ (ls : List Text). end_word ∷ ls) others, empty, cc)
    go true is false left e = never (cc)
    go false is left same e = never (cc)

section_in_lem : (lines : List Text) (rest : Text) (section : Section) → section_in lines rest ≡ good section → SectionOf lines rest section
unfolding section_in section_from
section_in_lem [] rest section e = never (cc)
section_in_lem (first ∷ lines) rest section e = go (count_of first) refl e
  where
    found : Pairs
    found = pairs_of kpx_of lines

    go : (o : Option ℕ) → count_of first ≡ o → section_from o found rest ≡ good section → SectionOf (first ∷ lines) rest section
    go none count e = never (cc)
    go (some n) count e =
        let f = pairs_back kpx_of squeezed kpx_text kpx_back lines in
        let (first_is, small) = count_back first n count in
        let (behind_is, rest_is, same) = section_end_lem (1 + length found.pairs) (record { count = n; pairs = found.pairs }) found.behind rest section e in
        let count_is : n ≡ section.count = ap (λ (s : Section). s.count) same in
        let pairs_are : found.pairs ≡ section.pairs = ap (λ (s : Section). s.pairs) same in
        record {
          first = first;
          front = f.front;
          lines_are = ap (λ (ls : List Text). first ∷ ls) (f.lines_are ∙ ap (λ (ls : List Text). f.front ++ ls) behind_is);
          rest_is = rest_is;
          first_is = first_is ∙ ap start_line count_is;
          small = omega (arith, small, count_is);
          front_is = f.seen ∙ ap (map kpx_text) pairs_are;
          legal = subst (All LegalPair) pairs_are f.legal;
        }

pub section_of_lem : (t : Text) (section : Section) → section_of t ≡ good section → SectionOf (lines_of t).ended (lines_of t).rest section
unfolding section_of
section_of_lem t section e = section_in_lem (lines_of t).ended (lines_of t).rest section e

-- A section that is read and has as many pairs as its count says is, once its runs of spaces are made one, what is written from its pairs.
lines_section :
    (ps : List Pair) (first : Text) (others : List Text) → first ≡ start_line (length ps) → others ≡ map kpx_text ps ++ end_word ∷ [] → first ∷ others ≡ section_lines ps
unfolding section_lines
lines_section ps first others e f = ap (λ (t : Text). t ∷ others) e ∙ ap (λ (ls : List Text). start_line (length ps) ∷ ls) f

squeezed_text : (t : Text) → (lines_of t).rest ≡ [] → squeezed t ≡ with_newlines (map squeezed (lines_of t).ended)
squeezed_text t e =
    ap squeezed (lines_text t ∙ ap (λ (u : Text). with_newlines (lines_of t).ended ++ u) e ∙ append-nil (with_newlines (lines_of t).ended))
    ∙ squeezed_lines (lines_of t).ended

pub section_written :
    (t : Text) (section : Section) → section_of t ≡ good section → section.count ≡ length section.pairs → squeezed t ≡ write_section section.pairs
section_written t section e count =
    let f = section_of_lem t section e in
    let start : squeezed f.first ≡ start_line (length section.pairs) = f.first_is ∙ ap start_line count in
    let front : map squeezed (f.front ++ end_word ∷ []) ≡ map kpx_text section.pairs ++ end_word ∷ [] =
    map-append squeezed f.front (end_word ∷ [])
    ∙ ap (λ (ls : List Text). ls ++ squeezed end_word ∷ []) f.front_is
    ∙ ap (λ (l : Text). map kpx_text section.pairs ++ l ∷ []) end_squeezed in
    squeezed_text t f.rest_is
    ∙ ap (λ (ls : List Text). with_newlines (map squeezed ls)) f.lines_are
    ∙ ap with_newlines (lines_section section.pairs (squeezed f.first) (map squeezed (f.front ++ end_word ∷ [])) start front)
    ∙ sym (section_lines_lem section.pairs)

-- And a section that is written from legal pairs is read as them, with their number.
section_end_all : (n : ℕ) (section : Section) → section_end n section (end_word ∷ []) [] ≡ good section
unfolding section_end
section_end_all n section =
    cond_true (same_text end_word end_word) (cond (nothing_left [] []) (good section) (bad (2 + n))) (bad (1 + n)) (same_text_refl end_word)
    ∙ cond_true (nothing_left [] []) (good section) (bad (2 + n)) left_nothing

end_stops : pairs_of kpx_of (end_word ∷ []) ≡ record { pairs = []; behind = end_word ∷ [] }
unfolding pairs_of on_pairs
end_stops = ap (λ (o : Option Pair). on_pairs o end_word [] (pairs_of kpx_of [])) end_no_pair

section_in_all :
    (ps : List Pair) → All LegalPair ps → length ps ≤ max_count → section_in (section_lines ps) [] ≡ good (record { count = length ps; pairs = ps })
unfolding section_lines section_in section_from
section_in_all ps all few =
    ap (λ (o : Option ℕ). section_from o (pairs_of kpx_of (map kpx_text ps ++ end_word ∷ [])) []) (count_forth (length ps) few)
    ∙ ap (λ (found : Pairs). section_from (some (length ps)) found []) (pairs_forth kpx_of kpx_text kpx_forth (end_word ∷ []) end_stops ps all)
    ∙ section_end_all (1 + length ps) (record { count = length ps; pairs = ps })

pub section_read :
    (ps : List Pair) → All LegalPair ps → length ps ≤ max_count → section_of (write_section ps) ≡ good (record { count = length ps; pairs = ps })
unfolding section_of
section_read ps all few =
    ap (λ (l : Lines). section_in l.ended l.rest) (ap lines_of (section_lines_lem ps) ∙ lines_read (section_lines ps) (section_one_line ps all few))
    ∙ section_in_all ps all few
