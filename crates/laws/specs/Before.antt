-- The definitions as they were before document 02 (ii) added sets, word for word and without their comments: those of the crate `semantics`
-- that speak of patterns, lenses or trees, where a range was a pattern of its own. What speaks of none of these is not what sets changed, and is
-- today's; so is `take_entry`, for which keys are equal once trailing spaces are cut, as document 02 (iv) has it for all programs, with sets
-- or without. `WithoutSets` holds today's calls to those here; nothing else uses them.
use Rattle.std.specs.Prelude.{Bool, true, false, not, ◌&&◌, ◌||◌, cond, List, [], ◌∷◌, ◌++◌, map, ℕ, zero, suc, ◌+◌, ◌-◌, ◌*◌, max, min, eqb, leb, ltb, length, take, drop, get_or}
use Rattle.std.proofs.Math.Option.{Option, none, some}
use Rattle.std.proofs.Math.ListN.{get_elem?}
use Rattle.semantics.specs.Text.{Text, same_text, least, joined, some_passes, or_else, apply, apply₂}
use Rattle.semantics.specs.Lens.{Side, source, sheet, Entry, Book, take_entry, Writer, and_then, arm_of, write_arm, write_parts, write_match}
use Rattle.semantics.specs.Table.{max_word, max_size, max_positions, two, node_count, sizes_wrong, Node, nodes, pool, Line, line, first_that_holds}
use Rattle.semantics.specs.Calls.{Answer, gives, refuses, refuse_if, max_entries, too_long, output, field}
use Rattle.semantics.specs.Tally.{Meeting, meet_arm, meet_parts, Tally, tallied}

-- ---- Patterns, and the test for membership

pub data Pattern : Type 0 where
  word : Text → Pattern
  range : ℕ → ℕ → Pattern
  concat alt : Pattern → Pattern → Pattern
  star : Pattern → Pattern

unfoldable pub in_range : ℕ → ℕ → ℕ → Bool
in_range first last byte = leb first byte && leb byte last

unfoldable pub nullable : Pattern → Bool
nullable (word []) = true
nullable (word (c ∷ w)) = false
nullable (range first last) = false
nullable (concat r s) = nullable r && nullable s
nullable (alt r s) = nullable r || nullable s
nullable (star r) = true

pub record Head : Type 0 where
  pub first : ℕ
  pub last : ℕ
  pub rest : Pattern

unfoldable pub before : Pattern → Head → Head
before s h = record { first = h.first; last = h.last; rest = concat h.rest s }

unfoldable pub heads : Pattern → List Head
heads (word []) = []
heads (word (c ∷ w)) = record { first = c; last = c; rest = word w } ∷ []
heads (range first last) = record { first = first; last = last; rest = word [] } ∷ []
heads (concat r s) = map (before s) (heads r) ++ cond (nullable r) (heads s) []
heads (alt r s) = heads r ++ heads s
heads (star r) = map (before (star r)) (heads r)

unfoldable pub matches : Pattern → Text → Bool
matches r [] = nullable r
matches r (c ∷ t) = some_passes (λ h. let later = matches h.rest t in in_range h.first h.last c && later) (heads r)

-- ---- The tests of the typing rules

abbrev pub Pair : Type 0
Pair = Pattern × Pattern

unfoldable pub share_byte : Head → Head → Bool
share_byte h k = leb (max h.first k.first) (min h.last k.last)

unfoldable pub next_pairs : Pair → List Pair
next_pairs p = joined (map (λ h. joined (map (λ k. cond (share_byte h k) ((h.rest, k.rest) ∷ []) []) (heads p.1))) (heads p.0))

unfoldable pub same_pattern : Pattern → Pattern → Bool
same_pattern (word w) q = elim q [ word v ↦ same_text w v | range c d ↦ false | concat r s ↦ false | alt r s ↦ false | star r ↦ false ]
same_pattern (range a b) q = elim q [ word v ↦ false | range c d ↦ eqb a c && eqb b d | concat r s ↦ false | alt r s ↦ false | star r ↦ false ]
same_pattern (concat x y) q =
    elim q [ word v ↦ false | range c d ↦ false | concat r s ↦ same_pattern x r && same_pattern y s | alt r s ↦ false | star r ↦ false ]
same_pattern (alt x y) q =
    elim q [ word v ↦ false | range c d ↦ false | concat r s ↦ false | alt r s ↦ same_pattern x r && same_pattern y s | star r ↦ false ]
same_pattern (star x) q = elim q [ word v ↦ false | range c d ↦ false | concat r s ↦ false | alt r s ↦ false | star r ↦ same_pattern x r ]

unfoldable pub same_pair : Pair → Pair → Bool
same_pair p q = same_pattern p.0 q.0 && same_pattern p.1 q.1

unfoldable pub visit : (List Pair → List Pair → List Pair) → List Pair → List Pair → List Pair
visit go seen [] = seen
visit go seen (p ∷ due) =
    let skipped = visit go seen due in
    let added = go (p ∷ seen) (next_pairs p ++ due) in
    cond (some_passes (same_pair p) seen) skipped added

unfoldable pub explore : ℕ → List Pair → List Pair → List Pair
explore zero seen due = seen
explore (suc n) seen due = visit (explore n) seen due

unfoldable pub word_rests : Text → List Pattern
word_rests [] = []
word_rests (c ∷ w) = word w ∷ word_rests w

unfoldable pub rests : Pattern → List Pattern
rests (word w) = word_rests w
rests (range first last) = word [] ∷ []
rests (concat r s) = map (λ k. concat k s) (rests r) ++ rests s
rests (alt r s) = rests r ++ rests s
rests (star r) = map (λ k. concat k (star r)) (rests r)

unfoldable pub states : Pattern → List Pattern
states r = r ∷ rests r

unfoldable pub reached : Pattern → Pattern → List Pair → List Pair
reached r s starts = let n = length (states r ++ states s) in explore (suc (n * n)) [] starts

unfoldable pub both_end : Pair → Bool
both_end p = nullable p.0 && nullable p.1

unfoldable pub overlaps : Pattern → Pattern → Bool
overlaps r s = some_passes both_end (reached r s ((r, s) ∷ []))

unfoldable pub onward : (Pattern → List Pair) → List Pair → List Pair
onward f ps = joined (map (λ p. cond (nullable p.0) (f p.1) []) ps)

unfoldable pub two_cuts : Pattern → Pattern → Bool
two_cuts r s =
    let u = reached r s ((r, r) ∷ []) in
    let x = reached r s (onward (λ p. next_pairs (p, s)) u) in
    let v = reached r s (onward (λ p. (p, s) ∷ []) x) in
    some_passes both_end v

unfoldable pub bad_repeat : Pattern → Bool
bad_repeat r = nullable r || two_cuts r (star r)

-- ---- Lenses

pub data Lens : Type 0 where
  copy : Pattern → Lens
  const : Pattern → Text → Text → Lens
  key : Pattern → Lens
  join union : Lens → Lens → Lens
  repeat : Lens → Lens
  match : ℕ → Lens → Lens

unfoldable pub const_language : Side → Pattern → Text → Pattern
const_language source r w = r
const_language sheet r w = word w

unfoldable pub language : Side → Lens → Pattern
language side (copy r) = r
language side (const r w d) = const_language side r w
language side (key r) = r
language side (join l m) = concat (language side l) (language side m)
language side (union l m) = alt (language side l) (language side m)
language side (repeat l) = star (language side l)
language side (match n l) = language side l

unfoldable pub cut_at : Pattern → Pattern → Text → ℕ
cut_at r s t = least (length t) (λ i. matches r (take i t) && matches s (drop i t))

unfoldable pub parts_within : ℕ → Pattern → Text → List Text
parts_within zero r t = []
parts_within (suc n) r [] = []
parts_within (suc n) r (c ∷ t) =
    let i = least (length t) (λ j. matches r (c ∷ take j t) && matches (star r) (drop j t)) in
    (c ∷ take i t) ∷ parts_within n r (drop i t)

unfoldable pub parts : Pattern → Text → List Text
parts r t = parts_within (length t) r t

unfoldable pub get : Lens → Text → Text
get (copy r) t = t
get (const r w d) t = w
get (key r) t = t
get (join l m) t = let i = cut_at (language source l) (language source m) t in get l (take i t) ++ get m (drop i t)
get (union l m) t = cond (matches (language source l) t) (get l t) (get m t)
get (repeat l) t = joined (map (get l) (parts (language source l) t))
get (match n l) t = get l t

unfoldable pub key_of : Lens → Text → Text
key_of (copy r) t = []
key_of (const r w d) t = []
key_of (key r) t = t
key_of (join l m) t = let i = cut_at (language sheet l) (language sheet m) t in key_of l (take i t) ++ key_of m (drop i t)
key_of (union l m) t = cond (matches (language sheet l) t) (key_of l t) (key_of m t)
key_of (repeat l) t = joined (map (key_of l) (parts (language sheet l) t))
key_of (match n l) t = key_of l t

unfoldable pub entry_of : ℕ → Lens → Text → Entry
entry_of n l t = record { child = n; key_text = key_of l (get l t); text = t }

unfoldable pub entries : Lens → Text → Book
entries (copy r) t = []
entries (const r w d) t = []
entries (key r) t = []
entries (join l m) t = let i = cut_at (language source l) (language source m) t in entries l (take i t) ++ entries m (drop i t)
entries (union l m) t = cond (matches (language source l) t) (entries l t) (entries m t)
entries (repeat l) t = joined (map (entries l) (parts (language source l) t))
entries (match n l) t = entry_of n l t ∷ []

unfoldable pub write : Lens → Writer
write (copy r) old a b = record { text = a; book = b }
write (const r w d) old a b = record { text = or_else d old; book = b }
write (key r) old a b = record { text = a; book = b }
write (join l m) old a b =
    let i = cut_at (language sheet l) (language sheet m) a in
    let j = or_else 0 (apply (cut_at (language source l) (language source m)) old) in
    and_then (write l (apply (take j) old) (take i a) b) (write m (apply (drop j) old) (drop i a))
write (union l m) old a b =
    let arm = arm_of (apply (matches (language source l)) old) (matches (language sheet l) a) (matches (language sheet m) a) in
    write_arm (write l) (write m) arm old a b
write (repeat l) old a b = write_parts (write l) (or_else [] (apply (parts (language source l)) old)) (parts (language sheet l) a) b
write (match n l) old a b = write_match (write l) a (take_entry n (key_of l a) b)

unfoldable pub put : Lens → Text → Text → Text
put l a old = (write l (some old) a (entries l old)).text

unfoldable pub create : Lens → Text → Text
create l a = (write l none a []).text

-- ---- Kinds and trees

pub data Kind : Type 0 where
  Word Range PatternJoin PatternUnion PatternRepeat Copy Const Key LensJoin LensUnion LensRepeat Match : Kind

unfoldable pub kind_of : ℕ → Option Kind
kind_of k =
    cond
    (ltb k 16)
    (get_elem? (Word ∷ Range ∷ PatternJoin ∷ PatternUnion ∷ PatternRepeat ∷ []) k)
    (get_elem? (Copy ∷ Const ∷ Key ∷ LensJoin ∷ LensUnion ∷ LensRepeat ∷ Match ∷ []) (k - 16))

pub data Tree : Type 0 where
  pattern : Pattern → Tree
  lens : Lens → Tree
  broken : Tree

abbrev pub Trees : Type 0
Trees = List Tree

unfoldable pub pattern_of : Tree → Option Pattern
pattern_of (pattern r) = some r
pattern_of (lens l) = none
pattern_of broken = none

unfoldable pub lens_of : Tree → Option Lens
lens_of (pattern r) = none
lens_of (lens l) = some l
lens_of broken = none

unfoldable pub word_of : Tree → Option Text
word_of (pattern (word w)) = some w
word_of (pattern (range f l)) = none
word_of (pattern (concat r s)) = none
word_of (pattern (alt r s)) = none
word_of (pattern (star r)) = none
word_of (lens l) = none
word_of broken = none

unfoldable pub tree_at : Trees → ℕ → Tree
tree_at ts k = get_or ts k broken

unfoldable pub pattern_at : Trees → ℕ → Option Pattern
pattern_at ts k = pattern_of (tree_at ts k)

unfoldable pub lens_at : Trees → ℕ → Option Lens
lens_at ts k = lens_of (tree_at ts k)

unfoldable pub word_at : Trees → ℕ → Option Text
word_at ts k = word_of (tree_at ts k)

unfoldable pub provided : Bool → Option Tree → Tree
provided keeps t = cond keeps (or_else broken t) broken

unfoldable pub build : Text → Trees → Kind → ℕ → ℕ → ℕ → Tree
build bytes ts Word a b c =
    provided (leb c max_word && leb (two a b + c) (length bytes)) (some (pattern (word (take c (drop (two a b) bytes)))))
build bytes ts Range a b c = provided (leb a b && eqb c 0) (some (pattern (range a b)))
build bytes ts PatternJoin a b c = provided (eqb c 0) (apply₂ (λ r s. pattern (concat r s)) (pattern_at ts a) (pattern_at ts b))
build bytes ts PatternUnion a b c = provided (eqb c 0) (apply₂ (λ r s. pattern (alt r s)) (pattern_at ts a) (pattern_at ts b))
build bytes ts PatternRepeat a b c = provided (eqb b 0 && eqb c 0) (apply (λ r. pattern (star r)) (pattern_at ts a))
build bytes ts Copy a b c = provided (eqb b 0 && eqb c 0) (apply (λ r. lens (copy r)) (pattern_at ts a))
build bytes ts Const a b c =
    provided true (apply₂ (λ (f : Text → Lens) d. lens (f d)) (apply₂ (λ r w d. const r w d) (pattern_at ts a) (word_at ts b)) (word_at ts c))
build bytes ts Key a b c = provided (eqb b 0 && eqb c 0) (apply (λ r. lens (key r)) (pattern_at ts a))
build bytes ts LensJoin a b c = provided (eqb c 0) (apply₂ (λ l m. lens (join l m)) (lens_at ts a) (lens_at ts b))
build bytes ts LensUnion a b c = provided (eqb c 0) (apply₂ (λ l m. lens (union l m)) (lens_at ts a) (lens_at ts b))
build bytes ts LensRepeat a b c = provided (eqb b 0 && eqb c 0) (apply (λ l. lens (repeat l)) (lens_at ts a))
build bytes ts Match a b c = provided (eqb b 0 && eqb c 0) (apply (λ l. lens (match a l)) (lens_at ts a))

unfoldable pub tree_of : Text → Trees → Node → Tree
tree_of bytes ts n = or_else broken (apply (λ k. build bytes ts k n.a n.b n.c) (kind_of n.kind))

unfoldable pub trees_from : Text → Trees → List Node → Trees
trees_from bytes ts [] = ts
trees_from bytes ts (n ∷ ns) = trees_from bytes (ts ++ tree_of bytes ts n ∷ []) ns

unfoldable pub trees : Text → Trees
trees bytes = trees_from (pool bytes) [] (nodes bytes)

-- ---- Sizes and positions

unfoldable pub pattern_size : Pattern → ℕ
pattern_size (word w) = 1
pattern_size (range f l) = 1
pattern_size (concat r s) = 1 + pattern_size r + pattern_size s
pattern_size (alt r s) = 1 + pattern_size r + pattern_size s
pattern_size (star r) = 1 + pattern_size r

unfoldable pub lens_size : Lens → ℕ
lens_size (copy r) = 1 + pattern_size r
lens_size (const r w d) = 1 + pattern_size r + 1 + 1
lens_size (key r) = 1 + pattern_size r
lens_size (join l m) = 1 + lens_size l + lens_size m
lens_size (union l m) = 1 + lens_size l + lens_size m
lens_size (repeat l) = 1 + lens_size l
lens_size (match n l) = 1 + lens_size l

unfoldable pub positions : Pattern → ℕ
positions (word w) = length w
positions (range f l) = 1
positions (concat r s) = positions r + positions s
positions (alt r s) = positions r + positions s
positions (star r) = positions r

unfoldable pub tree_positions : Side → Tree → ℕ
tree_positions side (pattern r) = positions r
tree_positions side (lens l) = positions (language side l)
tree_positions side broken = 0

unfoldable pub tree_size : Tree → ℕ
tree_size (pattern r) = pattern_size r
tree_size (lens l) = lens_size l
tree_size broken = 0

unfoldable pub holds_match : Lens → Bool
holds_match (copy r) = false
holds_match (const r w d) = false
holds_match (key r) = false
holds_match (join l m) = holds_match l || holds_match m
holds_match (union l m) = holds_match l || holds_match m
holds_match (repeat l) = holds_match l
holds_match (match n l) = true

-- ---- The lines of the table of refusals

unfoldable pub unknown_kind : Node → Bool
unknown_kind n = or_else true (apply (λ k. false) (kind_of n.kind))

unfoldable pub is_broken : Tree → Bool
is_broken (pattern r) = false
is_broken (lens l) = false
is_broken broken = true

unfoldable pub nested_match : Lens → Bool
nested_match (copy r) = false
nested_match (const r w d) = false
nested_match (key r) = false
nested_match (join l m) = false
nested_match (union l m) = false
nested_match (repeat l) = false
nested_match (match n l) = holds_match l

unfoldable pub nested : Tree → Bool
nested (pattern r) = false
nested (lens l) = nested_match l
nested broken = false

unfoldable pub over_limit : Tree → Bool
over_limit t = ltb max_size (tree_size t) || ltb max_positions (tree_positions source t) || ltb max_positions (tree_positions sheet t)

unfoldable pub first_round : ℕ → List Node → Trees → List Line
first_round k [] ts = []
first_round k (n ∷ ns) [] = []
first_round k (n ∷ ns) (t ∷ ts) =
    line 2 k (unknown_kind n) ∷ line 3 k (is_broken t) ∷ line 4 k (nested t) ∷ line 5 k (over_limit t) ∷ first_round (suc k) ns ts

unfoldable pub root_of : Text → Option Lens
root_of bytes = lens_at (trees bytes) (node_count bytes - 1)

unfoldable pub root_line : Text → Line
root_line bytes = line 3 (node_count bytes - 1) (or_else true (apply (λ l. false) (root_of bytes)))

unfoldable pub typing_lines : ℕ → Lens → List Line
typing_lines k (copy r) = []
typing_lines k (const r w d) = line 6 k (not (matches r d)) ∷ []
typing_lines k (key r) = []
typing_lines k (join l m) =
    line 7 k (two_cuts (language source l) (language source m)) ∷ line 8 k (two_cuts (language sheet l) (language sheet m)) ∷ []
typing_lines k (union l m) = line 9 k (overlaps (language source l) (language source m)) ∷ []
typing_lines k (repeat l) = line 10 k (bad_repeat (language source l)) ∷ line 11 k (bad_repeat (language sheet l)) ∷ []
typing_lines k (match n l) = []

unfoldable pub tree_lines : ℕ → Tree → List Line
tree_lines k (pattern r) = []
tree_lines k (lens l) = typing_lines k l
tree_lines k broken = []

unfoldable pub second_round : ℕ → Trees → List Line
second_round k [] = []
second_round k (t ∷ ts) = tree_lines k t ++ second_round (suc k) ts

unfoldable pub lines : Text → List Line
lines bytes = line 1 0 (sizes_wrong bytes) ∷ first_round 0 (nodes bytes) (trees bytes) ++ root_line bytes ∷ second_round 0 (trees bytes)

-- ---- The calls

unfoldable pub root_answer : Option Lens → Answer Lens
root_answer none = refuses 3 0
root_answer (some l) = gives l

unfoldable pub verdict : Option Line → Option Lens → Answer Lens
verdict (some l) root = refuses l.number l.node
verdict none root = root_answer root

unfoldable pub program : Text → Answer Lens
program bytes = verdict (first_that_holds (lines bytes)) (root_of bytes)

unfoldable pub with_program : {A : Type 0} → Answer Lens → (Lens → Answer A) → Answer A
with_program (gives l) call = call l
with_program (refuses number node) call = refuses number node

unfoldable pub not_of : Side → Lens → Text → Bool
not_of side l t = not (matches (language side l) t)

unfoldable pub check_call : Text → Answer ℕ
check_call bytes = with_program (program bytes) (λ l. gives (node_count bytes))

unfoldable pub get_call : Text → Text → ℕ → Answer Text
get_call bytes t lent =
    with_program (program bytes) (λ l. refuse_if (too_long t) 12 (refuse_if (not_of source l t) 13 (output lent (get l t))))

unfoldable pub put_call : Text → Text → Text → ℕ → Answer Text
put_call bytes a old lent =
    with_program
    (program bytes)
    (λ l.
    refuse_if
    (too_long a || too_long old)
    12
    (refuse_if (not_of source l old) 13 (refuse_if (not_of sheet l a) 14 (refuse_if (ltb max_entries (length (entries l old))) 15 (output lent (put l a old))))))

unfoldable pub create_call : Text → Text → ℕ → Answer Text
create_call bytes a lent =
    with_program (program bytes) (λ l. refuse_if (too_long a) 12 (refuse_if (not_of sheet l a) 14 (output lent (create l a))))

unfoldable pub program_line : Text → Answer Lens → Text
program_line bytes (gives l) =
    (111 ∷ 107 ∷ []) ++ field (node_count bytes) ++ field (tree_positions source (lens l)) ++ field (tree_positions sheet (lens l)) ++ 10 ∷ []
program_line bytes (refuses number node) = (114 ∷ 101 ∷ 102 ∷ 117 ∷ 115 ∷ 101 ∷ 100 ∷ []) ++ field number ++ field node ++ 10 ∷ []

unfoldable pub lenscheck_line : Text → Text
lenscheck_line bytes = program_line bytes (program bytes)

-- ---- The counts of a put

unfoldable pub met : Lens → Meeting
met (copy r) old a = []
met (const r w d) old a = []
met (key r) old a = []
met (join l m) old a =
    let i = cut_at (language sheet l) (language sheet m) a in
    let j = or_else 0 (apply (cut_at (language source l) (language source m)) old) in
    met l (apply (take j) old) (take i a) ++ met m (apply (drop j) old) (drop i a)
met (union l m) old a =
    let arm = arm_of (apply (matches (language source l)) old) (matches (language sheet l) a) (matches (language sheet m) a) in
    meet_arm (met l) (met m) arm old a
met (repeat l) old a = meet_parts (met l) (or_else [] (apply (parts (language source l)) old)) (parts (language sheet l) a)
met (match n l) old a = record { child = n; key_text = key_of l a } ∷ []

unfoldable pub tally : Lens → Text → Text → Tally
tally l a old = tallied (met l (some old) a) (entries l old)

unfoldable pub tally_of : Answer Lens → Text → Text → Tally
tally_of (gives l) a old = tally l a old
tally_of (refuses number node) a old = record { kept = 0; made = 0; dropped = 0 }

unfoldable pub put_tally : Text → Text → Text → Tally
put_tally bytes a old = tally_of (program bytes) a old
