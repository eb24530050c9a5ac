-- The program table: from bytes to trees, and the lines 1 to 11 of document 01's table of refusals.
use Rattle.std.specs.Prelude.{Bool, true, false, not, ◌&&◌, ◌||◌, cond, List, [], ◌∷◌, ◌++◌, map, ℕ, zero, suc, ◌+◌, ◌-◌, ◌*◌, eqb, leb, ltb, length, take, drop, get_or}
use Rattle.std.proofs.Math.Option.{Option, none, some}
use Rattle.std.proofs.Math.ListN.{get_elem?}
use Rattle.semantics.specs.Text.{Text, some_passes, or_else, apply, apply₂}
use Rattle.semantics.specs.Pattern.{Run, Class, range, Pattern, word, one_of, concat, alt, star, matches}
use Rattle.semantics.specs.Ambiguity.{overlaps, two_cuts, bad_repeat}
use Rattle.semantics.specs.Lens.{Lens, copy, const, key, join, union, repeat, match, Side, source, sheet, language}

-- 'The limits belong to the program table'
abbrev pub max_nodes : ℕ
max_nodes = 96

abbrev pub max_pool : ℕ
max_pool = 512

abbrev pub max_word : ℕ
max_word = 64

-- Document 02 (ii): 'c pairs, 1 to 32'
abbrev pub max_runs : ℕ
max_runs = 32

abbrev pub max_size : ℕ
max_size = 512

abbrev pub max_positions : ℕ
max_positions = 128

-- ---- Sizes first, then two parallel arrays, then the pool

unfoldable pub at : Text → ℕ → ℕ
at bytes i = get_or bytes i 0

-- two bytes, high byte first
unfoldable pub two : ℕ → ℕ → ℕ
two high low = 256 * high + low

-- 'node count N (one byte ..), pool length P (two bytes, high byte first ..)'
unfoldable pub node_count : Text → ℕ
node_count bytes = at bytes 0

unfoldable pub pool_length : Text → ℕ
pool_length bytes = two (at bytes 1) (at bytes 2)

-- line 1: 'N, P or total length wrong'
unfoldable pub sizes_wrong : Text → Bool
sizes_wrong bytes =
    let n = node_count bytes in
    let p = pool_length bytes in
    ltb (length bytes) 3 || eqb n 0 || ltb max_nodes n || ltb max_pool p || not (eqb (length bytes) (3 + 4 * n + p))

-- a node as it stands in the table: its kind byte and its operand record
pub record Node : Type 0 where
  pub kind : ℕ
  pub a : ℕ
  pub b : ℕ
  pub c : ℕ

unfoldable pub node_at : Text → ℕ → Node
node_at bytes k =
    let record-at = 3 + node_count bytes + 3 * k in
    record { kind = at bytes (3 + k); a = at bytes record-at; b = at bytes (record-at + 1); c = at bytes (record-at + 2) }

-- 0, 1, .., n - 1
unfoldable pub below : ℕ → List ℕ
below zero = []
below (suc n) = below n ++ n ∷ []

unfoldable pub nodes : Text → List Node
nodes bytes = map (node_at bytes) (below (node_count bytes))

unfoldable pub pool : Text → Text
pool bytes = drop (3 + 4 * node_count bytes) bytes

-- ---- Kinds, and the tree of a node

pub data Kind : Type 0 where
  Word Range PatternJoin PatternUnion PatternRepeat Set Copy Const Key LensJoin LensUnion LensRepeat Match : Kind

-- 'Kinds 0 to 4 are patterns, 16 to 22 lenses.' Document 02 (ii): 'Add pattern kind 5'
unfoldable pub kind_of : ℕ → Option Kind
kind_of k =
    cond
    (ltb k 16)
    (get_elem? (Word ∷ Range ∷ PatternJoin ∷ PatternUnion ∷ PatternRepeat ∷ Set ∷ []) k)
    (get_elem? (Copy ∷ Const ∷ Key ∷ LensJoin ∷ LensUnion ∷ LensRepeat ∷ Match ∷ []) (k - 16))

-- a node that breaks a rule on kinds or operands is broken
pub data Tree : Type 0 where
  pattern : Pattern → Tree
  lens : Lens → Tree
  broken : Tree

-- The trees of the nodes so far, in order. A child must have a lower number than its parent, so it stands in the list.
abbrev pub Trees : Type 0
Trees = List Tree

unfoldable pub pattern_of : Tree → Option Pattern
pattern_of (pattern r) = some r
pattern_of (lens l) = none
pattern_of broken = none

unfoldable pub lens_of : Tree → Option Lens
lens_of (pattern r) = none
lens_of (lens l) = some l
lens_of broken = none

unfoldable pub word_of : Tree → Option Text
word_of (pattern (word w)) = some w
word_of (pattern (one_of c)) = none
word_of (pattern (concat r s)) = none
word_of (pattern (alt r s)) = none
word_of (pattern (star r)) = none
word_of (lens l) = none
word_of broken = none

unfoldable pub tree_at : Trees → ℕ → Tree
tree_at ts k = get_or ts k broken

unfoldable pub pattern_at : Trees → ℕ → Option Pattern
pattern_at ts k = pattern_of (tree_at ts k)

unfoldable pub lens_at : Trees → ℕ → Option Lens
lens_at ts k = lens_of (tree_at ts k)

unfoldable pub word_at : Trees → ℕ → Option Text
word_at ts k = word_of (tree_at ts k)

-- the tree, where the rule on the operands is kept
unfoldable pub provided : Bool → Option Tree → Tree
provided keeps t = cond keeps (or_else broken t) broken

-- Document 02 (ii): 'pairs .. each a first and a last byte', as they stand in the pool
unfoldable pub runs_of : Text → Class
runs_of [] = []
runs_of (first ∷ []) = []
runs_of (first ∷ last ∷ more) = record { first = first; last = last } ∷ runs_of more

-- 'A reversed pair'
unfoldable pub reversed : Run → Bool
reversed r = ltb r.last r.first

-- 'pool start in a (high) and b (low), and c pairs'
unfoldable pub set_part : Text → ℕ → ℕ → ℕ → Class
set_part bytes a b c = runs_of (take (2 * c) (drop (two a b) bytes))

-- 'c pairs, 1 to 32'; 'A reversed pair or a part outside the pool gets the operand's number.'
unfoldable pub set_keeps : Text → ℕ → ℕ → ℕ → Bool
set_keeps bytes a b c =
    leb 1 c && leb c max_runs && leb (two a b + 2 * c) (length bytes) && not (some_passes reversed (set_part bytes a b c))

-- Document 01's table of kinds, row by row, with its rules on operands; 'Unused operand bytes are 0.' The row of sets is document 02's.
unfoldable pub build : Text → Trees → Kind → ℕ → ℕ → ℕ → Tree
build bytes ts Word a b c =
    provided (leb c max_word && leb (two a b + c) (length bytes)) (some (pattern (word (take c (drop (two a b) bytes)))))
build bytes ts Range a b c = provided (leb a b && eqb c 0) (some (pattern (one_of (range a b))))
build bytes ts PatternJoin a b c = provided (eqb c 0) (apply₂ (λ r s. pattern (concat r s)) (pattern_at ts a) (pattern_at ts b))
build bytes ts PatternUnion a b c = provided (eqb c 0) (apply₂ (λ r s. pattern (alt r s)) (pattern_at ts a) (pattern_at ts b))
build bytes ts PatternRepeat a b c = provided (eqb b 0 && eqb c 0) (apply (λ r. pattern (star r)) (pattern_at ts a))
build bytes ts Set a b c = provided (set_keeps bytes a b c) (some (pattern (one_of (set_part bytes a b c))))
build bytes ts Copy a b c = provided (eqb b 0 && eqb c 0) (apply (λ r. lens (copy r)) (pattern_at ts a))
build bytes ts Const a b c =
    provided true (apply₂ (λ (f : Text → Lens) d. lens (f d)) (apply₂ (λ r w d. const r w d) (pattern_at ts a) (word_at ts b)) (word_at ts c))
build bytes ts Key a b c = provided (eqb b 0 && eqb c 0) (apply (λ r. lens (key r)) (pattern_at ts a))
build bytes ts LensJoin a b c = provided (eqb c 0) (apply₂ (λ l m. lens (join l m)) (lens_at ts a) (lens_at ts b))
build bytes ts LensUnion a b c = provided (eqb c 0) (apply₂ (λ l m. lens (union l m)) (lens_at ts a) (lens_at ts b))
build bytes ts LensRepeat a b c = provided (eqb b 0 && eqb c 0) (apply (λ l. lens (repeat l)) (lens_at ts a))
build bytes ts Match a b c = provided (eqb b 0 && eqb c 0) (apply (λ l. lens (match a l)) (lens_at ts a))

unfoldable pub tree_of : Text → Trees → Node → Tree
tree_of bytes ts n = or_else broken (apply (λ k. build bytes ts k n.a n.b n.c) (kind_of n.kind))

-- each node's tree is made from the trees before it
unfoldable pub trees_from : Text → Trees → List Node → Trees
trees_from bytes ts [] = ts
trees_from bytes ts (n ∷ ns) = trees_from bytes (ts ++ tree_of bytes ts n ∷ []) ns

unfoldable pub trees : Text → Trees
trees bytes = trees_from (pool bytes) [] (nodes bytes)

-- ---- Sizes and positions

-- 'Written-out size counts a node and, for every operand, its child's size again.'
unfoldable pub pattern_size : Pattern → ℕ
pattern_size (word w) = 1
pattern_size (one_of c) = 1
pattern_size (concat r s) = 1 + pattern_size r + pattern_size s
pattern_size (alt r s) = 1 + pattern_size r + pattern_size s
pattern_size (star r) = 1 + pattern_size r

-- const's operands b and c are words, of size 1 each
unfoldable pub lens_size : Lens → ℕ
lens_size (copy r) = 1 + pattern_size r
lens_size (const r w d) = 1 + pattern_size r + 1 + 1
lens_size (key r) = 1 + pattern_size r
lens_size (join l m) = 1 + lens_size l + lens_size m
lens_size (union l m) = 1 + lens_size l + lens_size m
lens_size (repeat l) = 1 + lens_size l
lens_size (match n l) = 1 + lens_size l

-- 'Positions: a word has its length, a range 1, other patterns the sum over their children.' A set 'counts as one position'.
unfoldable pub positions : Pattern → ℕ
positions (word w) = length w
positions (one_of c) = 1
positions (concat r s) = positions r + positions s
positions (alt r s) = positions r + positions s
positions (star r) = positions r

-- 'On the source side const counts its pattern, on the sheet side its word b; other lenses sum their children': that is the number of
-- positions of the side's language.
unfoldable pub tree_positions : Side → Tree → ℕ
tree_positions side (pattern r) = positions r
tree_positions side (lens l) = positions (language side l)
tree_positions side broken = 0

unfoldable pub tree_size : Tree → ℕ
tree_size (pattern r) = pattern_size r
tree_size (lens l) = lens_size l
tree_size broken = 0

unfoldable pub holds_match : Lens → Bool
holds_match (copy r) = false
holds_match (const r w d) = false
holds_match (key r) = false
holds_match (join l m) = holds_match l || holds_match m
holds_match (union l m) = holds_match l || holds_match m
holds_match (repeat l) = holds_match l
holds_match (match n l) = true

-- ---- The lines of the table of refusals

pub record Line : Type 0 where
  pub number : ℕ
  pub node : ℕ
  pub holds : Bool

unfoldable pub line : ℕ → ℕ → Bool → Line
line number node holds = record { number = number; node = node; holds = holds }

unfoldable pub unknown_kind : Node → Bool
unknown_kind n = or_else true (apply (λ k. false) (kind_of n.kind))

unfoldable pub is_broken : Tree → Bool
is_broken (pattern r) = false
is_broken (lens l) = false
is_broken broken = true

-- 'match whose child holds a match'
unfoldable pub nested_match : Lens → Bool
nested_match (copy r) = false
nested_match (const r w d) = false
nested_match (key r) = false
nested_match (join l m) = false
nested_match (union l m) = false
nested_match (repeat l) = false
nested_match (match n l) = holds_match l

unfoldable pub nested : Tree → Bool
nested (pattern r) = false
nested (lens l) = nested_match l
nested broken = false

-- 'a size or position limit passed'
unfoldable pub over_limit : Tree → Bool
over_limit t = ltb max_size (tree_size t) || ltb max_positions (tree_positions source t) || ltb max_positions (tree_positions sheet t)

-- 'First round, each node'. A node of unknown kind is broken too; its line 2 comes first.
unfoldable pub first_round : ℕ → List Node → Trees → List Line
first_round k [] ts = []
first_round k (n ∷ ns) [] = []
first_round k (n ∷ ns) (t ∷ ts) =
    line 2 k (unknown_kind n) ∷ line 3 k (is_broken t) ∷ line 4 k (nested t) ∷ line 5 k (over_limit t) ∷ first_round (suc k) ns ts

unfoldable pub root_of : Text → Option Lens
root_of bytes = lens_at (trees bytes) (node_count bytes - 1)

-- 'After it: root is no lens (node N - 1)'
unfoldable pub root_line : Text → Line
root_line bytes = line 3 (node_count bytes - 1) (or_else true (apply (λ l. false) (root_of bytes)))

-- 'Second round, each node': the typing rules
unfoldable pub typing_lines : ℕ → Lens → List Line
typing_lines k (copy r) = []
typing_lines k (const r w d) = line 6 k (not (matches r d)) ∷ []
typing_lines k (key r) = []
typing_lines k (join l m) =
    line 7 k (two_cuts (language source l) (language source m)) ∷ line 8 k (two_cuts (language sheet l) (language sheet m)) ∷ []
typing_lines k (union l m) = line 9 k (overlaps (language source l) (language source m)) ∷ []
typing_lines k (repeat l) = line 10 k (bad_repeat (language source l)) ∷ line 11 k (bad_repeat (language sheet l)) ∷ []
typing_lines k (match n l) = []

unfoldable pub tree_lines : ℕ → Tree → List Line
tree_lines k (pattern r) = []
tree_lines k (lens l) = typing_lines k l
tree_lines k broken = []

unfoldable pub second_round : ℕ → Trees → List Line
second_round k [] = []
second_round k (t ∷ ts) = tree_lines k t ++ second_round (suc k) ts

-- The lines 1 to 11, in the order in which the places are passed.
unfoldable pub lines : Text → List Line
lines bytes = line 1 0 (sizes_wrong bytes) ∷ first_round 0 (nodes bytes) (trees bytes) ++ root_line bytes ∷ second_round 0 (trees bytes)

unfoldable pub first_that_holds : List Line → Option Line
first_that_holds [] = none
first_that_holds (l ∷ ls) = let later = first_that_holds ls in cond l.holds (some l) later
