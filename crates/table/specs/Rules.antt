-- The first round as the reader goes through it, node by node: the tests on operands, the number of a node's refusal, and the records that
-- its functions promise or ask.
use Rattle.std.specs.Prelude.{◌≡◌, Bool, true, false, ◌&&◌, ◌||◌, cond, List, ℕ, ◌+◌, ◌*◌, ◌≤◌, ◌<◌, eqb, leb, ltb, length, get_or, MatchOption, Result, Ok, Err}
use Rattle.std.specs.Prelude as P
use Rattle.std.proofs.Math.Option.{Option, none, some}
use Rattle.semantics.specs.Text.{Text}
use Rattle.semantics.specs.Lens.{source, sheet}
use Rattle.semantics.specs.Table.{two, node_count, pool_length, sizes_wrong, node_at, pool, set_keeps, trees, Tree, Trees, pattern, lens, broken, tree_at, pattern_at, lens_at, word_at, tree_size, tree_positions, is_broken, nested, over_limit, unknown_kind, max_word, max_size, max_positions, first_that_holds}
use Rattle.semantics.specs.Table as S
use Rattle.table.specs.declared.Refusal.{Refusal}
use Rattle.table.specs.declared.Kind.{Kind}
use Rattle.table.specs.declared.Kind.TheVariants.{Word, OneOf, PatternJoin, PatternUnion, PatternRepeat, Copy, Const, Key, LensJoin, LensUnion, LensRepeat, Match}
use Rattle.table.specs.declared.Node.{Node}
use Rattle.table.specs.declared.Sort.{Sort}
use Rattle.table.specs.declared.Sort.TheVariants.{Patterns, Lenses}
use Rattle.table.specs.declared.tags.Tag.{Tag}
use Rattle.table.specs.declared.tags.Tag.TheVariants as T
use Rattle.table.specs.declared.operands.Operands.{Operands}
use Rattle.table.specs.Prepared.{TableAnswer, refusal, Sized, Shows, table_lines, table_answer}

-- ---- What is known on the way

-- The sizes are right, and node k is one of the table's.
pub record Within (bytes : Text) (k : ℕ) : Type 0 where
  pub sizes_right : sizes_wrong bytes ≡ false
  pub inside : k < node_count bytes

-- The sizes are right, and the first k nodes keep the rules on kinds and operands.
pub record Whole (bytes : Text) (k : ℕ) : Type 0 where
  pub sizes_right : sizes_wrong bytes ≡ false
  pub inside : k ≤ node_count bytes
  pub each : (j : ℕ) → j < k → is_broken (tree_at (trees bytes) j) ≡ false

-- The first k nodes are sized, node k is one of the table's, and the prepared program has room for all.
pub record SizedBelow (bytes : Text) (k : ℕ) (prepared : List ℕ) : Type 0 where
  pub inside : k < node_count bytes
  pub room : 1536 ≤ length prepared
  pub sized : Sized bytes k prepared

-- Every node of the table is sized, and the prepared program has room for all.
pub record AllSized (bytes : Text) (prepared : List ℕ) : Type 0 where
  pub room : 1536 ≤ length prepared
  pub sized : Sized bytes (node_count bytes) prepared

-- ---- Kinds by their tags

-- the kind that a tag names
unfoldable pub named : Tag → S.Kind
named T.Word = S.Word
named T.Range = S.Range
named T.PatternJoin = S.PatternJoin
named T.PatternUnion = S.PatternUnion
named T.PatternRepeat = S.PatternRepeat
named T.Set = S.Set
named T.Copy = S.Copy
named T.Const = S.Const
named T.Key = S.Key
named T.LensJoin = S.LensJoin
named T.LensUnion = S.LensUnion
named T.LensRepeat = S.LensRepeat
named T.Match = S.Match

abbrev pub FoundTag : Type 0
FoundTag = P.Option Tag

-- A tag names that kind; there is none where there is no such kind.
abbrev pub Named : Option S.Kind → FoundTag → Type 0
Named κ r = MatchOption r (κ ≡ none) (λ tag. κ ≡ some (named tag))

-- the sort of a kind's nodes: 'Kinds 0 to 4 are patterns, 16 to 22 lenses.'
unfoldable pub sort_of : S.Kind → Sort
sort_of S.Word = Patterns
sort_of S.Range = Patterns
sort_of S.PatternJoin = Patterns
sort_of S.PatternUnion = Patterns
sort_of S.PatternRepeat = Patterns
sort_of S.Set = Patterns
sort_of S.Copy = Lenses
sort_of S.Const = Lenses
sort_of S.Key = Lenses
sort_of S.LensJoin = Lenses
sort_of S.LensUnion = Lenses
sort_of S.LensRepeat = Lenses
sort_of S.Match = Lenses

-- The operand record of node k.
pub record OperandsRead (bytes : Text) (k : ℕ) (r : Operands) : Type 0 where
  pub a_is : r.a ≡ (node_at bytes k).a
  pub b_is : r.b ≡ (node_at bytes k).b
  pub c_is : r.c ≡ (node_at bytes k).c

-- ---- The rules on operands, as tests

-- whether something is there
unfoldable pub there : {A : Type 0} → Option A → Bool
there none = false
there (some x) = true

-- whether a tree of that sort stands at a
unfoldable pub sort_at : Sort → Trees → ℕ → Bool
sort_at Patterns ts a = there (pattern_at ts a)
sort_at Lenses ts a = there (lens_at ts a)

unfoldable pub word_there : Trees → ℕ → Bool
word_there ts a = there (word_at ts a)

unfoldable pub word_fits : Text → ℕ → ℕ → ℕ → Bool
word_fits bytes a b c = leb c max_word && leb (two a b + c) (pool_length bytes)

unfoldable pub range_ordered : ℕ → ℕ → ℕ → Bool
range_ordered a b c = leb a b && eqb c 0

unfoldable pub one_child : Trees → Sort → ℕ → ℕ → ℕ → Bool
one_child ts sort a b c = (eqb b 0 && eqb c 0) && sort_at sort ts a

unfoldable pub two_children : Trees → Sort → ℕ → ℕ → ℕ → Bool
two_children ts sort a b c = eqb c 0 && (sort_at sort ts a && sort_at sort ts b)

unfoldable pub const_parts : Trees → ℕ → ℕ → ℕ → Bool
const_parts ts a b c = sort_at Patterns ts a && (word_there ts b && word_there ts c)

-- whether the operands of a kind keep its rules
unfoldable pub keeps_rules : Text → Trees → S.Kind → ℕ → ℕ → ℕ → Bool
keeps_rules bytes ts S.Word a b c = word_fits bytes a b c
keeps_rules bytes ts S.Range a b c = range_ordered a b c
keeps_rules bytes ts S.PatternJoin a b c = two_children ts Patterns a b c
keeps_rules bytes ts S.PatternUnion a b c = two_children ts Patterns a b c
keeps_rules bytes ts S.PatternRepeat a b c = one_child ts Patterns a b c
keeps_rules bytes ts S.Set a b c = set_keeps (pool bytes) a b c
keeps_rules bytes ts S.Copy a b c = one_child ts Patterns a b c
keeps_rules bytes ts S.Const a b c = const_parts ts a b c
keeps_rules bytes ts S.Key a b c = one_child ts Patterns a b c
keeps_rules bytes ts S.LensJoin a b c = two_children ts Lenses a b c
keeps_rules bytes ts S.LensUnion a b c = two_children ts Lenses a b c
keeps_rules bytes ts S.LensRepeat a b c = one_child ts Lenses a b c
keeps_rules bytes ts S.Match a b c = one_child ts Lenses a b c

-- ---- A node, decoded

-- a kind with its own operands; they stand at `at` in the table, and the pool at `pool-at`
unfoldable pub decoded : S.Kind → ℕ → ℕ → ℕ → ℕ → ℕ → Kind
decoded S.Word a b c at pool-at = Word (two a b) c
decoded S.Range a b c at pool-at = OneOf at 1
decoded S.PatternJoin a b c at pool-at = PatternJoin a b
decoded S.PatternUnion a b c at pool-at = PatternUnion a b
decoded S.PatternRepeat a b c at pool-at = PatternRepeat a
decoded S.Set a b c at pool-at = OneOf (pool-at + two a b) c
decoded S.Copy a b c at pool-at = Copy a
decoded S.Const a b c at pool-at = Const a b c
decoded S.Key a b c at pool-at = Key a
decoded S.LensJoin a b c at pool-at = LensJoin a b
decoded S.LensUnion a b c at pool-at = LensUnion a b
decoded S.LensRepeat a b c at pool-at = LensRepeat a
decoded S.Match a b c at pool-at = Match a

-- whether a node holds a match
unfoldable pub tree_holds : Tree → Bool
tree_holds (pattern r) = false
tree_holds (lens l) = S.holds_match l
tree_holds broken = false

-- What is read of node k is true of its tree.
pub record NodeRead (bytes : Text) (k : ℕ) (r : Node) : Type 0 where
  pub size_is : r.size ≡ tree_size (tree_at (trees bytes) k)
  pub source_is : r.source ≡ tree_positions source (tree_at (trees bytes) k)
  pub sheet_is : r.sheet ≡ tree_positions sheet (tree_at (trees bytes) k)
  pub match_is : r.holds_match ≡ tree_holds (tree_at (trees bytes) k)
  pub shows : Shows bytes k r.kind

-- ---- A node's sizes, from those of its children

-- word i of node a in the prepared program
unfoldable pub word_of : List ℕ → ℕ → ℕ → ℕ
word_of prepared a i = get_or prepared (16 * a + i) 0

-- node a's words are in the prepared program, and small
pub record Small (prepared : List ℕ) (a : ℕ) : Type 0 where
  pub room : 16 * a + 3 < length prepared
  pub size_small : word_of prepared a 0 ≤ 512
  pub source_small : word_of prepared a 1 ≤ 128
  pub sheet_small : word_of prepared a 2 ≤ 128
  pub match_small : word_of prepared a 3 ≤ 1

-- the numbers of a node of this kind
pub record Numbers (r : Node) (κ : Kind) (size source-size sheet_size : ℕ) (holds : Bool) : Type 0 where
  pub size_is : r.size ≡ size
  pub source_is : r.source ≡ source-size
  pub sheet_is : r.sheet ≡ sheet_size
  pub match_is : r.holds_match ≡ holds
  pub kind_is : r.kind ≡ κ

-- a node whose four words are those of node a
abbrev pub SizedAs : List ℕ → ℕ → Kind → Node → Type 0
SizedAs p a κ r = Numbers r κ (word_of p a 0) (word_of p a 1) (word_of p a 2) (ltb 0 (word_of p a 3))

-- a node with one child, with two, a const over its pattern and its word b, a match
abbrev pub OverOne : List ℕ → ℕ → Kind → Node → Type 0
OverOne p a κ r = Numbers r κ (1 + word_of p a 0) (word_of p a 1) (word_of p a 2) (ltb 0 (word_of p a 3))

abbrev pub OverTwo : List ℕ → ℕ → ℕ → Kind → Node → Type 0
OverTwo p a b κ r =
    Numbers r κ (1 + word_of p a 0 + word_of p b 0) (word_of p a 1 + word_of p b 1) (word_of p a 2 + word_of p b 2) (ltb 0 (word_of p a 3) || ltb 0 (word_of p b 3))

abbrev pub OverConst : List ℕ → ℕ → ℕ → Kind → Node → Type 0
OverConst p a b κ r = Numbers r κ (1 + word_of p a 0 + 1 + 1) (word_of p a 1) (word_of p b 2) false

abbrev pub OverMatch : List ℕ → ℕ → Kind → Node → Type 0
OverMatch p a κ r = Numbers r κ (1 + word_of p a 0) (word_of p a 1) (word_of p a 2) true

-- ---- The first round

-- the room for the words of a kind's children
abbrev pub Smalls : List ℕ → Kind → Type 0
Smalls p (Word start len) = Unit {0}
Smalls p (OneOf at runs) = Unit {0}
Smalls p (PatternJoin a b) = Small p a × Small p b
Smalls p (PatternUnion a b) = Small p a × Small p b
Smalls p (PatternRepeat a) = Small p a
Smalls p (Copy a) = Small p a
Smalls p (Const a b c) = Small p a × Small p b
Smalls p (Key a) = Small p a
Smalls p (LensJoin a b) = Small p a × Small p b
Smalls p (LensUnion a b) = Small p a × Small p b
Smalls p (LensRepeat a) = Small p a
Smalls p (Match a) = Small p a

-- whether a kind is a match whose child holds a match
unfoldable pub nests : List ℕ → Kind → Bool
nests p (Word start len) = false
nests p (OneOf at runs) = false
nests p (PatternJoin a b) = false
nests p (PatternUnion a b) = false
nests p (PatternRepeat a) = false
nests p (Copy a) = false
nests p (Const a b c) = false
nests p (Key a) = false
nests p (LensJoin a b) = false
nests p (LensUnion a b) = false
nests p (LensRepeat a) = false
nests p (Match a) = ltb 0 (word_of p a 3)

-- what a turn answers: nothing, or why the table is refused
abbrev pub Answered : Type 0
Answered = Result (Unit {0}) Refusal

-- the first of node k's four lines that holds
unfoldable pub node_fault : Text → ℕ → Answered
node_fault bytes k =
    let t = tree_at (trees bytes) k in
    cond
    (unknown_kind (node_at bytes k))
    (Err (refusal 2 k))
    (cond (is_broken t) (Err (refusal 3 k)) (cond (nested t) (Err (refusal 4 k)) (cond (over_limit t) (Err (refusal 5 k)) (Ok tt))))

-- the limits, on a node's own numbers
unfoldable pub over_limits : Node → Bool
over_limits r = ltb max_size r.size || ltb max_positions r.source || ltb max_positions r.sheet

-- a test as a number
unfoldable pub flag : Bool → ℕ
flag b = cond b 1 0

-- What storing a node leaves: its four words, and the words before them as they were.
pub record Stored (old : List ℕ) (k : ℕ) (r : Node) (new : List ℕ) : Type 0 where
  pub earlier : (i : ℕ) → i < 16 * k → get_or new i 0 ≡ get_or old i 0
  pub size_is : get_or new (16 * k) 0 ≡ r.size
  pub source_is : get_or new (16 * k + 1) 0 ≡ r.source
  pub sheet_is : get_or new (16 * k + 2) 0 ≡ r.sheet
  pub match_is : get_or new (16 * k + 3) 0 ≡ flag r.holds_match

-- What a node's turn leaves: its answer, and, if that is no refusal, one more node that is sized.
pub record Turned (bytes : Text) (k : ℕ) (r : Answered) (prepared : List ℕ) : Type 0 where
  pub fault_is : r ≡ node_fault bytes k
  pub sized : r ≡ Ok tt → Sized bytes (k + 1) prepared

-- What reading leaves: the answer, and, if no line holds, a prepared program in which every node is sized.
pub record ReadLeaves (bytes : Text) (r : TableAnswer) (prepared : List ℕ) : Type 0 where
  pub answer_is : r ≡ table_answer bytes
  pub sized : first_that_holds (table_lines bytes) ≡ none → Sized bytes (node_count bytes) prepared
