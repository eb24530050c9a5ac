-- How the automata of a whole table are built, one side of one node after the other: how many rows they take, and how far the build has come.
use Rattle.std.specs.Prelude.{◌≡◌, Bool, true, false, List, ℕ, zero, suc, ◌+◌, ◌*◌, ◌≤◌, ◌<◌, length}
use Rattle.semantics.specs.Text.{Text}
use Rattle.semantics.specs.Pattern.{Pattern, word, one_of, concat, alt, star}
use Rattle.semantics.specs.Lens.{Lens, copy, const, key, join, union, repeat, match, source, sheet, language}
use Rattle.semantics.specs.Lens.{Side as SideOf}
use Rattle.semantics.specs.Table.{node_count, pool_length, sizes_wrong, Tree, pattern, lens, broken, tree_at, trees, positions}
use Rattle.table.specs.declared.Kind.{Kind}
use Rattle.table.specs.declared.Kind.TheVariants.{Word, OneOf, PatternJoin, PatternUnion, PatternRepeat, Copy, Const, Key, LensJoin, LensUnion, LensRepeat, Match}
use Rattle.table.specs.Rules.{AllSized}
use Rattle.builder.specs.declared.program.Pair.{Pair}
use Rattle.builder.specs.declared.program.Pair.TheVariants.{Join, Union}
use Rattle.builder.specs.declared.program.Parts.{Parts}
use Rattle.builder.specs.declared.program.Parts.TheVariants.{Letters, Runs, Two, Repeat, Same}
use Rattle.automaton.specs.declared.Side.{Side}
use Rattle.automaton.specs.declared.Side.TheVariants.{Source, Sheet}
use Rattle.automaton.specs.Rows.{side_of, side_index, row_at, automaton_at, Describes}
use Rattle.builder.specs.Build.{Space, Below, BuiltPair, BuiltRepeat, Aliased}
use Rattle.automaton.specs.Built.{tree_language}

-- ---- How many rows

-- the rows of a pattern: as many as it has positions, and two more for the class of a range or a set
unfoldable pub own_rows : Pattern → ℕ
own_rows (word w) = positions (word w)
own_rows (one_of c) = 3
own_rows (concat r s) = positions (concat r s)
own_rows (alt r s) = positions (alt r s)
own_rows (star r) = positions (star r)

-- those of a side. A pattern's sheet side takes none: it has those of its source side
unfoldable pub pattern_rows : SideOf → Pattern → ℕ
pattern_rows source r = own_rows r
pattern_rows sheet r = 0

-- a copy, const, key or match takes none: it has those of its children
unfoldable pub lens_rows : SideOf → Lens → ℕ
lens_rows side (copy r) = 0
lens_rows side (const r w d) = 0
lens_rows side (key r) = 0
lens_rows side (join l m) = positions (language side (join l m))
lens_rows side (union l m) = positions (language side (union l m))
lens_rows side (repeat l) = positions (language side (repeat l))
lens_rows side (match n l) = 0

unfoldable pub side_rows : SideOf → Tree → ℕ
side_rows side (pattern r) = pattern_rows side r
side_rows side (lens l) = lens_rows side l
side_rows side broken = 0

-- the rows that a side of node k takes
abbrev pub rows_taken : Text → ℕ → Side → ℕ
rows_taken bytes k side = side_rows (side_of side) (tree_at (trees bytes) k)

-- those of the nodes below k
unfoldable pub rows_below : Text → ℕ → ℕ
rows_below bytes zero = 0
rows_below bytes (suc k) = rows_below bytes k + (rows_taken bytes k Source + rows_taken bytes k Sheet)

-- those of all
unfoldable pub rows_needed : Text → ℕ
rows_needed bytes = rows_below bytes (node_count bytes)

-- those of the sides before one: the source side of a node comes first
unfoldable pub rows_before : Text → ℕ → Side → ℕ
rows_before bytes k Source = rows_below bytes k
rows_before bytes k Sheet = rows_below bytes k + rows_taken bytes k Source

-- ---- How far the build has come

-- the language of a node's side
abbrev pub language_at : Text → ℕ → Side → Pattern
language_at bytes k side = tree_language (side_of side) (tree_at (trees bytes) k)

-- the side that is built after one
abbrev pub next_node : ℕ → Side → ℕ
next_node k Source = k
next_node k Sheet = k + 1

abbrev pub next_side : Side → Side
next_side Source = Sheet
next_side Sheet = Source

-- which side is built first, second, ..
abbrev pub turn_of : ℕ → Side → ℕ
turn_of k side = 2 * k + side_index side

-- The automaton of the node's side stands in rows below `row`.
pub record Standing (bytes : Text) (k : ℕ) (side : Side) (row : ℕ) (prepared : List ℕ) : Type 0 where
  pub described : Describes (language_at bytes k side) (automaton_at prepared k side) prepared
  pub below : Below (automaton_at prepared k side) row

-- All sides before that of node k have their automata, in rows below `row`, and there is room for the others.
-- So many rows they take, no more and no fewer.
pub record BuiltUpTo (bytes : Text) (k : ℕ) (side : Side) (row : ℕ) (prepared : List ℕ) : Type 0 where
  pub sized : AllSized bytes prepared
  pub room : row_at (rows_needed bytes) ≤ length prepared
  pub rows_are : row ≡ rows_before bytes k side
  pub each : (a : ℕ) (other : Side) → turn_of a other < turn_of k side → Standing bytes a other row prepared

-- It is the turn of that side of node k.
pub record Turn (bytes : Text) (k : ℕ) (side : Side) (row : ℕ) (prepared : List ℕ) : Type 0 where
  pub inside : k < node_count bytes
  pub up_to : BuiltUpTo bytes k side row prepared

-- ---- A side from those of other nodes

-- a word's part of the pool
pub record LettersInside (bytes : Text) (start len : ℕ) : Type 0 where
  pub sizes_right : sizes_wrong bytes ≡ false
  pub inside : start + len ≤ pool_length bytes

-- The automaton of a node's side is in rows below `row`.
pub record Part (a : ℕ) (side : Side) (row : ℕ) (prepared : List ℕ) : Type 0 where
  pub a_node : 16 * a + 16 ≤ 1536
  pub below : Below (automaton_at prepared a side) row

unfoldable pub pair_of : Pair → Pattern → Pattern → Pattern
pair_of Join = concat
pair_of Union = alt

-- the rows of two automata together
abbrev pub count_of : List ℕ → ℕ → ℕ → Side → ℕ
count_of prepared a b side = (automaton_at prepared a side).count + (automaton_at prepared b side).count

pub record PairReady (node : ℕ) (side : Side) (row a b : ℕ) (prepared : List ℕ) : Type 0 where
  pub space : Space node row (count_of prepared a b side) prepared
  pub left : Part a side row prepared
  pub right : Part b side row prepared

pub record PairMade (pair : Pair) (node : ℕ) (side : Side) (row a b next : ℕ) (before after : List ℕ) : Type 0 where
  pub made : BuiltPair (pair_of pair) node side row (automaton_at before a side) (automaton_at before b side) before after
  pub next_is : next ≡ row + count_of before a b side

pub record RepeatReady (node : ℕ) (side : Side) (row a : ℕ) (prepared : List ℕ) : Type 0 where
  pub space : Space node row (automaton_at prepared a side).count prepared
  pub part : Part a side row prepared

pub record RepeatMade (node : ℕ) (side : Side) (row a next : ℕ) (before after : List ℕ) : Type 0 where
  pub made : BuiltRepeat node side row (automaton_at before a side) before after
  pub next_is : next ≡ row + (automaton_at before a side).count

pub record AliasReady (node a : ℕ) (prepared : List ℕ) : Type 0 where
  pub space : Space node 0 0 prepared
  pub a_node : 16 * a + 16 ≤ 1536

pub record AliasMade (node : ℕ) (side : Side) (row a : ℕ) (other : Side) (next : ℕ) (before after : List ℕ) : Type 0 where
  pub made : Aliased node side (automaton_at before a other) before after
  pub next_is : next ≡ row

-- ---- Kinds

-- the node that a const is the same as on a side: its pattern, or its sheet word
abbrev pub const_part : Side → ℕ → ℕ → ℕ
const_part Source a b = a
const_part Sheet a b = b

-- what a node of that kind is made of, on a side
abbrev pub parts_of : Kind → Side → Parts
parts_of (Word start len) side = Letters start len
parts_of (OneOf at runs) side = Runs at runs
parts_of (PatternJoin a b) side = Two Join a b
parts_of (PatternUnion a b) side = Two Union a b
parts_of (PatternRepeat a) side = Repeat a
parts_of (Copy a) side = Same a
parts_of (Const a b c) side = Same (const_part side a b)
parts_of (Key a) side = Same a
parts_of (LensJoin a b) side = Two Join a b
parts_of (LensUnion a b) side = Two Union a b
parts_of (LensRepeat a) side = Repeat a
parts_of (Match a) side = Same a

-- whether it is a pattern, and no lens
abbrev pub is_pattern : Kind → Bool
is_pattern (Word start len) = true
is_pattern (OneOf at runs) = true
is_pattern (PatternJoin a b) = true
is_pattern (PatternUnion a b) = true
is_pattern (PatternRepeat a) = true
is_pattern (Copy a) = false
is_pattern (Const a b c) = false
is_pattern (Key a) = false
is_pattern (LensJoin a b) = false
is_pattern (LensUnion a b) = false
is_pattern (LensRepeat a) = false
is_pattern (Match a) = false

-- It is not the sheet side of a pattern, which has the automaton of its source side.
pub record OwnSide (kind : Kind) (side : Side) : Type 0 where
  pub own : is_pattern kind ≡ true → side ≡ Source
