-- What the functions that build automata write, and what they leave as it was.
use Rattle.std.specs.Prelude.{◌≡◌, Bool, false, ◌&&◌, ◌||◌, List, ℕ, ◌+◌, ◌*◌, ◌≤◌, ◌<◌, length, get_or}
use Rattle.semantics.specs.Pattern.{Pattern, word, star}
use Rattle.semantics.specs.Table.{positions}
use Rattle.laws.specs.PositionAutomaton.{split, class_at, first_at, follow_at}
use Rattle.classes.specs.declared.Class.{Class}
use Rattle.positions.specs.declared.Set.{Set}
use Rattle.positions.specs.Positions.{holds, holds_moved}
use Rattle.automaton.specs.Rows.{side_index, row_at, held_of, follow_of, automaton_at, RowIs, Describes}
use Rattle.automaton.specs.Rows as R
use Rattle.automaton.specs.declared.Automaton.{Automaton}
use Rattle.automaton.specs.declared.Side.{Side}

-- where the count of positions of a node's side stands, and where its six numbers begin
abbrev pub count_at : ℕ → Side → ℕ
count_at node side = 16 * node + 1 + side_index side

abbrev pub header_at : ℕ → Side → ℕ
header_at node side = 16 * node + 4 + 6 * side_index side

-- ---- What a caller provides

-- The node is one of the 96, and there is room for the new rows, whose positions fit a set.
pub record Space (node row rows : ℕ) (prepared : List ℕ) : Type 0 where
  pub a_node : 16 * node + 16 ≤ 1536
  pub few : rows ≤ 128
  pub inside : row_at (row + rows) ≤ length prepared

-- The rows of an automaton stand below a row.
pub record Below (a : Automaton) (row : ℕ) : Type 0 where
  pub below : a.start + a.count ≤ row

-- The count of positions of the node's side is that of the pattern.
pub record Counted (r : Pattern) (node : ℕ) (side : Side) (prepared : List ℕ) : Type 0 where
  pub counted : get_or prepared (count_at node side) 0 ≡ positions r

-- ---- What the functions leave

-- Only numbers at `from` up to `to` may have changed.
pub record Kept (from to : ℕ) (before after : List ℕ) : Type 0 where
  pub same_length : length after ≡ length before
  pub kept : (i : ℕ) → (from ≤ i → i < to → ⊥) → get_or after i 0 ≡ get_or before i 0

-- The automaton of the node's side begins at the row `start`. Only its six numbers and the `rows` rows from `row` on may have changed.
pub record SideBuilt (node : ℕ) (side : Side) (start row rows : ℕ) (before after : List ℕ) : Type 0 where
  pub starts : (automaton_at after node side).start ≡ start
  pub same_length : length after ≡ length before
  pub kept :
      (i : ℕ)
      → (header_at node side ≤ i → i < header_at node side + 6 → ⊥)
      → (row_at row ≤ i → i < row_at (row + rows) → ⊥)
      → get_or after i 0 ≡ get_or before i 0

-- The automaton of a pattern with no parts, which begins at the row `start`, one of the new rows.
pub record BuiltAlone (r : Pattern) (node : ℕ) (side : Side) (start row rows : ℕ) (before after : List ℕ) : Type 0 where
  pub built : SideBuilt node side start row rows before after
  pub described : Counted r node side before → Describes r (automaton_at after node side) after

-- That of a repeat, from that of its part.
pub record BuiltRepeat (node : ℕ) (side : Side) (row : ℕ) (part : Automaton) (before after : List ℕ) : Type 0 where
  pub built : SideBuilt node side row row part.count before after
  pub described :
      (r : Pattern)
      → Describes r part before
      → Counted (star r) node side before
      → Describes (star r) (automaton_at after node side) after

-- That of a pattern of two parts, from theirs.
pub record BuiltPair (pair : Pattern → Pattern → Pattern) (node : ℕ) (side : Side) (row : ℕ) (left right : Automaton) (before after : List ℕ) : Type 0 where
  pub built : SideBuilt node side row row (left.count + right.count) before after
  pub described :
      (r s : Pattern)
      → Describes r left before
      → Describes s right before
      → Counted (pair r s) node side before
      → Describes (pair r s) (automaton_at after node side) after

-- The node's side has the automaton of another, in the same rows.
pub record Aliased (node : ℕ) (side : Side) (other : Automaton) (before after : List ℕ) : Type 0 where
  pub built : SideBuilt node side other.start 0 0 before after
  pub described : (r : Pattern) → Describes r other before → Counted r node side before → Describes r (automaton_at after node side) after

-- ---- The steps

-- A class was put at i.
pub record ClassPut (i : ℕ) (class : Class) (before after : List ℕ) : Type 0 where
  pub class_put : R.class_at after i ≡ class
  pub rest : Kept i (i + 4) before after

-- A row was put.
pub record RowPut (row held : ℕ) (follow : Set) (before after : List ℕ) : Type 0 where
  pub held_put : held_of after row ≡ held
  pub follow_put : follow_of after row ≡ follow
  pub rest : Kept (row_at row) (row_at (row + 1)) before after

-- The six numbers of a node's side were put.
pub record HeaderPut (node : ℕ) (side : Side) (start : ℕ) (empty : Bool) (first last : Set) (before after : List ℕ) : Type 0 where
  pub header :
      automaton_at after node side
      ≡ record { start = start; count = get_or before (count_at node side) 0; nullable = empty; first = first; last = last }
  pub rest : Kept (header_at node side) (header_at node side + 6) before after

-- The rows below `row`, and the classes among them, are as they were.
abbrev pub SameBelow : ℕ → List ℕ → List ℕ → Type 0
SameBelow row before after = (i : ℕ) → 1536 ≤ i → i < row_at row → get_or after i 0 ≡ get_or before i 0

-- Row `to` is row `from` as it was, its positions moved up by `up`, and may be followed by those of `more` too.
pub record RowCopied (from to up : ℕ) (more : ℕ → Bool) (before after : List ℕ) : Type 0 where
  pub held_same : held_of after to ≡ held_of before from
  pub same_below : SameBelow from before after
  pub follow_same : (q : ℕ) → holds (follow_of after to) q ≡ (holds_moved (follow_of before from) up q || more q)

-- So are `count` rows from `to` on; each that is in `last` may be followed by `more` too.
pub record Copied (from to count up : ℕ) (last more : Set) (before after : List ℕ) : Type 0 where
  pub copied : (p : ℕ) → p < count → RowCopied (from + p) (to + p) up (λ q. holds last p && holds more q) before after
  pub rest : Kept (row_at to) (row_at (to + count)) before after

-- The first `count` letters have a row each, from `row` on, and may be followed by the next letter.
pub record Lettered (row count : ℕ) (letters before after : List ℕ) : Type 0 where
  pub lettered : (p : ℕ) → p < count → RowIs (word letters) row p after
  pub rest : Kept (row_at row) (row_at (row + count)) before after

-- The positions of c are those of r and then those of s. A position of r in `crossing` may be followed by the first ones of s.
pub record TwoOf (c r s : Pattern) (crossing : ℕ → Bool) : Type 0 where
  pub count_two : positions c ≡ positions r + positions s
  pub class_two : (p : ℕ) → class_at c p ≡ split (positions r) (class_at r) (class_at s) p
  pub follow_two :
      (p q : ℕ)
      → follow_at c p q
      ≡ split
      (positions r)
      (λ i. split (positions r) (follow_at r i) (λ j. crossing i && first_at s j) q)
      (λ i. split (positions r) (λ j. false) (follow_at s i) q)
      p

-- The rows of two automata, copied to `row`, are those of a pattern of their two; those in `last` may be followed by the first ones of `right`.
pub record RowsJoined (row : ℕ) (left right : Automaton) (last : Set) (before after : List ℕ) : Type 0 where
  pub rest : Kept (row_at row) (row_at (row + (left.count + right.count))) before after
  pub joined :
      (c r s : Pattern) (crossing : ℕ → Bool)
      → TwoOf c r s crossing
      → Describes r left before
      → Describes s right before
      → ((i : ℕ) → holds last i ≡ crossing i)
      → (p : ℕ)
      → p < positions c
      → RowIs c row p after
