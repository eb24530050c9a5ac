-- What is read off a text at a node: a sheet, a key or a source.
use Rattle.std.specs.Prelude.{◌≡◌, List, ◌⊎◌, ℕ, ◌+◌, ◌*◌, ◌≤◌, ◌<◌, length}
use Rattle.semantics.specs.Text.{Text}
use Rattle.semantics.specs.Pattern.{word, In}
use Rattle.semantics.specs.Lens.{Lens, join, match, language}
use Rattle.semantics.specs.Lens.{Side as SideOf}
use Rattle.semantics.specs.Table.{node_count, pattern, lens, tree_at, trees}
use Rattle.laws.specs.WellTyped.{WellTyped}
use Rattle.table.specs.Prepared.{OneLens}
use Rattle.table.specs.Rules.{AllSized}
use Rattle.automaton.specs.declared.Side.{Side}
use Rattle.automaton.specs.declared.Side.TheVariants.{Source, Sheet}
use Rattle.automaton.specs.Rows.{automaton_at, Room}
use Rattle.automaton.specs.Built.{Built}
use Rattle.lens.specs.declared.Mode.{Mode}
use Rattle.lens.specs.declared.Mode.TheVariants.{Get, Key, Create, SourceKey}
use Rattle.texts.specs.Overlay.{Wrote}
use Rattle.texts.specs.Overlay.{Lays}
use Rattle.lens.specs.Reading.{reading, keyed}

-- the side of the text that is read, as the automata have it
unfoldable pub side_for : Mode → Side
side_for Get = Source
side_for Key = Sheet
side_for Create = Sheet
side_for SourceKey = Source

-- A node's words are in the prepared program, and the rows of its automaton.
pub record Prepared (prepared : List ℕ) (node : ℕ) (side : Side) : Type 0 where
  pub words : 16 * node + 16 ≤ length prepared
  pub room : Room (automaton_at prepared node side) prepared

-- The node is one of a prepared program's, and a lens.
pub record LensNode (bytes : Text) (prepared : List ℕ) (node : ℕ) : Type 0 where
  pub built : Built bytes prepared
  pub inside : node < node_count bytes
  pub tree : Lens
  pub tree_is : tree_at (trees bytes) node ≡ lens tree

-- The node is a lens that keeps the typing rules, and the text belongs to it on that side.
pub record Fits (bytes : Text) (node : ℕ) (side : SideOf) (text : Text) : Type 0 where
  pub tree : Lens
  pub tree_is : tree_at (trees bytes) node ≡ lens tree
  pub typed : WellTyped tree
  pub belongs : In (language side tree) text

-- The node is one of a table's that was read, and a word.
pub record WordNode (bytes : Text) (prepared : List ℕ) (node : ℕ) : Type 0 where
  pub sized : AllSized bytes prepared
  pub inside : node < node_count bytes
  pub letters : Text
  pub tree_is : tree_at (trees bytes) node ≡ pattern (word letters)

-- They are the bytes of the word.
pub record WordIs (bytes : Text) (node : ℕ) (letters : Text) : Type 0 where
  pub letters_are : (w : Text) → tree_at (trees bytes) node ≡ pattern (word w) → letters ≡ w

-- What is read is written: at a node,
pub record Emits (bytes : Text) (node : ℕ) (mode : Mode) (text before after : Text) (answer : Wrote) : Type 0 where
  pub writes : (l : Lens) → tree_at (trees bytes) node ≡ lens l → Lays (keyed mode) (reading mode l text) before after answer

-- and at the join of two.
pub record EmitsJoin (bytes : Text) (left right : ℕ) (mode : Mode) (text before after : Text) (answer : Wrote) : Type 0 where
  pub writes :
      (l m : Lens)
      → tree_at (trees bytes) left ≡ lens l
      → tree_at (trees bytes) right ≡ lens m
      → Lays (keyed mode) (reading mode (join l m) text) before after answer

-- The node r gives what a node gives: it is the node itself, or the node is a match and r its child. Which of the two it is for a match is left open: both give the same.
pub record ReadBy (bytes : Text) (node r : ℕ) : Type 0 where
  pub is : (r ≡ node) ⊎ OneLens (trees bytes) node r (λ l. lens (match r l))
