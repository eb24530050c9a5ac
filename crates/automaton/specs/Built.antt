-- What every later layer may count on: one record of the prepared program, established once a call and never tested again.
use Rattle.std.specs.Prelude.{List, ℕ, ◌<◌, []}
use Rattle.semantics.specs.Text.{Text}
use Rattle.semantics.specs.Pattern.{Pattern, word}
use Rattle.semantics.specs.Lens.{language}
use Rattle.semantics.specs.Lens.{Side as SideOf}
use Rattle.semantics.specs.Table.{node_count, Tree, pattern, lens, broken, tree_at, trees}
use Rattle.table.specs.Rules.{AllSized}
use Rattle.automaton.specs.declared.Side.{Side}
use Rattle.automaton.specs.Rows.{side_of, automaton_at, Room, Describes}

-- the language of a node on a side; a pattern has the same on both
unfoldable pub tree_language : SideOf → Tree → Pattern
tree_language side (pattern r) = r
tree_language side (lens l) = language side l
tree_language side broken = word []

-- Node k has its automaton on that side.
pub record HasAutomaton (bytes : Text) (prepared : List ℕ) (k : ℕ) (side : Side) : Type 0 where
  pub described : Describes (tree_language (side_of side) (tree_at (trees bytes) k)) (automaton_at prepared k side) prepared
  pub room : Room (automaton_at prepared k side) prepared

-- The prepared program: every node is sized and has both automata.
pub record Built (bytes : Text) (prepared : List ℕ) : Type 0 where
  pub sized : AllSized bytes prepared
  pub automata : (k : ℕ) → k < node_count bytes → (side : Side) → HasAutomaton bytes prepared k side
