-- The second round as its functions go through it, node by node: a node's refusal, and the answer for the whole program.
use Rattle.std.specs.Prelude.{List, ℕ, ◌+◌, ◌*◌, ◌≤◌, length, Result, Ok, Err}
use Rattle.std.proofs.Math.Option.{Option, none, some}
use Rattle.semantics.specs.Text.{Text}
use Rattle.semantics.specs.Pattern.{Pattern}
use Rattle.semantics.specs.Lens.{Lens, language}
use Rattle.semantics.specs.Table.{tree_at, trees, Line, tree_lines, second_round, first_that_holds}
use Rattle.automaton.specs.declared.Side.{Side}
use Rattle.automaton.specs.Rows.{side_of, automaton_at, Room, Describes}
use Rattle.table.specs.declared.Refusal.{Refusal}
use Rattle.table.specs.Prepared.{refusal}

-- ---- The answer

-- a program that is typed, or why it is refused
abbrev pub TypingAnswer : Type 0
TypingAnswer = Result (Unit {0}) Refusal

unfoldable pub answer_of : Option Line → TypingAnswer
answer_of none = Ok tt
answer_of (some l) = Err (refusal l.number l.node)

-- the answer of the second round: its first line that holds
unfoldable pub typing_answer : Text → TypingAnswer
typing_answer bytes = answer_of (first_that_holds (second_round 0 (trees bytes)))

-- ---- One node

-- the first of the lines that holds, if one does
unfoldable pub fault_of : List Line → TypingAnswer
fault_of ls = answer_of (first_that_holds ls)

-- the first of node k's typing lines that holds, if one does
unfoldable pub typing_fault : Text → ℕ → TypingAnswer
typing_fault bytes k = fault_of (tree_lines k (tree_at (trees bytes) k))

-- ---- The automata that are asked

-- Node k and its automata stand in the prepared program.
pub record Stands (prepared : List ℕ) (k : ℕ) : Type 0 where
  pub inside : 16 * k + 16 ≤ length prepared
  pub room : (side : Side) → Room (automaton_at prepared k side) prepared

-- Node k's automaton on that side describes that language.
abbrev pub Speaks : List ℕ → ℕ → Side → Pattern → Type 0
Speaks prepared k side r = Describes r (automaton_at prepared k side) prepared

-- Node k's automata describe the languages of a lens.
pub record SpeaksFor (prepared : List ℕ) (k : ℕ) (l : Lens) : Type 0 where
  pub each : (side : Side) → Speaks prepared k side (language (side_of side) l)
