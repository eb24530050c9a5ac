-- A path is found byte by byte: which positions a step chooses from, which steps are kept, and what is known of the text so far.
use Rattle.std.specs.Prelude.{◌≡◌, Bool, true, List, [], ◌∷◌, ◌++◌, ◌↔◌, ℕ, ◌+◌, ◌*◌, ◌≤◌, ◌<◌, length, get_or, take, drop, Option, None, Some}
use Rattle.semantics.specs.Text.{Text}
use Rattle.semantics.specs.Pattern.{Pattern, In}
use Rattle.laws.specs.PositionAutomaton.{last_at, follow_at, ReadsAt}
use Rattle.laws.specs.Paths.{LeastFrom, LeastPath}
use Rattle.positions.specs.declared.Set.{Set}
use Rattle.positions.specs.Positions.{holds}
use Rattle.automaton.specs.declared.Automaton.{Automaton}
use Rattle.automaton.specs.Rows.{stands_in, follow_of, Describes}
use Rattle.walks.specs.declared.Walk.{Walk}

-- ---- One step

-- Position p is one of the set's at which the byte may stand.
pub record Reads (prepared : List ℕ) (a : Automaton) (due : Set) (byte p : ℕ) : Type 0 where
  pub inside : p < a.count
  pub held : holds due p ≡ true
  pub stands : stands_in prepared (a.start + p) byte ≡ true

-- There is no such position.
pub record NoneReads (prepared : List ℕ) (a : Automaton) (due : Set) (byte : ℕ) : Type 0 where
  pub none : (q : ℕ) → Reads prepared a due byte q → ⊥

-- p is the lowest such position.
pub record Lowest (prepared : List ℕ) (a : Automaton) (due : Set) (byte p : ℕ) : Type 0 where
  pub reads : Reads prepared a due byte p
  pub none_lower : (q : ℕ) → q < p → Reads prepared a due byte q → ⊥

-- p is the only such position.
pub record Alone (prepared : List ℕ) (a : Automaton) (due : Set) (byte p : ℕ) : Type 0 where
  pub reads : Reads prepared a due byte p
  pub no_other : (q : ℕ) → Reads prepared a due byte q → q ≡ p

-- The path has come past position p: the text may end there, or go on at what may follow it.
pub record Past (prepared : List ℕ) (a : Automaton) (p at : ℕ) (walk : Walk) : Type 0 where
  pub at_is : walk.at ≡ at
  pub here_is : (r : Pattern) → Describes r a prepared → walk.here ≡ last_at r p
  pub set_is : (r : Pattern) → Describes r a prepared → (q : ℕ) → holds walk.set q ≡ follow_at r p q

-- whether a text may end at the position passed last, or where none was passed yet
abbrev pub may_end : Automaton → Option ℕ → Bool
may_end a None = a.nullable
may_end a (Some p) = holds a.last p

-- the walk that has passed a position last, or none yet
abbrev pub walk_at : Automaton → ℕ → Option ℕ → Set → Walk
walk_at a at passed set = record { at = at; here = may_end a passed; set = set }

-- ---- Steps that are kept

-- The set has the positions that may follow the one passed last, if one was passed.
abbrev pub DueBehind : List ℕ → Automaton → Option ℕ → Set → Type 0
DueBehind prepared a None due = Unit {0}
DueBehind prepared a (Some p) due = (p < 128) × (due ≡ follow_of prepared (a.start + p))

-- Of the first 32 positions and each byte, the slice may have the step from that position by that byte, as a number that is one more. 0 says that none is kept.
pub record StepsKept (prepared : List ℕ) (a : Automaton) (steps : List ℕ) : Type 0 where
  pub few : length steps ≤ 8192
  pub kept_is :
      (passed byte step : ℕ) → byte < 256 → 256 * passed + byte < length steps → get_or steps (256 * passed + byte) 0 ≡ step + 1
      → (step < 128) × Alone prepared a (follow_of prepared (a.start + passed)) byte step

-- ---- The path so far

-- The text t can be read on: it is empty and may end, or its first byte is read at one of the positions allowed.
abbrev pub ReadsOn : Pattern → Bool → (ℕ → Bool) → Text → Type 0
ReadsOn r ends may [] = ends ≡ true
ReadsOn r ends may (c ∷ t) = ReadsAt r may c t

-- The first bytes of the text were read on the path; it belongs exactly if the rest can be read on, and the path is least if it goes on so.
pub record WalkedBy (r : Pattern) (text : Text) (path : List ℕ) (walk : Walk) : Type 0 where
  pub ends : Bool
  pub may : ℕ → Bool
  pub here_is : walk.here ≡ ends
  pub set_is : (p : ℕ) → holds walk.set p ≡ may p
  pub belongs_iff : In r text ↔ ReadsOn r ends may (drop walk.at text)
  pub goes_on : (more : List ℕ) → LeastFrom r 0 ends may more (drop walk.at text) → LeastPath r 0 (take walk.at path ++ more) text

pub record Walked (prepared : List ℕ) (a : Automaton) (text : Text) (path : List ℕ) (walk : Walk) : Type 0 where
  pub within : walk.at ≤ length text
  pub so_far : (r : Pattern) → Describes r a prepared → WalkedBy r text path walk
