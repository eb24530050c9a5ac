-- A path is found block by block from the first choice on: what a set kept behind a byte holds, how far the path has come, and what is found.
use Rattle.std.specs.Prelude.{◌≡◌, Bool, true, false, List, ℕ, suc, ◌+◌, ◌-◌, ◌*◌, ◌/◌, ◌≤◌, ◌<◌, min, length, drop}
use Rattle.std.proofs.Common.{arith}
use Rattle.semantics.specs.Text.{Text}
use Rattle.semantics.specs.Pattern.{Pattern, matches}
use Rattle.laws.specs.Paths.{LeastPath}
use Rattle.positions.specs.declared.Set.{Set}
use Rattle.automaton.specs.declared.Automaton.{Automaton}
use Rattle.automaton.specs.Rows.{set_at, Describes}
use Rattle.language.specs.Runs.{Behind}
use Rattle.walks.specs.declared.Walk.{Walk}
use Rattle.walks.specs.Walking.{Walked}

-- ---- Sets that are kept

-- The slice has, for each byte from i to before `end`, the set behind it: that of byte `start` comes first.
pub record Filled (prepared : List ℕ) (a : Automaton) (text : Text) (start i end : ℕ) (sets : List ℕ) : Type 0 where
  pub behind : (r : Pattern) → Describes r a prepared → (j : ℕ) → i ≤ j → j < end → Behind r (drop (suc j) text) (set_at sets (2 * (j - start)))

-- The set is the one behind the text's first n bytes.
pub record BehindAt (prepared : List ℕ) (a : Automaton) (text : Text) (n : ℕ) (set : Set) : Type 0 where
  pub behind : (r : Pattern) → Describes r a prepared → Behind r (drop n text) set

-- where block k of a text of n bytes ends
abbrev pub block_end : ℕ → ℕ → ℕ
block_end n k = min (256 * k + 256) n

-- The slice has, for each block of 256 bytes from block k on, the set behind it.
pub record Marked (prepared : List ℕ) (a : Automaton) (text : Text) (k : ℕ) (marks : List ℕ) : Type 0 where
  pub behind : (j : ℕ) → k ≤ j → 256 * j < length text → BehindAt prepared a text (block_end (length text) j) (set_at marks (2 * j))

-- Room for the sets behind a text's blocks, two numbers for each. A text of at most 4,096 bytes needs none: there is room of its own for it.
pub record MarksRoom (text marks : List ℕ) : Type 0 where
  pub bounded : length text < 1048576
  pub long_room : 4096 < length text → 2 * ((length text + 255) / 256) ≤ length marks

-- so a short text always has room,
pub short_marks : {text marks : List ℕ} → length text ≤ 4096 → MarksRoom text marks
short_marks short = record { bounded = omega arith; long_room = λ long. absurd (omega arith) }

-- and a text that is no longer than one that has
pub less_marks : {text more marks room : List ℕ} → length text ≤ length more → length room ≡ length marks → MarksRoom more marks → MarksRoom text room
less_marks less same known =
    record { bounded = omega (arith, known.bounded); long_room = λ long. omega (arith, known.long_room (omega arith)) }

-- ---- How far the path has come

-- The walk came to `end`, or the text does not belong.
pub record WalkedTo (prepared : List ℕ) (a : Automaton) (text : Text) (end : ℕ) (path : List ℕ) (walk : Walk) : Type 0 where
  pub to_end : walk.at ≤ end
  pub walked : walk.at ≡ end → Walked prepared a text path walk
  pub stuck : ¬ (walk.at ≡ end) → (r : Pattern) → Describes r a prepared → matches r text ≡ false

-- ---- What is found

-- The answer tells whether the text belongs, and the path is then the least.
pub record PathFound (prepared : List ℕ) (a : Automaton) (text : Text) (path : List ℕ) (found : Bool) : Type 0 where
  pub found_is : (r : Pattern) → Describes r a prepared → found ≡ matches r text
  pub path_is : found ≡ true → (r : Pattern) → Describes r a prepared → LeastPath r 0 path text
