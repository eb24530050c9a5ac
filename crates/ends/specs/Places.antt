-- The places of a text, from 0 to its length: which of them are ends, told by a flag for the rest of the text and by a run over what stands before.
use Rattle.std.specs.Prelude.{◌≡◌, Bool, true, false, ◌&&◌, List, ◌∷◌, ℕ, ◌+◌, ◌≤◌, ◌<◌, eqb, length, get_or, take, drop}
use Rattle.semantics.specs.Text.{Text}
use Rattle.semantics.specs.Pattern.{Pattern, matches}
use Rattle.positions.specs.declared.Set.{Set}
use Rattle.automaton.specs.declared.Automaton.{Automaton}
use Rattle.automaton.specs.Rows.{Describes}
use Rattle.language.specs.declared.Run.{Run}
use Rattle.language.specs.Runs.{Forward, Behind}
use Rattle.ends.specs.declared.Ends.{Ends}
use Rattle.ends.specs.declared.Place.{Place}

-- ---- Backward

-- One byte was put in front of a text behind the positions of the set: the run tells whether it then belongs, and behind which positions it may stand.
pub record Retreated (prepared : List ℕ) (b : Automaton) (byte : ℕ) (behind : Set) (run : Run) : Type 0 where
  pub here_is : (s : Pattern) → Describes s b prepared → (t : Text) → Behind s t behind → run.here ≡ matches s (byte ∷ t)
  pub behind_is : (s : Pattern) → Describes s b prepared → (t : Text) → Behind s t behind → Behind s (byte ∷ t) run.set

-- whether the flag of a place is set
unfoldable pub flagged : List ℕ → ℕ → Bool
flagged flags i = eqb (get_or flags i 0) 1

-- From place i on a flag is set exactly if the rest of the text from its place on belongs.
pub record Flagged (prepared : List ℕ) (b : Automaton) (text : Text) (i : ℕ) (flags : List ℕ) : Type 0 where
  pub flag_is : (s : Pattern) → Describes s b prepared → (j : ℕ) → i ≤ j → j ≤ length text → flagged flags j ≡ matches s (drop j text)

-- ---- Forward

-- whether the text in front of a place belongs and the flag of the place is set
unfoldable pub may_end : Pattern → Text → List ℕ → ℕ → Bool
may_end r text flags j = matches r (take j text) && flagged flags j

-- The bytes in front of the place were read.
pub record ReadTo (prepared : List ℕ) (a : Automaton) (text : Text) (place : Place) : Type 0 where
  pub within : place.at ≤ length text
  pub so_far : (r : Pattern) → Describes r a prepared → Forward r (take place.at text) place.run

-- The place is the first from `from` on at which the first half may end, or the text's length where it may end at none before.
pub record NextEnd (prepared : List ℕ) (a : Automaton) (text : Text) (flags : List ℕ) (from place : ℕ) : Type 0 where
  pub onward : from ≤ place
  pub inside : place ≤ length text
  pub passed : (r : Pattern) → Describes r a prepared → (j : ℕ) → from ≤ j → j < place → may_end r text flags j ≡ false
  pub found : (r : Pattern) → Describes r a prepared → place < length text → may_end r text flags place ≡ true

-- The first such place, and the first behind it.
pub record TwoEnds (prepared : List ℕ) (a : Automaton) (text : Text) (flags : List ℕ) (ends : Ends) : Type 0 where
  pub first_is : NextEnd prepared a text flags 0 ends.first
  pub second_is : ends.first < length text → NextEnd prepared a text flags (ends.first + 1) ends.second
