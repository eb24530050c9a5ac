-- What a run over a text knows of it: whether the part that was read belongs, and by which positions it can go on.
use Rattle.std.specs.Prelude.{◌≡◌, true, List, [], ◌∷◌, ◌++◌, ◌↔◌, ℕ, ◌<◌}
use Rattle.semantics.specs.Text.{Text}
use Rattle.semantics.specs.Pattern.{Pattern, In, matches}
use Rattle.semantics.specs.Table.{positions}
use Rattle.laws.specs.PositionAutomaton.{ReadsAt, rest_at}
use Rattle.positions.specs.declared.Set.{Set}
use Rattle.positions.specs.Positions.{holds}
use Rattle.automaton.specs.declared.Automaton.{Automaton}
use Rattle.automaton.specs.Rows.{Describes}
use Rattle.language.specs.declared.Run.{Run}
use Rattle.language.specs.declared.Step.{Step}
use Rattle.language.specs.Sets.{Gathered, Standing, Onward}

-- The text t was read from its beginning; the set has the positions at which the next byte can stand.
pub record Forward (r : Pattern) (t : Text) (run : Run) : Type 0 where
  pub here_is : run.here ≡ matches r t
  pub onward_iff : (c : ℕ) (u : Text) → In r (t ++ c ∷ u) ↔ ReadsAt r (holds run.set) c u

-- The set has the positions behind which the text t may stand.
pub record Behind (r : Pattern) (t : Text) (s : Set) : Type 0 where
  pub behind_iff : (p : ℕ) → p < positions r → (holds s p ≡ true) ↔ In (rest_at r p) t

-- A byte was read at those of the set's positions below n at which it may stand.
pub record Stepped (prepared : List ℕ) (a : Automaton) (s : Set) (byte n : ℕ) (step : Step) : Type 0 where
  pub reached_are : Gathered (Standing prepared a s byte) n step.reached
  pub onward_are : Gathered (Onward prepared a s byte) n step.onward

-- One byte more was read, behind the text or in front of it.
pub record Advanced (prepared : List ℕ) (a : Automaton) (byte : ℕ) (before after : Run) : Type 0 where
  pub advanced : (r : Pattern) → Describes r a prepared → (t : Text) → Forward r t before → Forward r (t ++ byte ∷ []) after

pub record SteppedBack (prepared : List ℕ) (a : Automaton) (byte : ℕ) (before after : Set) : Type 0 where
  pub stepped : (r : Pattern) → Describes r a prepared → (t : Text) → Behind r t before → Behind r (byte ∷ t) after
