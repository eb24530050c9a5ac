-- A stage: from some states of a first automaton, texts are read to its end and beside it, from its start, in a second.
use Rattle.std.specs.Prelude.{◌≡◌, true, ◌&&◌, ◌||◌, List, ◌⊎◌, ◌↔◌, ℕ, ◌<◌}
use Rattle.std.proofs.Math.Option.{none, some}
use Rattle.semantics.specs.Pattern.{Pattern}
use Rattle.laws.specs.Walks.{State, Staged}
use Rattle.positions.specs.declared.Set.{Set}
use Rattle.positions.specs.Positions.{holds, Empty, Shared}
use Rattle.classes.specs.Classes.{any_below}
use Rattle.automaton.specs.declared.Automaton.{Automaton}
use Rattle.automaton.specs.Rows.{Describes}
use Rattle.pairs.specs.Pairs.{by_follow}
use Rattle.typing.specs.declared.questions.Marked.{Marked}

-- the states that are marked
abbrev pub In : Marked → State → Type 0
In m none = m.start ≡ true
In m (some p) = holds m.at p ≡ true

-- The marked positions are the automaton's.
pub record Within (a : Automaton) (m : Marked) : Type 0 where
  pub within : (p : ℕ) → holds m.at p ≡ true → p < a.count

-- The start alone is marked.
pub record StartOnly (m : Marked) : Type 0 where
  pub start_is : m.start ≡ true
  pub nothing : Empty m.at

-- r holds the positions that may come next from a marked state.
pub record NextOf (prepared : List ℕ) (a : Automaton) (m : Marked) (r : Set) : Type 0 where
  pub next_is : (q : ℕ) → holds r q ≡ (m.start && holds a.first q || any_below a.count (λ p. by_follow prepared a.start m.at p q))

-- A marked state is final.
abbrev pub SomeFinal : Automaton → Marked → Type 0
SomeFinal a m = ((m.start ≡ true) × (a.nullable ≡ true)) ⊎ Shared m.at a.last

-- r has the states to which some text leads the second automaton from its start, and the first from a marked state to a final one.
pub record StagedBy (prepared : List ℕ) (a b : Automaton) (m r : Marked) : Type 0 where
  pub inside : Within b r
  pub staged :
      (p q : Pattern) → Describes p a prepared → Describes q b prepared
      → (y : State) → In r y ↔ Staged p q (In m) y
