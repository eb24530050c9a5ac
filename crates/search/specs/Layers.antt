-- The pairs by their distance from an end, in layers: layer d stands in the order from `starts` d to before `starts` d + 1.
use Rattle.std.specs.Prelude.{◌≡◌, true, false, List, ◌⊎◌, ℕ, ◌+◌, ◌≤◌, ◌<◌, length, get_or}
use Rattle.semantics.specs.Text.{Text}
use Rattle.search.specs.Graph.{Graph, Shared, Way, Far}
use Rattle.search.specs.Pairs.{held_in}
use Rattle.search.specs.Queue.{Queue}

-- entry i of the order is in layer d
pub record InLayer (starts : List ℕ) (d i : ℕ) : Type 0 where
  pub from : get_or starts d 0 ≤ i
  pub to : i < get_or starts (d + 1) 0

-- Nothing is found yet, and exactly the pairs that share a byte are fresh.
pub record AllFresh (g : Graph) (order fresh : List ℕ) : Type 0 where
  pub queue : Queue order fresh 0
  pub fresh_shared : (pair : ℕ) → held_in fresh 0 pair ≡ true → Shared g pair
  pub shared_fresh : (pair : ℕ) → pair < 32768 → Shared g pair → held_in fresh 0 pair ≡ true

-- The layers up to `depth`: each has exactly the pairs of that distance that share a byte. No text begins by a pair of a layer before the last.
pub record Layered (g : Graph) (order starts : List ℕ) (depth : ℕ) : Type 0 where
  pub first : get_or starts 0 0 ≡ 0
  pub rising : (d : ℕ) → d < depth → get_or starts d 0 < get_or starts (d + 1) 0
  pub last_from : get_or starts depth 0 ≤ get_or starts (depth + 1) 0
  pub inside : get_or starts (depth + 1) 0 ≤ length order
  pub in_layer : (d i : ℕ) → d ≤ depth → InLayer starts d i → Far g d (get_or order i 0) × Shared g (get_or order i 0)
  pub all_in : (d pair : ℕ) → d ≤ depth → pair < 32768 → Shared g pair → Far g d pair → (i : ℕ) × InLayer starts d i × (get_or order i 0 ≡ pair)
  pub none_begins : (d i : ℕ) → d < depth → InLayer starts d i → g.begins (get_or order i 0) ≡ false

-- What is fresh is farther, and what is not fresh is in a layer.
pub record Layers (g : Graph) (order fresh starts : List ℕ) (depth : ℕ) : Type 0 where
  pub layered : Layered g order starts depth
  pub queue : Queue order fresh (get_or starts (depth + 1) 0)
  pub fresh_or_near : (pair : ℕ) → pair < 32768 → Shared g pair → (held_in fresh 0 pair ≡ true) ⊎ ((d : ℕ) × (d ≤ depth) × Far g d pair)
  pub fresh_far : (pair : ℕ) → held_in fresh 0 pair ≡ true → Shared g pair × ((t : Text) → Way g pair t → depth < length t)

-- A text begins by a pair of the last layer.
pub record Begun (g : Graph) (order starts : List ℕ) (depth : ℕ) : Type 0 where
  pub place : ℕ
  pub in_last : InLayer starts depth place
  pub begins_there : g.begins (get_or order place 0) ≡ true

-- The layers, as they are found where some text leads from a beginning to an end.
pub record Filled (g : Graph) (order starts : List ℕ) (depth : ℕ) : Type 0 where
  pub layered : Layered g order starts depth
  pub begun : Begun g order starts depth

-- The pairs that the graph's beginnings, ends and steps speak of are below 32,768.
pub record Bounded (g : Graph) : Type 0 where
  pub before_below : (pair next : ℕ) → g.precedes pair next ≡ true → pair < 32768
  pub ends_below : (pair : ℕ) → g.ends pair ≡ true → pair < 32768
  pub begins_below : (pair : ℕ) → g.begins pair ≡ true → pair < 32768
