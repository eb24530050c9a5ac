-- Pairs in the order in which they are found: the first `count` of the order. A pair is fresh until it is found.
use Rattle.std.specs.Prelude.{◌≡◌, true, false, List, ◌⊎◌, ℕ, ◌/◌, ◌%◌, ◌≤◌, ◌<◌, length, get_or}
use Rattle.semantics.specs.Text.{Member}
use Rattle.positions.specs.declared.Set.{Set}
use Rattle.positions.specs.Positions.{holds}
use Rattle.search.specs.declared.patches.Quest.{Quest}
use Rattle.search.specs.Pairs.{held_in, precedes_in}

-- The order has room for every pair, `pairs`, that is fresh or found; no pair is found twice, and none that is found is fresh.
pub record Queue (order fresh : List ℕ) (count : ℕ) : Type 0 where
  pub pairs : List ℕ
  pub room : length pairs ≤ length order
  pub cells : length fresh ≡ 512
  pub fresh_in : (pair : ℕ) → held_in fresh 0 pair ≡ true → Member pair pairs
  pub found_in : (i : ℕ) → i < count → Member (get_or order i 0) pairs
  pub below : (pair : ℕ) → Member pair pairs → pair < 32768
  pub closed : (i : ℕ) → i < count → held_in fresh 0 (get_or order i 0) ≡ false
  pub different : (i j : ℕ) → i < j → j < count → ¬ (get_or order i 0 ≡ get_or order j 0)

-- Of the fresh pairs those of which P holds are found, behind those that were; the others stay fresh.
pub record Found (P : ℕ → Type 0) (order fresh : List ℕ) (count : ℕ) (order' fresh' : List ℕ) (count' : ℕ) : Type 0 where
  pub queue : Queue order' fresh' count'
  pub size : length order' ≡ length order
  pub more : count ≤ count'
  pub kept : (i : ℕ) → i < count → get_or order' i 0 ≡ get_or order i 0
  pub only : (i : ℕ) → count ≤ i → i < count' → (held_in fresh 0 (get_or order' i 0) ≡ true) × P (get_or order' i 0)
  pub all_found : (pair : ℕ) → held_in fresh 0 pair ≡ true → P pair → (i : ℕ) × (count ≤ i) × (i < count') × (get_or order' i 0 ≡ pair)
  pub still : (pair : ℕ) → held_in fresh 0 pair ≡ true → (held_in fresh' 0 pair ≡ true) ⊎ ((i : ℕ) × (count ≤ i) × (i < count') × (get_or order' i 0 ≡ pair))
  pub was_fresh : (pair : ℕ) → held_in fresh' 0 pair ≡ true → held_in fresh 0 pair ≡ true

-- the pairs of a row with a column of the set
abbrev pub OfRow : ℕ → Set → ℕ → Type 0
OfRow row columns pair = (pair / 128 ≡ row) × (holds columns (pair % 128) ≡ true)

-- the pairs that may come before one pair,
abbrev pub BeforeOne : Quest → List ℕ → ℕ → ℕ → Type 0
BeforeOne quest leads next pair = precedes_in quest leads pair next ≡ true

-- and before one of those that stand in the order from `from` to before `to`
abbrev pub Before : Quest → List ℕ → List ℕ → ℕ → ℕ → ℕ → Type 0
Before quest leads order from to pair = (i : ℕ) × (from ≤ i) × (i < to) × BeforeOne quest leads (get_or order i 0) pair
