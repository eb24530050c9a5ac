-- The text, byte by byte from the front, and the pairs that are alive: those to which the text so far leads on a shortest way.
use Rattle.std.specs.Prelude.{◌≡◌, true, false, List, ◌⊎◌, ℕ, zero, suc, ◌+◌, ◌*◌, ◌%◌, ◌≤◌, ◌<◌, length, get_or}
use Rattle.search.specs.declared.patches.Quest.{Quest}
use Rattle.search.specs.declared.searches.Search.{Search}
use Rattle.search.specs.Graph.{Graph}
use Rattle.search.specs.Pairs.{held_in, precedes_in, begins_in, PairRoom}
use Rattle.search.specs.Layers.{Filled}

-- Byte i may lead to the pair: the first one begins there, any other comes from a pair that is alive by the table of the byte before.
unfoldable pub Comes : Quest → List ℕ → List ℕ → ℕ → ℕ → Type 0
Comes quest leads alive zero pair = begins_in quest pair ≡ true
Comes quest leads alive (suc i) pair = (from : ℕ) × (held_in alive (256 * (i % 2)) from ≡ true) × (precedes_in quest leads from pair ≡ true)

-- the same of a search
abbrev pub comes_at : Search → List ℕ → ℕ → ℕ → Type 0
comes_at s = Comes s.quest.now s.leads.now

-- The lower one of a byte and the lowest that stands at the pair, where the pair comes; 256 is no byte.
pub record LowerByte (g : Graph) (comes : ℕ → Type 0) (pair lowest r : ℕ) : Type 0 where
  pub most : r ≤ lowest
  pub by_pair : (r ≡ lowest) ⊎ (comes pair × (g.stands pair r ≡ true))
  pub none_lower : (c : ℕ) → c < r → comes pair → ¬ (g.stands pair c ≡ true)

-- The lowest byte that stands at an entry of the layer that comes; if it is 256, there is none.
pub record LowestByte (g : Graph) (comes : ℕ → Type 0) (layer : List ℕ) (r : ℕ) : Type 0 where
  pub most : r ≤ 256
  pub by_pair : (r ≡ 256) ⊎ ((k : ℕ) × (k < length layer) × comes (get_or layer k 0) × (g.stands (get_or layer k 0) r ≡ true))
  pub none_lower : (k c : ℕ) → k < length layer → c < r → comes (get_or layer k 0) → ¬ (g.stands (get_or layer k 0) c ≡ true)

-- the entries of the layer
abbrev pub Among : List ℕ → ℕ → Type 0
Among layer pair = (k : ℕ) × (k < length layer) × (get_or layer k 0 ≡ pair)

-- Of the pairs P those that come, and at which the byte stands, are set in the table of byte i; the other table is as it was.
pub record Marked (g : Graph) (comes P : ℕ → Type 0) (i byte : ℕ) (before after : List ℕ) : Type 0 where
  pub size : length after ≡ length before
  pub others : (pair : ℕ) → pair < 32768 → held_in after (256 * ((i + 1) % 2)) pair ≡ held_in before (256 * ((i + 1) % 2)) pair
  pub keeps : (pair : ℕ) → held_in before (256 * (i % 2)) pair ≡ true → held_in after (256 * (i % 2)) pair ≡ true
  pub only :
      (pair : ℕ) → held_in after (256 * (i % 2)) pair ≡ true
      → (held_in before (256 * (i % 2)) pair ≡ true) ⊎ (P pair × comes pair × (g.stands pair byte ≡ true))
  pub all_set : (pair : ℕ) → P pair → comes pair → g.stands pair byte ≡ true → held_in after (256 * (i % 2)) pair ≡ true

-- No pair is alive.
pub record NoneAlive (alive : List ℕ) : Type 0 where
  pub cells : length alive ≡ 1024
  pub none : (table pair : ℕ) → held_in alive table pair ≡ false

-- The first entries of the order are pairs whose positions have rows in the prepared program.
pub record EntriesRoom (prepared : List ℕ) (quest : Quest) (order : List ℕ) (to : ℕ) : Type 0 where
  pub inside : to ≤ length order
  pub below : (k : ℕ) → k < to → get_or order k 0 < 32768
  pub rooms : (k : ℕ) → k < to → PairRoom prepared quest (get_or order k 0)

-- The text has one byte for each layer.
pub record WrittenOut (g : Graph) (order starts : List ℕ) (bytes : ℕ) : Type 0 where
  pub depth : ℕ
  pub one_more : bytes ≡ depth + 1
  pub filled : Filled g order starts depth
