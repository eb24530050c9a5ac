-- Pairs of positions as numbers: 128 times the row and the column. A text may hold the byte c at a pair if it may stand at both positions.
use Rattle.std.specs.Prelude.{◌≡◌, Bool, true, ◌&&◌, ◌||◌, cond, List, ℕ, ◌+◌, ◌-◌, ◌*◌, ◌/◌, ◌%◌, ◌≤◌, leb, ltb}
use Rattle.positions.specs.declared.Set.{Set}
use Rattle.positions.specs.Positions.{holds}
use Rattle.automaton.specs.Rows.{set_at, stands_in, RowRoom}
use Rattle.search.specs.declared.patches.Patch.{Patch}
use Rattle.search.specs.declared.patches.Quest.{Quest}
use Rattle.search.specs.Graph.{Graph}

-- whether the pair is set in cells, a set for each row; its table of rows begins at `table`
abbrev pub held_in : List ℕ → ℕ → ℕ → Bool
held_in cells table pair = holds (set_at cells (2 * (table + pair / 128))) (pair % 128)

-- ---- Patches

unfoldable pub in_patch : Patch → ℕ → ℕ → Bool
in_patch b row column = leb b.base row && (holds b.rows (row - b.base) && holds b.columns column)

abbrev pub pair_in : Patch → ℕ → Bool
pair_in b pair = in_patch b (pair / 128) (pair % 128)

-- the empty set; no pairs
unfoldable pub no_set : Set
no_set = record { low = 0; high = 0 }

unfoldable pub no_patch : Patch
no_patch = record { base = 0; rows = no_set; columns = no_set }

-- the pairs of its own kind that may come before a pair
unfoldable pub before_of : List ℕ → ℕ → ℕ → Patch
before_of leads row column =
    let early : Patch = record { base = 0; rows = set_at leads (2 * row); columns = set_at leads (2 * column) } in
    let late : Patch = record { base = 128; rows = set_at leads (2 * row); columns = set_at leads (2 * (256 + column)) } in
    cond (ltb row 128) early late

-- the early pairs that may come before a late one
unfoldable pub linked_of : Quest → List ℕ → ℕ → ℕ → Patch
linked_of q leads row column =
    let found : Patch = record { base = 0; rows = q.last; columns = set_at leads (2 * (row - 128)) } in
    cond (leb 128 row && (ltb row (128 + q.part.count) && holds q.first column)) found no_patch

-- ---- The graph of a quest

-- where the positions of a pair have their rows in the prepared program
unfoldable pub left_row : Quest → ℕ → ℕ
left_row q pair = cond (ltb (pair / 128) 128) (q.part.start + pair / 128) (q.whole.start + (pair / 128 - 128))

unfoldable pub right_row : Quest → ℕ → ℕ
right_row q pair = cond (ltb (pair / 128) 128) (q.part.start + pair % 128) (q.rest.start + pair % 128)

-- whether the first pair may come before the second
unfoldable pub precedes_in : Quest → List ℕ → ℕ → ℕ → Bool
precedes_in q leads pair next = pair_in (before_of leads (next / 128) (next % 128)) pair || pair_in (linked_of q leads (next / 128) (next % 128)) pair

-- whether a text may begin by the pair
unfoldable pub begins_in : Quest → ℕ → Bool
begins_in q pair = pair_in q.early pair || pair_in q.late pair

-- whether both positions are those of the automata
unfoldable pub inside_of : Quest → ℕ → Bool
inside_of q pair =
    let early = ltb (pair / 128) q.part.count && ltb (pair % 128) q.part.count in
    let late = ltb (pair / 128) (128 + q.whole.count) && ltb (pair % 128) q.rest.count in
    cond (ltb (pair / 128) 128) early late

unfoldable pub graph_of : List ℕ → Quest → List ℕ → Graph
graph_of prepared q leads =
    record {
      precedes = precedes_in q leads;
      stands = λ pair c. inside_of q pair && (stands_in prepared (left_row q pair) c && stands_in prepared (right_row q pair) c);
      begins = begins_in q;
      ends = λ pair. pair_in q.goal pair;
    }

-- The patches keep to the rows below 256.
pub record PatchFits (b : Patch) : Type 0 where
  pub base_low : b.base ≤ 128

-- The quest's patches keep to the rows.
pub record QuestFits (q : Quest) : Type 0 where
  pub few : q.part.count ≤ 128
  pub early_fits : PatchFits q.early
  pub late_fits : PatchFits q.late
  pub goal_fits : PatchFits q.goal

-- Both positions of the pair are those of the automata, and have their rows in the prepared program.
pub record PairRoom (prepared : List ℕ) (q : Quest) (pair : ℕ) : Type 0 where
  pub inside : inside_of q pair ≡ true
  pub left : RowRoom prepared (left_row q pair)
  pub right : RowRoom prepared (right_row q pair)
