-- What is searched for, the tables of the search, and what it finds.
use Rattle.std.specs.Prelude.{◌≡◌, Bool, true, false, cond, List, ◌++◌, ◌↔◌, ℕ, ◌+◌, ◌*◌, ◌≤◌, ◌<◌, length, drop}
use Rattle.semantics.specs.Text.{Text, All}
use Rattle.laws.specs.Bytes.{IsByte}
use Rattle.clash.specs.Clash.{Given}
use Rattle.positions.specs.declared.Set.{Set}
use Rattle.positions.specs.Positions.{holds}
use Rattle.automaton.specs.declared.Automaton.{Automaton}
use Rattle.automaton.specs.Rows.{set_at, follow_of, share_in, Room}
use Rattle.search.specs.declared.patches.Quest.{Quest}
use Rattle.search.specs.Graph.{Accepts}
use Rattle.search.specs.Pairs.{no_set, no_patch, graph_of}

-- ---- Quests

-- a text with two cuts
unfoldable pub cut_quest : Automaton → Automaton → Automaton → Quest
cut_quest part whole rest =
    let opening : Set = cond part.nullable part.first no_set in
    record {
      part = part;
      whole = whole;
      rest = rest;
      last = part.last;
      first = rest.first;
      early = record { base = 0; rows = part.first; columns = part.first };
      late = record { base = 128; rows = opening; columns = rest.first };
      goal = record { base = 128; rows = whole.last; columns = rest.last };
    }

-- a text of both arms
unfoldable pub arm_quest : Automaton → Automaton → Quest
arm_quest left right =
    record {
      part = left;
      whole = left;
      rest = right;
      last = no_set;
      first = no_set;
      early = no_patch;
      late = record { base = 128; rows = left.first; columns = right.first };
      goal = record { base = 128; rows = left.last; columns = right.last };
    }

-- The quest's automata have their rows in the prepared program.
pub record Rooms (prepared : List ℕ) (q : Quest) : Type 0 where
  pub part_room : Room q.part prepared
  pub whole_room : Room q.whole prepared
  pub rest_room : Room q.rest prepared

-- ---- Tables

-- So many numbers, and no set of two of them holds anything.
pub record Cleared (size : ℕ) (cells : List ℕ) : Type 0 where
  pub long : length cells ≡ size
  pub none_held : (i q : ℕ) → holds (set_at cells (2 * i)) q ≡ false

-- From set `base` on, for each position of a those that it may follow.
abbrev pub LedAt : List ℕ → Automaton → ℕ → List ℕ → Type 0
LedAt prepared a base leads =
    (p : ℕ) → p < a.count → (q : ℕ)
    → (holds (set_at leads (2 * (base + p))) q ≡ true) ↔ ((q < a.count) × (holds (follow_of prepared (a.start + q)) p ≡ true))

pub record Tables (prepared : List ℕ) (q : Quest) (leads : List ℕ) : Type 0 where
  pub size : length leads ≡ 768
  pub part_led : LedAt prepared q.part 0 leads
  pub whole_led : LedAt prepared q.whole 128 leads
  pub rest_led : LedAt prepared q.rest 256 leads

-- position q of b shares a byte with position x of a
abbrev pub SharesAt : List ℕ → Automaton → Automaton → ℕ → ℕ → Type 0
SharesAt prepared a b x q = (q < b.count) × (share_in prepared (a.start + x) (b.start + q) ≡ true)

-- The first n rows from `base` on hold what shares a byte; the others are as they were.
pub record Opened (prepared : List ℕ) (a b : Automaton) (base n : ℕ) (before after : List ℕ) : Type 0 where
  pub size : length after ≡ length before
  pub rows : (x : ℕ) → x < n → (q : ℕ) → (holds (set_at after (2 * (base + x))) q ≡ true) ↔ SharesAt prepared a b x q
  pub others : (i : ℕ) → (i < base) → set_at after (2 * i) ≡ set_at before (2 * i)
  pub others_behind : (i : ℕ) → base + n ≤ i → set_at after (2 * i) ≡ set_at before (2 * i)

-- Exactly the pairs of positions that share a byte are set: rows 0 to 127 for pairs of the part, 128 to 255 for those of the whole and the rest.
pub record FreshIn (prepared : List ℕ) (q : Quest) (fresh : List ℕ) : Type 0 where
  pub size : length fresh ≡ 512
  pub early_iff : (x : ℕ) → x < 128 → (p : ℕ) → (holds (set_at fresh (2 * x)) p ≡ true) ↔ ((x < q.part.count) × SharesAt prepared q.part q.part x p)
  pub late_iff : (x : ℕ) → x < 128 → (p : ℕ) → (holds (set_at fresh (2 * (128 + x))) p ≡ true) ↔ ((x < q.whole.count) × SharesAt prepared q.whole q.rest x p)

-- ---- What is found

-- The texts that the search can find are those of which the test is true.
abbrev pub Asks : List ℕ → Quest → (Text → Bool) → Type 0
Asks prepared q test = (leads : List ℕ) → Tables prepared q leads → (t : Text) → Accepts (graph_of prepared q leads) t ↔ (test t ≡ true)

-- Some text can be found.
pub record Answerable (prepared : List ℕ) (q : Quest) : Type 0 where
  pub test : Text → Bool
  pub asks : Asks prepared q test
  pub text : Text
  pub passes : test text ≡ true

-- Texts of which the test is true are made of bytes, and r is the length of the shortest; the lowest of these stands at the start of the buffer, if
-- that is long enough.
pub record Hunted (test : Text → Bool) (before after : Text) (r : ℕ) : Type 0 where
  pub of_bytes : (t : Text) → test t ≡ true → All IsByte t
  pub least : (t : Text) → test t ≡ true → r ≤ length t
  pub some : (t : Text) × (test t ≡ true) × (length t ≡ r)
  pub short : length before < r → after ≡ before
  pub fits : r ≤ length before → (t : Text) × Given (λ u. test u ≡ true) t × (length t ≡ r) × (after ≡ t ++ drop r before)
