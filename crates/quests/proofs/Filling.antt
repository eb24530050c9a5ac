-- The tables of the search as they are filled: none at first, then part by part and row by row, and what the search may take from them. Assumes nothing.
use mathlib.Core.Path.{◌≡◌, refl, sym, ap, ap₂, ◌∙◌}
use mathlib.Core.Bool.{true, false, ◌&&◌}
use mathlib.Core.List.{List, [], ◌∷◌, ◌++◌}
use mathlib.Core.Logic.{◌↔◌, inl, inr, ⊎_elim}
use Prim.Native.Nat.{ℕ, zero, suc, ◌+◌, ◌-◌, ◌*◌, ◌/◌, ◌%◌, ◌≤◌, ◌<◌}
use native.Mathlib.Nat.{zero-add, zero-mul}
use native.Mathlib.Numerals.{add-one}
use native.Mathlib.Omega.{arith}
use borrow.Author.Tests.{eqb-true, eqb-false, ltb-true, ltb-false, lt-ltb, le-ltb}
use lib.Dec.{eqb, ltb}
use lib.ListN.{length, get_or, take, drop, replicate, length-replicate, length-append, length-drop, get_or-append, get_or-eq_default}
use lib.Seq.{get_or-append-add, get_or-take, get_or-drop, length-take-le}
use Rattle.semantics.specs.Text.{Member}
use Rattle.laws.specs.Basics.{bool_cases, not_both, and_both, and_of, cond_true, cond_false, member_left, member_right, member_append}
use Rattle.positions.specs.declared.Set.{Set}
use Rattle.positions.specs.Positions.{holds}
use Rattle.positions.proofs.Bits.{bit_zero, holds_by}
use Rattle.automaton.specs.declared.Automaton.{Automaton}
use Rattle.automaton.specs.Rows.{set_at, share_in}
use Rattle.automaton.proofs.Standing.{share_iff, stands_byte}
use Rattle.language.specs.Sets.{Stored, NoLeads, Leads}
use Rattle.pairs.specs.Pairs.{Gathered, by_sharing}
use Rattle.pairs.proofs.Cells.{sharing_iff}
use Rattle.search.specs.declared.patches.Quest.{Quest}
use Rattle.search.specs.Graph.{Graph, Shared}
use Rattle.search.specs.Pairs.{no_set, held_in, inside_of, left_row, right_row, graph_of, PairRoom}
use Rattle.search.specs.Layers.{AllFresh, Layered}
use Rattle.quests.specs.Quests.{cut_quest, Rooms, Cleared, LedAt, Tables, SharesAt, Opened, FreshIn}

-- below a number, or from it on
split_at : (x mid : ℕ) {C : Type 0} → (x < mid → C) → (mid ≤ x → C) → C
split_at x mid below above = ⊎_elim (λ e. below (ltb-true x mid e)) (λ e. above (ltb-false x mid e)) (bool_cases (ltb x mid))

-- ---- Quests

-- a quest for a text with two cuts, with the positions by which the first reading may begin where the part may be empty
abbrev cut_with : Automaton → Automaton → Automaton → Set → Quest
cut_with part whole rest opening =
    record {
      part = part;
      whole = whole;
      rest = rest;
      last = part.last;
      first = rest.first;
      early = record { base = 0; rows = part.first; columns = part.first };
      late = record { base = 128; rows = opening; columns = rest.first };
      goal = record { base = 128; rows = whole.last; columns = rest.last };
    }

-- where it may be empty they are its first positions, else none
module _ (part whole rest : Automaton) {opening : Set} where
  pub cut_nullable : part.nullable ≡ true → opening ≡ part.first → cut_with part whole rest opening ≡ cut_quest part whole rest
  unfolding cut_quest
  cut_nullable e is = ap (cut_with part whole rest) (is ∙ sym (cond_true part.nullable _ _ e))

  pub cut_none : part.nullable ≡ false → opening ≡ record { low = 0; high = 0 } → cut_with part whole rest opening ≡ cut_quest part whole rest
  unfolding cut_quest no_set
  cut_none e is = ap (cut_with part whole rest) (is ∙ sym (cond_false part.nullable _ _ e))

-- ---- Nothing yet

zeros_at : (n i : ℕ) → get_or (replicate {A = ℕ} n 0) i 0 ≡ 0
zeros_at zero i = refl
zeros_at (suc n) zero = refl
zeros_at (suc n) (suc i) = zeros_at n i

-- two zeros are the empty set
nothing_held : (s : Set) → s.low ≡ 0 → s.high ≡ 0 → (q : ℕ) → holds s q ≡ false
nothing_held s l h q = holds_by s q (λ k. rw l (bit_zero q)) (λ k m. rw h (bit_zero _)) (λ k. refl)

pub cleared_zeros : (n : ℕ) → Cleared n (replicate n 0)
cleared_zeros n =
    record {
      long = length-replicate {A = ℕ} n 0;
      none_held = λ i q. nothing_held (set_at (replicate n 0) (2 * i)) (zeros_at n (2 * i)) (zeros_at n (2 * i + 1)) q;
    }

-- ---- Sets of positions that a position may follow, for one automaton after another

-- 128 sets from set m on, and the list with others in their place
abbrev sets_from : ℕ → List ℕ → List ℕ
sets_from m xs = take 256 (drop (2 * m) xs)

abbrev put_sets : ℕ → List ℕ → List ℕ → List ℕ
put_sets m xs ys = take (2 * m) xs ++ (ys ++ drop 256 (drop (2 * m) xs))

-- two sets of the same numbers
same_set : {a b c d : ℕ} → a ≡ b → c ≡ d → ◌≡◌ {A = Set} (record { low = a; high = c }) (record { low = b; high = d })
same_set low high = λ k. record { low = low k; high = high k }

-- set p of the part is set m + p of the whole
part_set : (m p : ℕ) (xs : List ℕ) → p < 128 → set_at (sets_from m xs) (2 * p) ≡ set_at xs (2 * (m + p))
part_set m p xs l = same_set (at (2 * p) (2 * (m + p)) (omega arith) (omega arith)) (at (2 * p + 1) (2 * (m + p) + 1) (omega arith) (omega arith))
  where
    at : (i j : ℕ) → i < 256 → 2 * m + i ≡ j → get_or (sets_from m xs) i 0 ≡ get_or xs j 0
    at i j h e = get_or-take 256 (drop (2 * m) xs) i 0 h ∙ get_or-drop (2 * m) xs i 0 ∙ ap (λ n. get_or xs n 0) e

module _ (m : ℕ) (xs ys : List ℕ) (fits : 2 * m + 256 ≤ length xs) (same : length ys ≡ length (sets_from m xs)) where
  part_length_lem : length (sets_from m xs) ≡ 256
  part_length_lem = length-take-le 256 (drop (2 * m) xs) (rw (length-drop (2 * m) xs) (omega arith))

  front_length : length (take (2 * m) xs) ≡ 2 * m
  front_length = length-take-le (2 * m) xs (omega arith)

  put_length : length (put_sets m xs ys) ≡ length xs
  put_length =
      rw (
        length-append (take (2 * m) xs) (ys ++ drop 256 (drop (2 * m) xs)),
        length-append ys (drop 256 (drop (2 * m) xs)),
        front_length,
        same,
        part_length_lem,
        length-drop 256 (drop (2 * m) xs),
        length-drop (2 * m) xs,
      ) (omega arith)

  -- the sets that are put, those before and those behind them
  put_in : (p : ℕ) → p < 128 → set_at (put_sets m xs ys) (2 * (m + p)) ≡ set_at ys (2 * p)
  put_in p l = same_set (at (2 * p) (2 * (m + p)) (omega arith) (omega arith)) (at (2 * p + 1) (2 * (m + p) + 1) (omega arith) (omega arith))
    where
      at : (i j : ℕ) → i < 256 → 2 * m + i ≡ j → get_or (put_sets m xs ys) j 0 ≡ get_or ys i 0
      at i j h e =
          ap (λ n. get_or (put_sets m xs ys) n 0) (sym (ap (λ n. n + i) front_length ∙ e))
          ∙ get_or-append-add (take (2 * m) xs) (ys ++ drop 256 (drop (2 * m) xs)) i 0
          ∙ get_or-append ys (drop 256 (drop (2 * m) xs)) 0 i (omega (arith, same, part_length_lem))

  put_before : (i : ℕ) → i < m → set_at (put_sets m xs ys) (2 * i) ≡ set_at xs (2 * i)
  put_before i l = same_set (at (2 * i) (omega arith)) (at (2 * i + 1) (omega arith))
    where
      at : (j : ℕ) → j < 2 * m → get_or (put_sets m xs ys) j 0 ≡ get_or xs j 0
      at j h = get_or-append (take (2 * m) xs) (ys ++ drop 256 (drop (2 * m) xs)) 0 j (omega (arith, front_length)) ∙ get_or-take (2 * m) xs j 0 h

  put_behind : (i : ℕ) → m + 128 ≤ i → set_at (put_sets m xs ys) (2 * i) ≡ set_at xs (2 * i)
  put_behind i l = same_set (at (2 * i) (omega arith)) (at (2 * i + 1) (omega arith))
    where
      at : (j : ℕ) → 2 * m + 256 ≤ j → get_or (put_sets m xs ys) j 0 ≡ get_or xs j 0
      at j h =
          let n = j - 2 * m - 256 in
          let place : length (take (2 * m) xs) + (length ys + n) ≡ j = omega (arith, front_length, same, part_length_lem) in
          let back : 2 * m + (256 + n) ≡ j = omega arith in
          ap (λ k. get_or (put_sets m xs ys) k 0) (sym place)
          ∙ get_or-append-add (take (2 * m) xs) (ys ++ drop 256 (drop (2 * m) xs)) (length ys + n) 0
          ∙ get_or-append-add ys (drop 256 (drop (2 * m) xs)) n 0
          ∙ get_or-drop 256 (drop (2 * m) xs) n 0
          ∙ get_or-drop (2 * m) xs (256 + n) 0
          ∙ ap (λ k. get_or xs k 0) back

-- 384 sets, of which those from set m on are empty.
pub record EmptyFrom (m : ℕ) (xs : List ℕ) : Type 0 where
  pub size : length xs ≡ 768
  pub none_held : (i q : ℕ) → m ≤ i → holds (set_at xs (2 * i)) q ≡ false

pub empty_all : {xs : List ℕ} → Cleared 768 xs → EmptyFrom 0 xs
empty_all cleared = record { size = cleared.long; none_held = λ i q l. cleared.none_held i q }

-- the first 128 of them can be filled,
pub part_empty : (m : ℕ) (xs : List ℕ) → m ≤ 256 → EmptyFrom m xs → NoLeads (sets_from m xs)
part_empty m xs l empty =
    record {
      size = omega (arith, part_length_lem m xs (sets_from m xs) (omega (arith, empty.size)) refl);
      none_held = λ p q k. rw (part_set m p xs k) (empty.none_held (m + p) q (omega arith));
    }

-- and the others stay empty
pub still_empty : (m n : ℕ) (xs ys : List ℕ) → n ≡ m + 128 → m ≤ 256 → length ys ≡ length (sets_from m xs) → EmptyFrom m xs → EmptyFrom n (put_sets m xs ys)
still_empty m n xs ys e l same empty =
    let fits : 2 * m + 256 ≤ length xs = omega (arith, empty.size) in
    record {
      size = put_length m xs ys fits same ∙ empty.size;
      none_held = λ i q k. rw (put_behind m xs ys fits same i (omega arith)) (empty.none_held i q (omega arith));
    }

module _ (prepared : List ℕ) (a : Automaton) (few : a.count ≤ 128) where
  -- sets that are put are those of their positions,
  led_put :
      (m : ℕ) (xs ys : List ℕ)
      → 2 * m + 256 ≤ length xs
      → length ys ≡ length (sets_from m xs)
      → Leads prepared a ys
      → LedAt prepared a m (put_sets m xs ys)
  led_put m xs ys fits same leads p l q =
      rw (put_in m xs ys fits same p (omega arith)) ((leads.led (omega (arith, same, part_length_lem m xs ys fits same))).led_iff p l q)

  -- and stay so where others are put behind them
  led_kept :
      (m base : ℕ) (xs ys : List ℕ)
      → 2 * m + 256 ≤ length xs
      → length ys ≡ length (sets_from m xs)
      → base + 128 ≤ m
      → LedAt prepared a base xs
      → LedAt prepared a base (put_sets m xs ys)
  led_kept m base xs ys fits same behind led p l q = rw (put_before m xs ys fits same (base + p) (omega arith)) (led p l q)

-- the sets of the three automata, one behind the other
pub tables_of :
    {prepared : List ℕ} {q : Quest} (none first second third : List ℕ)
    → q.part.count ≤ 128
    → q.whole.count ≤ 128
    → q.rest.count ≤ 128
    → length none ≡ 768
    → length first ≡ length (sets_from 0 none)
    → length second ≡ length (sets_from 128 (put_sets 0 none first))
    → length third ≡ length (sets_from 256 (put_sets 128 (put_sets 0 none first) second))
    → Leads prepared q.part first
    → Leads prepared q.whole second
    → Leads prepared q.rest third
    → Tables prepared q (put_sets 256 (put_sets 128 (put_sets 0 none first) second) third)
tables_of {prepared} {q} none first second third few few' few'' size same same' same'' led led' led'' =
    let one = put_sets 0 none first in
    let two = put_sets 128 one second in
    let fits : 2 * 0 + 256 ≤ length none = omega arith in
    let one_size : length one ≡ 768 = put_length 0 none first fits same ∙ size in
    let fits' : 2 * 128 + 256 ≤ length one = omega arith in
    let two_size : length two ≡ 768 = put_length 128 one second fits' same' ∙ one_size in
    let fits'' : 2 * 256 + 256 ≤ length two = omega arith in
    record {
      size = put_length 256 two third fits'' same'' ∙ two_size;
      part_led =
          led_kept prepared q.part few 256 0 two third fits'' same'' (omega arith)
          (led_kept prepared q.part few 128 0 one second fits' same' (omega arith) (led_put prepared q.part few 0 none first fits same led));
      whole_led = led_kept prepared q.whole few' 256 128 two third fits'' same'' (omega arith) (led_put prepared q.whole few' 128 one second fits' same' led');
      rest_led = led_put prepared q.rest few'' 256 two third fits'' same'' led'';
    }

-- ---- Rows of pairs that share a byte

module _ {prepared : List ℕ} {a b : Automaton} {base : ℕ} where
  pub opened_none : {fresh : List ℕ} → Opened prepared a b base 0 fresh fresh
  opened_none = record { size = refl; rows = λ x l q. absurd (omega arith); others = λ i l. refl; others_behind = λ i l. refl }

  pub opened_more :
      {n : ℕ} {s : Set} {before mid after : List ℕ}
      → Opened prepared a b base n before mid
      → Gathered b.count (by_sharing prepared (a.start + n) b.start) s
      → Stored mid (base + n) s after
      → Opened prepared a b base (n + 1) before after
  opened_more {n} {s} {before} {mid} {after} known found stored =
      record {
        size = stored.same_length ∙ known.size;
        rows = row;
        others = λ i l. stored.kept i (λ e. omega arith) ∙ known.others i l;
        others_behind = λ i l. stored.kept i (λ e. omega arith) ∙ known.others_behind i (omega arith);
      }
    where
      row : (x : ℕ) → x < n + 1 → (q : ℕ) → (holds (set_at after (2 * (base + x))) q ≡ true) ↔ SharesAt prepared a b x q
      row x l q =
          ⊎_elim
          (λ e. rw (eqb-true x n e, stored.stored) (sharing_iff prepared (a.start + n) b found q))
          (λ e. let other = eqb-false x n e in rw (stored.kept (base + x) (λ same. omega arith)) (known.rows x (omega arith) q))
          (bool_cases (eqb x n))

-- the pairs of the part, and then those of the whole and the rest
pub fresh_of :
    {prepared : List ℕ} {q : Quest} {none early all : List ℕ}
    → q.part.count ≤ 128
    → Cleared 512 none
    → Opened prepared q.part q.part 0 q.part.count none early
    → Opened prepared q.whole q.rest 128 q.whole.count early all
    → FreshIn prepared q all
fresh_of {prepared} {q} {none} {early} {all} few cleared first second =
    record {
      size = second.size ∙ first.size ∙ cleared.long;
      early_iff = λ x l p. rw (second.others x l)
          (split_at x q.part.count
          (λ k. let found = rw (zero-add x) at (first.rows x k p) in (λ e. (k, found.0 e), λ h. found.1 h.1))
          (λ k. (λ e. absurd (not_both e (empty x p k)), λ h. absurd (omega (arith, h.0)))));
      late_iff = λ x l p.
          split_at x q.whole.count
          (λ k. let found = second.rows x k p in (λ e. (k, found.0 e), λ h. found.1 h.1))
          (λ k. (
            λ e. absurd (not_both e (rw (second.others_behind (128 + x) (omega arith)) (empty (128 + x) p (omega arith)))),
            λ h. absurd (omega (arith, h.0)),
          ));
    }
  where
    empty : (i p : ℕ) → q.part.count ≤ i → holds (set_at early (2 * i)) p ≡ false
    empty i p l = rw (first.others_behind i (omega arith)) (cleared.none_held i p)

-- ---- All pairs that share a byte are fresh

-- the first n pairs of a row, and of the rows from `base` on
abbrev columns_of : ℕ → ℕ → List ℕ
columns_of row zero = []
columns_of row (suc n) = (128 * row + n) ∷ columns_of row n

abbrev rows_of : ℕ → ℕ → ℕ → List ℕ
rows_of base zero n = []
rows_of base (suc m) n = columns_of (base + m) n ++ rows_of base m n

columns_length : (row n : ℕ) → length (columns_of row n) ≡ n
columns_length row zero = refl
columns_length row (suc n) = ap suc (columns_length row n)

rows_length : (base m n : ℕ) → length (rows_of base m n) ≡ m * n
rows_length base zero n = sym (zero-mul n)
rows_length base (suc m) n =
    length-append (columns_of (base + m) n) (rows_of base m n) ∙ ap₂ ◌+◌ (columns_length (base + m) n) (rows_length base m n) ∙ omega arith

-- each pair of these rows and columns is there,
column_member : (row n pair : ℕ) → pair / 128 ≡ row → pair % 128 < n → Member pair (columns_of row n)
column_member row zero pair e l = absurd (omega arith)
column_member row (suc n) pair e l =
    split_at (pair % 128) n (λ k. inr (column_member row n pair e k)) (λ k. inl (omega arith))

row_member : (base m n pair : ℕ) → base ≤ pair / 128 → pair / 128 < base + m → pair % 128 < n → Member pair (rows_of base m n)
row_member base zero n pair from to l = absurd (omega arith)
row_member base (suc m) n pair from to l =
    split_at (pair / 128) (base + m)
    (λ k. member_right pair (columns_of (base + m) n) (rows_of base m n) (row_member base m n pair from k l))
    (λ k. member_left pair (columns_of (base + m) n) (rows_of base m n) (column_member (base + m) n pair (omega arith) l))

-- and no other
column_below : (row n pair : ℕ) → Member pair (columns_of row n) → pair < 128 * row + n
column_below row zero pair i = absurd i
column_below row (suc n) pair (inl e) = omega arith
column_below row (suc n) pair (inr i) = let l = column_below row n pair i in omega arith

row_below : (base m n pair : ℕ) → n ≤ 128 → Member pair (rows_of base m n) → pair < 128 * (base + m)
row_below base zero n pair few i = absurd i
row_below base (suc m) n pair few i =
    ⊎_elim
    (λ j. let l = column_below (base + m) n pair j in omega arith)
    (λ j. let l = row_below base m n pair few j in omega arith)
    (member_append pair (columns_of (base + m) n) (rows_of base m n) i)

-- two tests of numbers at once
both_iff : (a b c d : ℕ) → (ltb a b && ltb c d ≡ true) ↔ ((a < b) × (c < d))
both_iff a b c d = (
  λ e. let (u, v) = and_both (ltb a b) (ltb c d) e in (ltb-true a b u, ltb-true c d v),
  λ h. and_of (ltb a b) (ltb c d) (lt-ltb a b h.0) (lt-ltb c d h.1),
)

-- Where the rows of a pair are, and whether its positions are those of the automata: of the part,
module _ (q : Quest) (pair : ℕ) (early : pair / 128 < 128) where
  left_early : left_row q pair ≡ q.part.start + pair / 128
  unfolding left_row
  left_early = cond_true (ltb (pair / 128) 128) _ _ (lt-ltb (pair / 128) 128 early)

  right_early : right_row q pair ≡ q.part.start + pair % 128
  unfolding right_row
  right_early = cond_true (ltb (pair / 128) 128) _ _ (lt-ltb (pair / 128) 128 early)

  inside_early : (inside_of q pair ≡ true) ↔ ((pair / 128 < q.part.count) × (pair % 128 < q.part.count))
  unfolding inside_of
  inside_early =
      rw (cond_true (ltb (pair / 128) 128) (ltb (pair / 128) q.part.count && ltb (pair % 128) q.part.count) _ (lt-ltb (pair / 128) 128 early))
      (both_iff (pair / 128) q.part.count (pair % 128) q.part.count)

-- or of the whole and the rest
module _ (q : Quest) (pair : ℕ) (late : 128 ≤ pair / 128) where
  left_late : left_row q pair ≡ q.whole.start + (pair / 128 - 128)
  unfolding left_row
  left_late = cond_false (ltb (pair / 128) 128) _ _ (le-ltb (pair / 128) 128 late)

  right_late : right_row q pair ≡ q.rest.start + pair % 128
  unfolding right_row
  right_late = cond_false (ltb (pair / 128) 128) _ _ (le-ltb (pair / 128) 128 late)

  inside_late : (inside_of q pair ≡ true) ↔ ((pair / 128 < 128 + q.whole.count) × (pair % 128 < q.rest.count))
  unfolding inside_of
  inside_late =
      rw (cond_false (ltb (pair / 128) 128) _ (ltb (pair / 128) (128 + q.whole.count) && ltb (pair % 128) q.rest.count) (le-ltb (pair / 128) 128 late))
      (both_iff (pair / 128) (128 + q.whole.count) (pair % 128) q.rest.count)

-- the positions of a pair are those of the automata and share a byte
abbrev Meeting : List ℕ → Quest → ℕ → Type 0
Meeting prepared q pair = (inside_of q pair ≡ true) × (share_in prepared (left_row q pair) (right_row q pair) ≡ true)

-- these pairs are those of the graph that share a byte
shared_iff : (prepared : List ℕ) (q : Quest) (leads : List ℕ) (pair : ℕ) → Shared (graph_of prepared q leads) pair ↔ Meeting prepared q pair
unfolding graph_of
shared_iff prepared q leads pair =
    let shares = share_iff prepared (left_row q pair) (right_row q pair) in (
      λ h.
          let (c, l, e) = h in
          let (inside, stand) = and_both _ _ e in
          let (u, v) = and_both _ _ stand in
          (inside, shares.1 (c, u, v)),
      λ h.
          let (c, u, v) = shares.0 h.1 in
          (c, stands_byte prepared (left_row q pair) c u, and_of _ _ h.0 (and_of _ _ u v)),
    )

module _
    {prepared : List ℕ} {q : Quest} {fresh : List ℕ}
    (known : FreshIn prepared q fresh)
    (pair : ℕ) where
  -- a pair of the part is fresh where it meets,
  early_fresh : pair / 128 < 128 → (held_in fresh 0 pair ≡ true) ↔ Meeting prepared q pair
  early_fresh l =
      let held = known.early_iff (pair / 128) l (pair % 128) in
      rw (zero-add (pair / 128), left_early q pair l, right_early q pair l) (
        λ e. let (x, y) = held.0 e in ((inside_early q pair l).1 (x, y.0), y.1),
        λ h. let (x, y) = (inside_early q pair l).0 h.0 in held.1 (x, (y, h.1)),
      )

  -- and so is one of the whole and the rest
  late_fresh : 128 ≤ pair / 128 → pair < 32768 → (held_in fresh 0 pair ≡ true) ↔ Meeting prepared q pair
  late_fresh l below =
      let row : 128 + (pair / 128 - 128) ≡ pair / 128 = omega arith in
      let held = rw row at (known.late_iff (pair / 128 - 128) (omega arith) (pair % 128)) in
      rw (zero-add (pair / 128), left_late q pair l, right_late q pair l) (
        λ e. let (x, y) = held.0 e in ((inside_late q pair l).1 (omega arith, y.0), y.1),
        λ h. let (x, y) = (inside_late q pair l).0 h.0 in held.1 (omega arith, (y, h.1)),
      )

  fresh_iff : pair < 32768 → (held_in fresh 0 pair ≡ true) ↔ Meeting prepared q pair
  fresh_iff below = split_at (pair / 128) 128 (λ l. early_fresh l) (λ l. late_fresh l below)

-- what is set has a row, and so it is one of the pairs
held_below : (fresh : List ℕ) (pair : ℕ) → length fresh ≡ 512 → held_in fresh 0 pair ≡ true → pair < 32768
held_below fresh pair size e =
    split_at pair 32768
    (λ l. l)
    (λ l.
    let i = 2 * (0 + pair / 128) in
    absurd (not_both e (nothing_held (set_at fresh i) (past i (omega arith)) (past (i + 1) (omega arith)) (pair % 128))))
  where
    past : (i : ℕ) → 512 ≤ i → get_or fresh i 0 ≡ 0
    past i l = get_or-eq_default fresh 0 (omega arith)

-- the pairs of positions of the automata
abbrev pairs_of : Quest → List ℕ
pairs_of q = rows_of 0 q.part.count q.part.count ++ rows_of 128 q.whole.count q.rest.count

inside_member : (q : Quest) (pair : ℕ) → inside_of q pair ≡ true → Member pair (pairs_of q)
inside_member q pair inside =
    let early = rows_of 0 q.part.count q.part.count in
    let late = rows_of 128 q.whole.count q.rest.count in
    split_at (pair / 128) 128
    (λ l.
    let (x, y) = (inside_early q pair l).0 inside in
    member_left pair early late (row_member 0 q.part.count q.part.count pair (omega arith) (omega arith) y))
    (λ l.
    let (x, y) = (inside_late q pair l).0 inside in
    member_right pair early late (row_member 128 q.whole.count q.rest.count pair l x y))

-- What fill_fresh and fill_tables leave is a queue with nothing found, in which exactly the pairs that share a byte are fresh.
pub all_fresh :
    (prepared : List ℕ) (q : Quest) (leads order fresh : List ℕ)
    → q.part.count ≤ 128
    → q.whole.count ≤ 128
    → q.rest.count ≤ 128
    → FreshIn prepared q fresh
    → q.part.count * q.part.count + q.whole.count * q.rest.count ≤ length order
    → AllFresh (graph_of prepared q leads) order fresh
all_fresh prepared q leads order fresh few few' few'' known room =
    record {
      queue =
          record {
            pairs = pairs_of q;
            room = omega (arith, many);
            cells = known.size;
            fresh_in = λ pair e. inside_member q pair (meets pair e).0;
            found_in = λ i l. absurd (omega arith);
            below = λ pair i.
                ⊎_elim
                (λ j. omega (arith, row_below 0 q.part.count q.part.count pair few j))
                (λ j. omega (arith, row_below 128 q.whole.count q.rest.count pair few'' j))
                (member_append pair (rows_of 0 q.part.count q.part.count) (rows_of 128 q.whole.count q.rest.count) i);
            closed = λ i l. absurd (omega arith);
            different = λ i j l k. absurd (omega arith);
          };
      fresh_shared = λ pair e. (shared_iff prepared q leads pair).1 (meets pair e);
      shared_fresh = λ pair l h. (fresh_iff known pair l).1 ((shared_iff prepared q leads pair).0 h);
    }
  where
    meets : (pair : ℕ) → held_in fresh 0 pair ≡ true → Meeting prepared q pair
    meets pair e = (fresh_iff known pair (held_below fresh pair known.size e)).0 e

    many : length (pairs_of q) ≡ q.part.count * q.part.count + q.whole.count * q.rest.count
    many =
        length-append (rows_of 0 q.part.count q.part.count) (rows_of 128 q.whole.count q.rest.count)
        ∙ ap₂ ◌+◌ (rows_length 0 q.part.count q.part.count) (rows_length 128 q.whole.count q.rest.count)

-- ---- The rows of the pairs

-- A pair that shares a byte has its rows in the prepared program.
pub room_of :
    {prepared : List ℕ} {q : Quest} (leads : List ℕ) (pair : ℕ)
    → Rooms prepared q
    → Shared (graph_of prepared q leads) pair
    → PairRoom prepared q pair
room_of {prepared} {q} leads pair rooms shared =
    let inside = ((shared_iff prepared q leads pair).0 shared).0 in
    split_at (pair / 128) 128
    (λ l.
    let (x, y) = (inside_early q pair l).0 inside in
    record {
      inside = inside;
      left = rw (left_early q pair l) (rooms.part_room.rows (pair / 128) x);
      right = rw (right_early q pair l) (rooms.part_room.rows (pair % 128) y);
    })
    (λ l.
    let (x, y) = (inside_late q pair l).0 inside in
    record {
      inside = inside;
      left = rw (left_late q pair l) (rooms.whole_room.rows (pair / 128 - 128) (omega arith));
      right = rw (right_late q pair l) (rooms.rest_room.rows (pair % 128) y);
    })

-- It is one of the 32,768 pairs.
pub shared_below :
    (q : Quest) (prepared leads : List ℕ) (pair : ℕ)
    → q.whole.count ≤ 128
    → Shared (graph_of prepared q leads) pair
    → pair < 32768
shared_below q prepared leads pair few shared =
    let inside = ((shared_iff prepared q leads pair).0 shared).0 in
    split_at (pair / 128) 128 (λ l. omega arith) (λ l. let (x, y) = (inside_late q pair l).0 inside in omega arith)

-- Each entry before the end of the last layer is in a layer, and so it shares a byte.
pub entry_shared :
    {g : Graph} {order starts : List ℕ} {depth : ℕ}
    → Layered g order starts depth
    → (i : ℕ)
    → i < get_or starts (depth + 1) 0
    → Shared g (get_or order i 0)
entry_shared {g} {order} {starts} {depth} layered i l = up (depth + 1) (omega arith) l
  where
    up : (n : ℕ) → n ≤ depth + 1 → i < get_or starts n 0 → Shared g (get_or order i 0)
    up zero few k = absurd (omega (arith, layered.first))
    up (suc n) few k =
        split_at i (get_or starts n 0)
        (λ before. up n (omega arith) before)
        (λ from. (layered.in_layer n i (omega arith) (record { from = from; to = rw (add-one n) k })).1)
