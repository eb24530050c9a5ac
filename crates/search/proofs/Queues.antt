-- Pairs that are found: one, none, some and then others, and the rows, patches and layers that are made of these. Assumes nothing.
use mathlib.Core.Path.{◌≡◌, refl, sym, ap, subst, ◌∙◌}
use mathlib.Core.Bool.{Bool, true, false, not, ◌&&◌}
use mathlib.Core.List.{List, [], ◌∷◌}
use mathlib.Core.Logic.{◌⊎◌, inl, inr, ⊎_elim, ◌↔◌}
use Prim.Native.Nat.{ℕ, zero, suc, ◌+◌, ◌-◌, ◌*◌, ◌/◌, ◌%◌, ◌≤◌, ◌<◌}
use native.Mathlib.Omega.{arith}
use borrow.Author.Tests.{eqb-true, eqb-false, eq-eqb, ne_eqb, ltb-true, ltb-false, leb-true, le-leb}
use lib.Dec.{eqb, ltb, leb}
use lib.ListN.{length, get_or, set, length-set}
use lib.Seq.{get_or-set_same, get_or-set_other}
use Rattle.semantics.specs.Text.{Member, Different}
use Rattle.laws.specs.Basics.{bool_cases, not_both, false_of_not_true, and_both, and_of, or_either, or_left, or_right}
use Rattle.clash.proofs.Bound.{different_length}
use Rattle.positions.specs.declared.Set.{Set}
use Rattle.positions.specs.Positions.{holds, Met, Removed}
use Rattle.positions.specs.declared.Below.{Below}
use Rattle.positions.specs.Below.{Taken, Done}
use Rattle.positions.proofs.Walk.{taken_gone, taken_other, taken_before}
use Rattle.positions.proofs.Bits.{same_test, holds_past}
use Rattle.automaton.specs.Rows.{set_at}
use Rattle.language.specs.Sets.{Stored}
use Rattle.search.specs.declared.patches.Patch.{Patch}
use Rattle.search.specs.declared.patches.Quest.{Quest}
use Rattle.search.specs.Pairs.{
  held_in,
  in_patch,
  pair_in,
  before_of,
  linked_of,
  no_patch,
  precedes_in,
  begins_in,
  graph_of,
  PatchFits,
  QuestFits,
}
use Rattle.search.specs.Queue.{Queue, Found, OfRow, BeforeOne, Before}
use Rattle.search.specs.Layers.{Bounded}

-- ---- There is room

-- the first n values of f, the last of them first
abbrev firsts : ℕ → (ℕ → ℕ) → List ℕ
firsts zero f = []
firsts (suc n) f = f n ∷ firsts n f

firsts_length : (n : ℕ) (f : ℕ → ℕ) → length (firsts n f) ≡ n
firsts_length zero f = refl
firsts_length (suc n) f = ap suc (firsts_length n f)

-- each of them is a value below n
firsts_member : (n : ℕ) (f : ℕ → ℕ) (x : ℕ) → Member x (firsts n f) → (i : ℕ) × (i < n) × (x ≡ f i)
firsts_member zero f x m = absurd m
firsts_member (suc n) f x (inl e) = (n, omega arith, e)
firsts_member (suc n) f x (inr m) = let (i, l, e) = firsts_member n f x m in (i, omega arith, e)

-- values that differ make a list without repeats
firsts_different : (n : ℕ) (f : ℕ → ℕ) → ((i j : ℕ) → i < j → j < n → ¬ (f i ≡ f j)) → Different (firsts n f)
firsts_different zero f d = tt
firsts_different (suc n) f d =
    (λ m. let (i, l, e) = firsts_member n f (f n) m in d i n l (omega arith) (sym e), firsts_different n f (λ i j l k. d i j l (omega arith)))

module _ {order fresh : List ℕ} {count : ℕ} (queue : Queue order fresh count) where
  abbrev entry : ℕ → ℕ
  entry i = get_or order i 0

  found_member : (x : ℕ) → Member x (firsts count entry) → Member x queue.pairs
  found_member x m = let (i, l, e) = firsts_member count entry x m in subst (λ (k : ℕ). Member k queue.pairs) (sym e) (queue.found_in i l)

  -- The found ones are different members of `pairs`, so they are at most as many as the order has room for.
  pub queue_room : count ≤ length order
  queue_room =
      let few = different_length (firsts count entry) queue.pairs (firsts_different count entry queue.different) found_member in
      omega (arith, few, firsts_length count entry, queue.room)

  -- What is found is a pair.
  pub entry_below : (i : ℕ) → i < count → get_or order i 0 < 32768
  entry_below i l = queue.below (get_or order i 0) (queue.found_in i l)

  -- While a pair is fresh there is room for one more.
  pub push_room : (pair : ℕ) → held_in fresh 0 pair ≡ true → count < length order
  push_room pair held =
      let few =
      different_length (pair ∷ firsts count entry) queue.pairs (new, firsts_different count entry queue.different)
      (λ x. ⊎_elim (λ e. subst (λ (k : ℕ). Member k queue.pairs) (sym e) (queue.fresh_in pair held)) (found_member x)) in
      omega (arith, few, firsts_length count entry, queue.room)
    where
      new : ¬ Member pair (firsts count entry)
      new m = let (i, l, e) = firsts_member count entry pair m in not_both (subst (λ (k : ℕ). held_in fresh 0 k ≡ true) e held) (queue.closed i l)

-- ---- None, and some and then others

-- Where P holds of no fresh pair, nothing is to be found.
pub found_none :
    {P : ℕ → Type 0} {order fresh : List ℕ} {count : ℕ} → Queue order fresh count → ((pair : ℕ) → held_in fresh 0 pair ≡ true → ¬ P pair)
    → Found P order fresh count order fresh count
found_none queue none =
    record {
      queue = queue;
      size = refl;
      more = omega arith;
      kept = λ i l. refl;
      only = λ i l k. absurd (omega arith);
      all_found = λ pair held p. absurd (none pair held p);
      still = λ pair held. inl held;
      was_fresh = λ pair held. held;
    }

-- What is found may be said otherwise, where that is the same for the fresh pairs.
pub found_same :
    {P Q : ℕ → Type 0} {order fresh order' fresh' : List ℕ} {count count' : ℕ} → ((pair : ℕ) → held_in fresh 0 pair ≡ true → P pair ↔ Q pair)
    → Found P order fresh count order' fresh' count' → Found Q order fresh count order' fresh' count'
found_same same found =
    record {
      queue = found.queue;
      size = found.size;
      more = found.more;
      kept = found.kept;
      only = λ i l k. let (held, p) = found.only i l k in (held, (same _ held).0 p);
      all_found = λ pair held q. found.all_found pair held ((same pair held).1 q);
      still = found.still;
      was_fresh = found.was_fresh;
    }

-- Those of P are found and then, of what is still fresh, those of Q.
pub found_then :
    {P Q : ℕ → Type 0} {a b c d e f : List ℕ} {m n o : ℕ} → Found P a b m c d n → Found Q c d n e f o → Found (λ pair. P pair ⊎ Q pair) a b m e f o
found_then {P} {Q} {a} {b} {c} {d} {e} {f} {m} {n} {o} first second =
    record {
      queue = second.queue;
      size = second.size ∙ first.size;
      more = omega (arith, first.more, second.more);
      kept = λ i l. second.kept i (omega (arith, first.more)) ∙ first.kept i l;
      only = λ i l k. ⊎_elim (λ t. earlier i l (ltb-true i n t)) (λ t. later i (ltb-false i n t) k) (bool_cases (ltb i n));
      all_found = λ pair held.
          ⊎_elim
          (λ p. keeps pair (first.all_found pair held p))
          (λ q. ⊎_elim (λ new. adds pair (second.all_found pair new q)) (keeps pair) (first.still pair held));
      still = λ pair held.
          ⊎_elim (λ new. ⊎_elim (λ h. inl h) (λ x. inr (adds pair x)) (second.still pair new)) (λ x. inr (keeps pair x)) (first.still pair held);
      was_fresh = λ pair held. first.was_fresh pair (second.was_fresh pair held);
    }
  where
    earlier : (i : ℕ) → m ≤ i → i < n → (held_in b 0 (get_or e i 0) ≡ true) × (P (get_or e i 0) ⊎ Q (get_or e i 0))
    earlier i l k = let (held, p) = first.only i l k in rw (second.kept i k) (held, inl p)

    later : (i : ℕ) → n ≤ i → i < o → (held_in b 0 (get_or e i 0) ≡ true) × (P (get_or e i 0) ⊎ Q (get_or e i 0))
    later i l k = let (held, q) = second.only i l k in (first.was_fresh (get_or e i 0) held, inr q)

    keeps : (pair : ℕ) → (i : ℕ) × (m ≤ i) × (i < n) × (get_or c i 0 ≡ pair) → (i : ℕ) × (m ≤ i) × (i < o) × (get_or e i 0 ≡ pair)
    keeps pair (i, l, k, x) = (i, l, omega (arith, second.more), second.kept i k ∙ x)

    adds : (pair : ℕ) → (i : ℕ) × (n ≤ i) × (i < o) × (get_or e i 0 ≡ pair) → (i : ℕ) × (m ≤ i) × (i < o) × (get_or e i 0 ≡ pair)
    adds pair (i, l, k, x) = (i, omega (arith, first.more), k, x)

-- A pair of which P does not hold stays fresh.
pub found_not :
    {P : ℕ → Type 0} {order fresh order' fresh' : List ℕ} {count count' : ℕ} → Found P order fresh count order' fresh' count'
    → (pair : ℕ) → held_in fresh 0 pair ≡ true → ¬ P pair → held_in fresh' 0 pair ≡ true
found_not {P} found pair held other =
    ⊎_elim (λ h. h) (λ (i, l, k, e). absurd (other (subst P e (found.only i l k).1))) (found.still pair held)

-- ---- One pair

-- A pair is fresh if its row holds its column.
pub held_at : (fresh : List ℕ) (row column pair : ℕ) → pair / 128 ≡ row → pair % 128 ≡ column → held_in fresh 0 pair ≡ holds (set_at fresh (2 * row)) column
held_at fresh row column pair of_row of_column = let r : 0 + pair / 128 ≡ row = omega arith in rw (r, of_column)

module _
    {fresh fresh' : List ℕ} {row column one : ℕ} {left : Set} (is : one ≡ 128 * row + column) (inside : column < 128)
    (removed : Removed (set_at fresh (2 * row)) column left) (stored : Stored fresh row left fresh')
  where
    -- Its row is without its column.
    at_row : (r q : ℕ) → r ≡ row → holds (set_at fresh' (2 * r)) q ≡ (not (eqb q column) && holds (set_at fresh (2 * r)) q)
    at_row r q e = rw (e, stored.stored) (removed q)

    -- Once a pair is taken out of its row, the others are held as before.
    held_after : (pair : ℕ) → held_in fresh' 0 pair ≡ (not (eqb pair one) && held_in fresh 0 pair)
    held_after pair = ⊎_elim (λ e. here (eqb-true (pair / 128) row e)) (λ e. there (eqb-false (pair / 128) row e)) (bool_cases (eqb (pair / 128) row))
      where
        same : pair / 128 ≡ row → eqb (pair % 128) column ≡ eqb pair one
        same e = same_test (pair % 128) column pair one (λ x. omega arith) (λ x. omega arith)

        here : pair / 128 ≡ row → held_in fresh' 0 pair ≡ (not (eqb pair one) && held_in fresh 0 pair)
        here e = at_row (0 + pair / 128) (pair % 128) (omega arith) ∙ ap (λ (b : Bool). not b && held_in fresh 0 pair) (same e)

        there : ¬ (pair / 128 ≡ row) → held_in fresh' 0 pair ≡ (not (eqb pair one) && held_in fresh 0 pair)
        there ne = rw (ne_eqb pair one (λ x. ne (omega arith)), stored.kept (0 + pair / 128) (λ x. ne (omega arith)))

    -- That pair is not,
    held_gone : held_in fresh' 0 one ≡ false
    held_gone = held_after one ∙ rw (eq-eqb one one refl)

    -- what is was so before,
    held_before : (pair : ℕ) → held_in fresh' 0 pair ≡ true → held_in fresh 0 pair ≡ true
    held_before pair held = (and_both (not (eqb pair one)) (held_in fresh 0 pair) (sym (held_after pair) ∙ held)).1

    -- and what is another stays.
    held_other : (pair : ℕ) → ¬ (pair ≡ one) → held_in fresh' 0 pair ≡ held_in fresh 0 pair
    held_other pair ne = held_after pair ∙ rw (ne_eqb pair one ne)

    -- It is found.
    pub found_one :
        {order : List ℕ} {count : ℕ} → Queue order fresh count → held_in fresh 0 one ≡ true
        → Found (λ pair. pair ≡ one) order fresh count (set order count one) fresh' (count + 1)
    found_one {order} {count} queue held =
        record {
          queue =
              record {
                pairs = queue.pairs;
                room = rw length-set queue.room;
                cells = stored.same_length ∙ queue.cells;
                fresh_in = λ pair h. queue.fresh_in pair (held_before pair h);
                found_in = λ i l. at_each (λ k. Member k queue.pairs) i l (queue.found_in i) (queue.fresh_in one held);
                below = queue.below;
                closed = λ i l. at_each (λ k. held_in fresh' 0 k ≡ false) i l (λ k. held_other (get_or order i 0) (differs i k) ∙ queue.closed i k) held_gone;
                different = λ i j l k.
                    at_each (λ x. ¬ (get_or (set order count one) i 0 ≡ x)) j k
                    (λ m e. queue.different i j l m (sym (other i (omega arith)) ∙ e))
                    (λ e. differs i (omega arith) (sym (other i (omega arith)) ∙ e));
              };
          size = length-set order count one;
          more = omega arith;
          kept = other;
          only = λ i l k. let e : i ≡ count = omega arith in rw (e, last) (held, refl);
          all_found = λ pair h e. (count, omega arith, omega arith, last ∙ sym e);
          still = λ pair h.
              ⊎_elim
              (λ e. inr (count, omega arith, omega arith, last ∙ sym (eqb-true pair one e)))
              (λ e. inl (held_other pair (eqb-false pair one e) ∙ h))
              (bool_cases (eqb pair one));
          was_fresh = held_before;
        }
      where
        last : get_or (set order count one) count 0 ≡ one
        last = get_or-set_same order count one 0 (push_room queue one held)

        other : (i : ℕ) → i < count → get_or (set order count one) i 0 ≡ get_or order i 0
        other i l = get_or-set_other order count i one 0 (λ e. omega arith)

        at_each : (P : ℕ → Type 0) (i : ℕ) → i < count + 1 → (i < count → P (get_or order i 0)) → P one → P (get_or (set order count one) i 0)
        at_each P i l old new =
            ⊎_elim
            (λ e. let k = ltb-true i count e in rw (other i k) (old k))
            (λ e. let k = ltb-false i count e in let same : i ≡ count = omega arith in rw (same, last) new)
            (bool_cases (ltb i count))

        differs : (i : ℕ) → i < count → ¬ (get_or order i 0 ≡ one)
        differs i l e = not_both held (subst (λ (k : ℕ). held_in fresh 0 k ≡ false) e (queue.closed i l))

-- ---- A walk over the positions of a set

-- what the first holds, the second does
abbrev pub IsWithin : Set → Set → Type 0
IsWithin left s = (p : ℕ) → holds left p ≡ true → holds s p ≡ true

module _ {walk after : Below} {n : ℕ} (taken : Taken walk n after) where
  -- what comes was left
  pub taken_left : holds walk.left n ≡ true
  taken_left = taken.first.held taken.small

  pub within_after : (s : Set) → IsWithin walk.left s → IsWithin after.left s
  within_after s within p h = within p (taken_before taken p h)

  -- what is not left stays so
  still_gone : (p : ℕ) → holds walk.left p ≡ false → holds after.left p ≡ false
  still_gone p gone = false_of_not_true (holds after.left p) (λ h. not_both (taken_before taken p h) gone)

-- ---- The pairs of a row

-- the pairs of a row with a column of the set that is not left
pub record RowPast (row : ℕ) (columns left : Set) (pair : ℕ) : Type 0 where
  pub of_row : OfRow row columns pair
  pub gone : holds left (pair % 128) ≡ false

-- none before the first column
pub row_begins : (row : ℕ) (found : Set) {order fresh : List ℕ} {count : ℕ} → Queue order fresh count → Found (RowPast row found found) order fresh count order fresh count
row_begins row found queue = found_none queue (λ pair held p. not_both p.of_row.1 p.gone)

module _ (row : ℕ) (columns found : Set) {order fresh : List ℕ} {count : ℕ} (met : Met (set_at fresh (2 * row)) columns found) where
  module _ {walk after : Below} {column : ℕ} (taken : Taken walk column after) where
    -- the pair of the column that comes is still fresh
    pub row_fresh :
        {order' fresh' : List ℕ} {count' : ℕ} → IsWithin walk.left found → Found (RowPast row found walk.left) order fresh count order' fresh' count'
        → held_in fresh' 0 (128 * row + column) ≡ true
    row_fresh within known =
        let inside = taken.small in
        let here : (128 * row + column) % 128 ≡ column = omega arith in
        found_not known (128 * row + column)
        (held_at fresh row column (128 * row + column) (omega arith) here
        ∙ (and_both (holds (set_at fresh (2 * row)) column) (holds columns column) (sym (met column) ∙ within column (taken_left taken))).0)
        (λ p. not_both (taken_left taken) (rw here at p.gone))

    -- one more
    pub row_more :
        {order' fresh' order'' fresh'' : List ℕ} {count' count'' : ℕ} → IsWithin walk.left found
        → Found (RowPast row found walk.left) order fresh count order' fresh' count'
        → Found (λ pair. pair ≡ 128 * row + column) order' fresh' count' order'' fresh'' count''
        → Found (RowPast row found after.left) order fresh count order'' fresh'' count''
    row_more within known one = found_same (λ pair fresh-there. (there pair, back pair)) (found_then known one)
      where
        there : (pair : ℕ) → RowPast row found walk.left pair ⊎ (pair ≡ 128 * row + column) → RowPast row found after.left pair
        there pair (inl p) = record { of_row = p.of_row; gone = still_gone taken (pair % 128) p.gone }
        there pair (inr e) =
            let inside = taken.small in
            let of_column : pair % 128 ≡ column = omega arith in
            record { of_row = (omega arith, rw of_column (within column (taken_left taken))); gone = rw of_column (taken_gone taken) }

        back : (pair : ℕ) → RowPast row found after.left pair → RowPast row found walk.left pair ⊎ (pair ≡ 128 * row + column)
        back pair p =
            ⊎_elim
            (λ same. inr (let at = eqb-true (pair % 128) column same in omega (arith, p.of_row.0)))
            (λ ne. inl (record { of_row = p.of_row; gone = sym (taken_other taken (pair % 128) (eqb-false (pair % 128) column ne)) ∙ p.gone }))
            (bool_cases (eqb (pair % 128) column))

  -- all of them
  pub row_all :
      {walk : Below} {order' fresh' : List ℕ} {count' : ℕ} → Done walk → 128 ≤ walk.end
      → Found (RowPast row found walk.left) order fresh count order' fresh' count' → Found (OfRow row columns) order fresh count order' fresh' count'
  row_all {walk} done far = found_same (λ pair held. (there pair, back pair held))
    where
      there : (pair : ℕ) → RowPast row found walk.left pair → OfRow row columns pair
      there pair p = (p.of_row.0, (and_both (holds (set_at fresh (2 * row)) (pair % 128)) (holds columns (pair % 128)) (sym (met (pair % 128)) ∙ p.of_row.1)).1)

      back : (pair : ℕ) → held_in fresh 0 pair ≡ true → OfRow row columns pair → RowPast row found walk.left pair
      back pair held (e, h) =
          let here = sym (held_at fresh row (pair % 128) pair e refl) ∙ held in
          record {
            of_row = (e, met (pair % 128) ∙ and_of (holds (set_at fresh (2 * row)) (pair % 128)) (holds columns (pair % 128)) here h);
            gone = done.none_left (pair % 128) (omega arith);
          }

-- ---- The pairs of a patch

-- A pair is in a patch if its row is one of the patch's rows, and its column one of the columns.
pub in_patch_parts :
    (b : Patch) (row column : ℕ) → in_patch b row column ≡ true → (b.base ≤ row) × (holds b.rows (row - b.base) ≡ true) × (holds b.columns column ≡ true)
unfolding in_patch
in_patch_parts b row column e =
    let (upper, more) = and_both (leb b.base row) (holds b.rows (row - b.base) && holds b.columns column) e in
    let (of_row, of_column) = and_both (holds b.rows (row - b.base)) (holds b.columns column) more in
    (leb-true b.base row upper, of_row, of_column)

pub in_patch_of :
    (b : Patch) (row column : ℕ) → b.base ≤ row → holds b.rows (row - b.base) ≡ true → holds b.columns column ≡ true → in_patch b row column ≡ true
unfolding in_patch
in_patch_of b row column upper of_row of_column =
    and_of (leb b.base row) (holds b.rows (row - b.base) && holds b.columns column) (le-leb b.base row upper)
    (and_of (holds b.rows (row - b.base)) (holds b.columns column) of_row of_column)

-- No set holds a position from 128 on.
pub held_below : (s : Set) (p : ℕ) → holds s p ≡ true → p < 128
held_below s p held = ⊎_elim (λ e. ltb-true p 128 e) (λ e. absurd (not_both held (holds_past s p (ltb-false p 128 e)))) (bool_cases (ltb p 128))

-- A patch that keeps to the rows has pairs below 32,768.
pub patch_below : (b : Patch) (pair : ℕ) → PatchFits b → pair_in b pair ≡ true → pair < 32768
patch_below b pair fits_in e =
    let (upper, of_row, of_column) = in_patch_parts b (pair / 128) (pair % 128) e in
    omega (arith, fits_in.base_low, held_below b.rows (pair / 128 - b.base) of_row)

-- the pairs of a patch whose row is not left
pub record PatchPast (b : Patch) (left : Set) (pair : ℕ) : Type 0 where
  pub in_it : pair_in b pair ≡ true
  pub gone : holds left (pair / 128 - b.base) ≡ false

module _ (b : Patch) {order fresh : List ℕ} {count : ℕ} where
  -- none before the first row
  pub patch_begins : Queue order fresh count → Found (PatchPast b b.rows) order fresh count order fresh count
  patch_begins queue =
      found_none queue (λ pair held p. not_both (in_patch_parts b (pair / 128) (pair % 128) p.in_it).1 p.gone)

  -- one row more
  pub patch_more :
      {walk after : Below} {row : ℕ} {order' fresh' order'' fresh'' : List ℕ} {count' count'' : ℕ} → Taken walk row after → IsWithin walk.left b.rows
      → Found (PatchPast b walk.left) order fresh count order' fresh' count'
      → Found (OfRow (b.base + row) b.columns) order' fresh' count' order'' fresh'' count''
      → Found (PatchPast b after.left) order fresh count order'' fresh'' count''
  patch_more {walk} {after} {row} taken within known one = found_same (λ pair fresh-there. (there pair, back pair)) (found_then known one)
    where
      there : (pair : ℕ) → PatchPast b walk.left pair ⊎ OfRow (b.base + row) b.columns pair → PatchPast b after.left pair
      there pair (inl p) = record { in_it = p.in_it; gone = still_gone taken (pair / 128 - b.base) p.gone }
      there pair (inr (e, h)) =
          let at : pair / 128 - b.base ≡ row = omega arith in
          record {
            in_it = in_patch_of b (pair / 128) (pair % 128) (omega arith) (rw at (within row (taken_left taken))) h;
            gone = rw at (taken_gone taken);
          }

      back : (pair : ℕ) → PatchPast b after.left pair → PatchPast b walk.left pair ⊎ OfRow (b.base + row) b.columns pair
      back pair p =
          let (upper, of_row, of_column) = in_patch_parts b (pair / 128) (pair % 128) p.in_it in
          let place = pair / 128 - b.base in
          ⊎_elim
          (λ same. inr (let at = eqb-true place row same in (omega arith, of_column)))
          (λ ne. inl (record { in_it = p.in_it; gone = sym (taken_other taken place (eqb-false place row ne)) ∙ p.gone }))
          (bool_cases (eqb place row))

  -- all of them
  pub patch_all :
      {walk : Below} {order' fresh' : List ℕ} {count' : ℕ} → Done walk → 128 ≤ walk.end
      → Found (PatchPast b walk.left) order fresh count order' fresh' count'
      → Found (λ pair. pair_in b pair ≡ true) order fresh count order' fresh' count'
  patch_all done far =
      found_same
      (λ pair fresh-there. (
        λ p. p.in_it,
        λ e.
            let (upper, of_row, of_column) = in_patch_parts b (pair / 128) (pair % 128) e in
            record { in_it = e; gone = done.none_left (pair / 128 - b.base) (omega (arith, held_below b.rows (pair / 128 - b.base) of_row)) },
      ))

-- ---- The pairs before a pair

-- The patches before a pair keep to the rows.
pub before_fits : (leads : List ℕ) (row column : ℕ) → PatchFits (before_of leads row column)
unfolding before_of
before_fits leads row column =
    ⊎_elim
    (λ e. record { base_low = rw e (omega arith) })
    (λ e. record { base_low = rw e (omega arith) })
    (bool_cases (ltb row 128))

pub linked_fits : (quest : Quest) (leads : List ℕ) (row column : ℕ) → PatchFits (linked_of quest leads row column)
unfolding linked_of no_patch
linked_fits quest leads row column =
    ⊎_elim
    (λ e. record { base_low = rw e (omega arith) })
    (λ e. record { base_low = rw e (omega arith) })
    (bool_cases (leb 128 row && (ltb row (128 + quest.part.count) && holds quest.first column)))

-- Those of its own kind, and then the early ones before a late one, are all before it.
pub visited :
    (quest : Quest) (leads : List ℕ) (next : ℕ) {a b c d e f : List ℕ} {m n o : ℕ}
    → Found (λ pair. pair_in (before_of leads (next / 128) (next % 128)) pair ≡ true) a b m c d n
    → Found (λ pair. pair_in (linked_of quest leads (next / 128) (next % 128)) pair ≡ true) c d n e f o → Found (BeforeOne quest leads next) a b m e f o
unfolding precedes_in
visited quest leads next own early =
    found_same
    (λ pair held. (
      ⊎_elim
          (or_left (pair_in (before_of leads (next / 128) (next % 128)) pair) (pair_in (linked_of quest leads (next / 128) (next % 128)) pair))
          (or_right (pair_in (before_of leads (next / 128) (next % 128)) pair) (pair_in (linked_of quest leads (next / 128) (next % 128)) pair)),
      or_either (pair_in (before_of leads (next / 128) (next % 128)) pair) (pair_in (linked_of quest leads (next / 128) (next % 128)) pair),
    ))
    (found_then own early)

-- ---- The pairs before one of a layer

module _ (quest : Quest) (leads : List ℕ) {order fresh : List ℕ} {from count : ℕ} where
  pub layer_begins : Queue order fresh count → Found (Before quest leads order from from) order fresh count order fresh count
  layer_begins queue = found_none queue (λ pair held (i, l, k, p). omega arith)

  pub layer_more :
      {i : ℕ} {order' fresh' order'' fresh'' : List ℕ} {count' count'' : ℕ} → from ≤ i → Found (Before quest leads order from i) order fresh count order' fresh' count'
      → Found (BeforeOne quest leads (get_or order i 0)) order' fresh' count' order'' fresh'' count''
      → Found (Before quest leads order from (i + 1)) order fresh count order'' fresh'' count''
  layer_more {i} begun known one = found_same (λ pair held. (there pair, back pair)) (found_then known one)
    where
      there : (pair : ℕ) → Before quest leads order from i pair ⊎ BeforeOne quest leads (get_or order i 0) pair → Before quest leads order from (i + 1) pair
      there pair (inl (j, l, k, p)) = (j, l, omega arith, p)
      there pair (inr p) = (i, begun, omega arith, p)

      back : (pair : ℕ) → Before quest leads order from (i + 1) pair → Before quest leads order from i pair ⊎ BeforeOne quest leads (get_or order i 0) pair
      back pair (j, l, k, p) =
          ⊎_elim
          (λ e. inl (j, l, ltb-true j i e, p))
          (λ e. let past = ltb-false j i e in let same : j ≡ i = omega arith in inr (rw same at p))
          (bool_cases (ltb j i))

-- ---- The graph

-- A quest whose patches keep to the rows has pairs below 32,768.
pub graph_bounded : (prepared : List ℕ) (q : Quest) (leads : List ℕ) → QuestFits q → Bounded (graph_of prepared q leads)
unfolding graph_of precedes_in begins_in
graph_bounded prepared q leads fit =
    record {
      before_below = λ pair next e.
          ⊎_elim
          (patch_below (before_of leads (next / 128) (next % 128)) pair (before_fits leads (next / 128) (next % 128)))
          (patch_below (linked_of q leads (next / 128) (next % 128)) pair (linked_fits q leads (next / 128) (next % 128)))
          (or_either (pair_in (before_of leads (next / 128) (next % 128)) pair) (pair_in (linked_of q leads (next / 128) (next % 128)) pair) e);
      ends_below = λ pair. patch_below q.goal pair fit.goal_fits;
      begins_below = λ pair e.
          ⊎_elim
          (patch_below q.early pair fit.early_fits)
          (patch_below q.late pair fit.late_fits)
          (or_either (pair_in q.early pair) (pair_in q.late pair) e);
    }
