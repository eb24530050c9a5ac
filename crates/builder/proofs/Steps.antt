-- The steps that write rows and headers: what each leaves, from the stores and calls that it makes. Assumes nothing.
use mathlib.Core.Path.{◌≡◌, refl, sym, ap, ap₂, ◌∙◌}
use mathlib.Core.Bool.{Bool, true, false, ◌&&◌, ◌||◌}
use mathlib.Core.List.{List, [], ◌∷◌, ◌++◌}
use mathlib.Core.Logic.{⊎_elim}
use Prim.Native.Nat.{ℕ, ◌+◌, ◌-◌, ◌≤◌, ◌<◌}
use native.Mathlib.Omega.{arith}
use lib.Dec.{eqb, ltb}
use mir.Val.{bool_byte}
use lib.ListN.{length, get_or, take, drop, length-append, length-drop}
use lib.Seq.{length-take-le}
use borrow.Rule.Slice.PartMut.{put_mid, Post-is}
use Rattle.std.proofs.lemmas.List.{get_or_append_left, get_or-append_right, get_or-drop, get_or-take}
use borrow.Author.Tests.{ltb-true, ltb-false, lt-ltb, le-ltb, eqb-true, ne_eqb}
use Rattle.laws.specs.Basics.{bool_cases}
use Rattle.positions.proofs.Bits.{same_test}
use Rattle.classes.specs.declared.Class.{Class}
use Rattle.positions.specs.declared.Set.{Set}
use Rattle.positions.specs.Positions.{holds, holds_moved, Empty, Added, Moved, Joined}
use Rattle.automaton.specs.Rows.{row_at, held_of, follow_of, automaton_at}
use Rattle.builder.specs.Build.{count_at, header_at, Kept, ClassPut, RowPut, HeaderPut, SameBelow, RowCopied, Copied}
use Rattle.automaton.specs.declared.Side.{Side}

-- ---- Tests

pub or-false : (b : Bool) → (b || false) ≡ b
or-false true = refl
or-false false = refl

-- a test as a number
pub flagged : (b : Bool) → eqb (bool_byte b) 1 ≡ b
flagged true = refl
flagged false = refl

-- ---- What is left as it was

-- nothing changed
pub kept_all : (from to : ℕ) (l : List ℕ) → Kept from to l l
kept_all from to l = record { same_length = refl; kept = λ i out. refl }

-- two changes, one after the other, inside a larger part
pub kept_both :
    {f t g u : ℕ} {a b c : List ℕ} (from to : ℕ)
    → Kept f t a b
    → Kept g u b c
    → from ≤ f
    → t ≤ to
    → from ≤ g
    → u ≤ to
    → Kept from to a c
kept_both from to first second h₁ h₂ h₃ h₄ =
    record {
      same_length = second.same_length ∙ first.same_length;
      kept =
          λ i out.
          second.kept i (λ x y. out (omega arith) (omega arith)) ∙ first.kept i (λ x y. out (omega arith) (omega arith));
    }

-- The row is as it was, and so are those below it, among which its class stands.
pub record RowKept (row : ℕ) (before after : List ℕ) : Type 0 where
  pub held_kept : held_of after row ≡ held_of before row
  pub follow_kept : follow_of after row ≡ follow_of before row
  pub below_kept : SameBelow row before after

-- two numbers of a list as a set
set_path : (s : Set) (x y : ℕ) → x ≡ s.low → y ≡ s.high → ◌≡◌ {A = Set} (record { low = x; high = y }) s
set_path s x y p q = λ i. record { low = p i; high = q i }

-- it is, where each of its numbers is
pub row_kept :
    (row : ℕ) (before after : List ℕ)
    → SameBelow (row + 1) before after
    → RowKept row before after
row_kept row before after same =
    record {
      held_kept = same (row_at row) (omega arith) (omega arith);
      below_kept = λ i l u. same i l (omega arith);
      follow_kept =
          set_path
          (follow_of before row)
          (get_or after (row_at row + 1) 0)
          (get_or after (row_at row + 1 + 1) 0)
          (same (row_at row + 1) (omega arith) (omega arith))
          (same (row_at row + 1 + 1) (omega arith) (omega arith));
    }

-- outside the part that changed it is
pub row_outside :
    {from to : ℕ} {before after : List ℕ} (row : ℕ)
    → Kept from to before after
    → ((i : ℕ) → 1536 ≤ i → i < row_at (row + 1) → from ≤ i → i < to → ⊥)
    → RowKept row before after
row_outside {before = before} {after = after} row rest out = row_kept row before after (λ i x y. rest.kept i (out i x y))

-- ---- Stores

-- The numbers of a part are put from i on.
pub record Put (i : ℕ) (part before after : List ℕ) : Type 0 where
  pub put : (j d : ℕ) → j < length part → d ≡ i + j → get_or after d 0 ≡ get_or part j 0
  pub rest : Kept i (i + length part) before after

put_part : (l part : List ℕ) (i : ℕ) → i + length part ≤ length l → Put i part l (take i l ++ (part ++ drop (i + length part) l))
put_part l part i room =
    record {
      put = λ j d inside e.
          let back : d - i ≡ j = omega arith in
          get_or-append_right front (part ++ behind) i d 0 front_long (omega arith)
          ∙ rw back (get_or_append_left part behind 0 j inside);
      rest =
          record {
            same_length = omega (arith, length-append front (part ++ behind), length-append part behind, length-drop (i + length part) l, front_long);
            kept = λ d out. below_or_beyond d i (before_it d) (behind_it d out);
          };
    }
  where
    front : List ℕ
    front = take i l

    behind : List ℕ
    behind = drop (i + length part) l

    front_long : length (take i l) ≡ i
    front_long = length-take-le i l (omega arith)

    before_it : (d : ℕ) → d < i → get_or (take i l ++ (part ++ drop (i + length part) l)) d 0 ≡ get_or l d 0
    before_it d h =
        get_or_append_left (take i l) (part ++ drop (i + length part) l) 0 d (omega (arith, front_long)) ∙ get_or-take i l d 0 h

    behind_it : (d : ℕ) → (i ≤ d → d < i + length part → ⊥) → i ≤ d → get_or (take i l ++ (part ++ drop (i + length part) l)) d 0 ≡ get_or l d 0
    behind_it d out h =
        let past : length part ≤ d - i = ⊎_elim (λ e. absurd (out h (omega (arith, ltb-true (d - i) (length part) e)))) (λ e. ltb-false (d - i) (length part) e) (bool_cases (ltb (d - i) (length part))) in
        let place : i + length part + (d - i - length part) ≡ d = omega arith in
        get_or-append_right (take i l) (part ++ drop (i + length part) l) i d 0 front_long h
        ∙ get_or-append_right part (drop (i + length part) l) (length part) (d - i) 0 refl past
        ∙ get_or-drop (i + length part) l (d - i - length part) 0
        ∙ ap (λ n. get_or l n 0) place

    below_or_beyond : (d n : ℕ) {C : Type 0} → (d < n → C) → (n ≤ d → C) → C
    below_or_beyond d n left right = ⊎_elim (λ e. left (ltb-true d n e)) (λ e. right (ltb-false d n e)) (bool_cases (ltb d n))

-- so are those that are copied into the part of a list from i up to e
pub put_by : {l ys : List ℕ} (part : List ℕ) (i e : ℕ) → ys ≡ part → e ≡ i + length part → e ≤ length l → Put i part l (put_mid i (e - i) l ys)
put_by {l} part i e same end room = rw (same, Post-is i e l (omega arith), end) (put_part l part i (omega arith))

-- a class is put as the two numbers of each of its sets
pub class_put : {l l' : List ℕ} (i : ℕ) (class : Class) → Put i (class.low.low ∷ class.low.high ∷ class.high.low ∷ class.high.high ∷ []) l l' → ClassPut i class l l'
class_put {l} {l'} i class p =
    record {
      class_put =
          λ k.
          record {
            low = set_path class.low (get_or l' i 0) (get_or l' (i + 1) 0) (p.put 0 i (omega arith) (omega arith)) (p.put 1 (i + 1) (omega arith) refl) k;
            high = set_path class.high (get_or l' (i + 2) 0) (get_or l' (i + 2 + 1) 0) (p.put 2 (i + 2) (omega arith) refl) (p.put 3 (i + 2 + 1) (omega arith) (omega arith)) k;
          };
      rest = p.rest;
    }

-- a row is put as what tells its bytes, and then the two numbers of its set
pub row_put : {l l' : List ℕ} (row held : ℕ) (follow : Set) → Put (row_at row) (held ∷ follow.low ∷ follow.high ∷ []) l l' → RowPut row held follow l l'
row_put {l} {l'} row held follow p =
    record {
      held_put = p.put 0 (row_at row) (omega arith) (omega arith);
      follow_put =
          set_path follow (get_or l' (row_at row + 1) 0) (get_or l' (row_at row + 1 + 1) 0) (p.put 1 (row_at row + 1) (omega arith) refl)
          (p.put 2 (row_at row + 1 + 1) (omega arith) (omega arith));
      rest = record { same_length = p.rest.same_length; kept = λ i out. p.rest.kept i (λ x y. out x (omega arith)) };
    }

-- a header is put as six numbers
pub header_put :
    {l l' : List ℕ} (node : ℕ) (side : Side) (start flag : ℕ) (empty : Bool) (first last : Set)
    → eqb flag 1 ≡ empty
    → Put (header_at node side) (start ∷ flag ∷ first.low ∷ first.high ∷ last.low ∷ last.high ∷ []) l l'
    → HeaderPut node side start empty first last l l'
unfolding automaton_at
header_put {l} {l'} node side start flag empty first last told p =
    let i = header_at node side in
    record {
      header =
          λ k.
          record {
            start = p.put 0 i (omega arith) (omega arith) k;
            count = p.rest.kept (count_at node side) (λ x y. omega arith) k;
            nullable = (ap (λ (x : ℕ). eqb x 1) (p.put 1 (i + 1) (omega arith) refl) ∙ told) k;
            first = set_path first (get_or l' (i + 2) 0) (get_or l' (i + 2 + 1) 0) (p.put 2 (i + 2) (omega arith) refl) (p.put 3 (i + 2 + 1) (omega arith) (omega arith)) k;
            last = set_path last (get_or l' (i + 4) 0) (get_or l' (i + 4 + 1) 0) (p.put 4 (i + 4) (omega arith) refl) (p.put 5 (i + 4 + 1) (omega arith) (omega arith)) k;
          };
      rest = p.rest;
    }

-- ---- Copies

-- a set that was read, moved up and joined with more
moved_joined : (up : ℕ) (read old moved more all : Set) → read ≡ old → Moved read up moved → Joined moved more all → (q : ℕ) → holds all q ≡ (holds_moved old up q || holds more q)
moved_joined up read old moved more all read_is up_is all-is q =
    all-is q ∙ ap (λ (b : Bool). b || holds more q) (up_is q ∙ ap (λ (s : Set). holds_moved s up q) read_is)

-- a row is put as it was read, its set moved up and joined with more
pub row_copied :
    (from to up : ℕ) (l l' : List ℕ) (more follow moved all : Set)
    → from < to
    → follow ≡ follow_of l from
    → Moved follow up moved
    → Joined moved more all
    → RowPut to (held_of l from) all l l'
    → RowCopied from to up (holds more) l l'
row_copied from to up l l' more follow moved all up-there read up_is all-is row =
    record {
      held_same = row.held_put;
      same_below = λ i x y. row.rest.kept i (omega arith);
      follow_same =
          λ q. ap (λ (s : Set). holds s q) row.follow_put ∙ moved_joined up follow (follow_of l from) moved more all read up_is all-is q;
    }

-- a copied row stays where another is written, and may have been read later
pub copied_row_later :
    {from to up : ℕ} {more : ℕ → Bool} {a b c d : List ℕ}
    → from ≤ to
    → RowKept from a b
    → RowCopied from to up more b c
    → RowKept to c d
    → RowCopied from to up more a d
copied_row_later {up = up} {more = more} up-there read row written =
    record {
      held_same = written.held_kept ∙ row.held_same ∙ read.held_kept;
      same_below = λ i x y. written.below_kept i x (omega arith) ∙ row.same_below i x y ∙ read.below_kept i x y;
      follow_same =
          λ q.
          ap (λ (s : Set). holds s q) written.follow_kept ∙ row.follow_same q
          ∙ ap (λ (s : Set). holds_moved s up q || more q) read.follow_kept;
    }

-- the row that is not changed
pub row_same : (row : ℕ) (l : List ℕ) → RowKept row l l
row_same row l = row_kept row l l (λ i x y. refl)

module _ (from to up : ℕ) (last more : Set) where
  -- no rows are copied yet
  pub copied_none : (l : List ℕ) → Copied from to 0 up last more l l
  copied_none l = record { copied = λ p h. absurd (omega arith); rest = kept_all (row_at to) (row_at (to + 0)) l }

  -- one more is
  pub copied_more :
      (p : ℕ) (l₀ l₁ l₂ : List ℕ) (gained : Set)
      → from + p < to
      → ((q : ℕ) → holds gained q ≡ (holds last p && holds more q))
      → Copied from to p up last more l₀ l₁
      → RowCopied (from + p) (to + p) up (holds gained) l₁ l₂
      → Kept (row_at (to + p)) (row_at (to + p + 1)) l₁ l₂
      → Copied from to (p + 1) up last more l₀ l₂
  copied_more p l₀ l₁ l₂ gained h gained-is so_far row rest =
      record {
        copied =
            λ i k.
            ⊎_elim
            (λ e.
            let j = ltb-true i p e in
            copied_row_later
            (omega arith)
            (row_same (from + i) l₀)
            (so_far.copied i j)
            (row_outside (to + i) rest (omega arith)))
            (λ e.
            let j = ltb-false i p e in
            let same : p ≡ i = omega arith in
            rw same at this)
            (bool_cases (ltb i p));
        rest =
            kept_both (row_at to) (row_at (to + (p + 1))) so_far.rest rest (omega arith) (omega arith) (omega arith) (omega arith);
      }
    where
      this : RowCopied (from + p) (to + p) up (λ q. holds last p && holds more q) l₀ l₂
      this =
          let later : RowCopied (from + p) (to + p) up (holds gained) l₀ l₂ = copied_row_later (omega arith) (row_outside (from + p) so_far.rest (omega arith)) row (row_same (to + p) l₂) in
          record {
            held_same = later.held_same;
            same_below = later.same_below;
            follow_same = λ q. later.follow_same q ∙ ap (λ (b : Bool). holds_moved (follow_of l₀ (from + p)) up q || b) (gained-is q);
          }

-- ---- Sets of one position

module _ (p count : ℕ) where
  -- p alone, where it is below the count
  pub single_some :
      (r none : Set)
      → p < count
      → Added none p r
      → Empty none
      → (q : ℕ)
      → holds r q ≡ (eqb q p && ltb q count)
  single_some r none h added empty q = added q ∙ go (eqb q p) refl
    where
      go : (b : Bool) → eqb q p ≡ b → (b || holds none q) ≡ (b && ltb q count)
      go true e = sym (lt-ltb q count (omega (arith, eqb-true q p e)))
      go false e = empty q

  -- and nothing, where it is not
  pub single_none : (none : Set) → count ≤ p → Empty none → (q : ℕ) → holds none q ≡ (eqb q p && ltb q count)
  single_none none h empty q = empty q ∙ go (eqb q p) refl
    where
      go : (b : Bool) → eqb q p ≡ b → false ≡ (b && ltb q count)
      go true e = sym (le-ltb q count (omega (arith, eqb-true q p e)))
      go false e = refl

-- the last of count positions
pub last_none : (count : ℕ) (none : Set) → count ≡ 0 → Empty none → (q : ℕ) → holds none q ≡ eqb (q + 1) count
last_none count none h empty q = empty q ∙ sym (ne_eqb (q + 1) count (λ e. omega arith))

pub last_some :
    (count : ℕ) (r none : Set)
    → 0 < count
    → Added none (count - 1) r
    → Empty none
    → (q : ℕ)
    → holds r q ≡ eqb (q + 1) count
last_some count r none h added empty q =
    added q
    ∙ ap₂ ◌||◌ (same_test q (count - 1) (q + 1) count (λ e. omega arith) (λ e. omega arith)) (empty q)
    ∙ or-false (eqb (q + 1) count)
