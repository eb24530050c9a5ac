-- The book in the code's arrays, and the book of the definitions.
use Rattle.std.specs.Prelude.{◌≡◌, Bool, eqb, length, take, drop, set}
use Rattle.std.proofs.Math.Path.{refl, ap, ap₂}
use Rattle.std.proofs.Common.{◌∙◌, le_refl, zero-add, add-zero, suc-add, length-append, length-set, eqb-true, eq-eqb, ne_eqb}
use Rattle.std.proofs.Math.Bool.{true, false, cond}
use mathlib.Core.List.{[], ◌∷◌, ◌++◌, append-nil}
use Rattle.std.proofs.Math.Option.{none, some}
use Prim.Native.Nat.{ℕ, zero, suc, ◌+◌, ◌-◌, ◌≤◌, ◌<◌}
use Rattle.std.proofs.Math.Nat.{add-suc}
use native.Mathlib.Omega.{arith}
use Rattle.std.proofs.Math.ListN.{get_or}
use Rattle.std.proofs.Math.Seq.{get_or-set_same, get_or-set_other}
use Rattle.std.proofs.lemmas.Bool.{eqb-false}
use Rattle.semantics.specs.Text.{Text, All, or_else}
use Rattle.semantics.specs.Pattern.{word}
use Rattle.semantics.specs.Lens.{Lens, copy, match, Entry, entry_of, entries, answers, keeping, take_entry}
use Rattle.semantics.specs.Lens.{Book as Entries}
use Rattle.semantics.specs.Table.{Trees, lens_at}
use Rattle.laws.specs.Basics.{not_both, or_left, or_right, cond_true, cond_false}
use Rattle.positions.specs.declared.Set.{Set}
use Rattle.positions.specs.Positions.{holds, Added, Removed}
use Rattle.books.specs.declared.Book.{Book}

-- the text of entry i of the book, in the old source
unfoldable pub text_at : Text → Book → ℕ → Text
text_at old b i = take (get_or b.lengths i 0) (drop (get_or b.starts i 0) old)

-- entry i, as the definitions have it
unfoldable pub entry_at : Trees → Text → Book → ℕ → Entry
entry_at ts old b i =
    let n = get_or b.children i 0 in
    entry_of n (or_else (copy (word [])) (lens_at ts n)) (text_at old b i)

-- the entries from i on, up to n of them, that were not taken
unfoldable pub unused_from : Trees → Text → Book → ℕ → ℕ → Entries
unused_from ts old b i zero = []
unused_from ts old b i (suc n) = cond (get_or b.used i false) (unused_from ts old b (suc i) n) (entry_at ts old b i ∷ unused_from ts old b (suc i) n)

-- the book of the definitions
unfoldable pub unused : Trees → Text → Book → Entries
unused ts old b = unused_from ts old b 0 b.count

-- Every entry stands in a text of that length, there are at most 256, and the child of one that is not taken is among those of which one may be left.
pub record BookFits (room : ℕ) (b : Book) : Type 0 where
  pub few : b.count ≤ 256
  pub inside : (i : ℕ) → i < b.count → get_or b.starts i 0 + get_or b.lengths i 0 ≤ room
  pub still_left : (i : ℕ) → i < b.count → get_or b.used i false ≡ false → holds b.left (get_or b.children i 0) ≡ true

-- The entries stand one behind the other, and end by n.
pub record InOrder (n : ℕ) (b : Book) : Type 0 where
  pub ends : (i : ℕ) → i < b.count → get_or b.starts i 0 + get_or b.lengths i 0 ≤ n
  pub ordered : (i : ℕ) → i + 1 < b.count → get_or b.starts i 0 + get_or b.lengths i 0 ≤ get_or b.starts (i + 1) 0

-- The arrays have 256 places.
pub record Sized (b : Book) : Type 0 where
  pub starts_sized : length b.starts ≡ 256
  pub lengths_sized : length b.lengths ≡ 256
  pub bases_sized : length b.bases ≡ 256
  pub children_sized : length b.children ≡ 256
  pub used_sized : length b.used ≡ 256

-- the book with one more entry behind the others, and `left` for the children of which one may be left
abbrev pub added : Book → ℕ → ℕ → ℕ → ℕ → Set → Book
added b start size base child left =
    record {
      starts = set b.starts b.count start;
      lengths = set b.lengths b.count size;
      bases = set b.bases b.count base;
      children = set b.children b.count child;
      used = set b.used b.count false;
      left = left;
      count = b.count + 1;
    }

-- One more entry stands behind the others.
pub record Entered (b : Book) (start size base child : ℕ) (r : Book) : Type 0 where
  pub book_is : r ≡ added b start size base child r.left
  pub left_is : Added b.left child r.left

-- the book with entry i taken
abbrev pub marked : Book → ℕ → Book
marked b i =
    record {
      starts = b.starts;
      lengths = b.lengths;
      bases = b.bases;
      children = b.children;
      used = set b.used i true;
      left = b.left;
      count = b.count;
    }

-- the book with `left` for the children of which one may be left
abbrev pub leaving : Book → Set → Book
leaving b left =
    record {
      starts = b.starts;
      lengths = b.lengths;
      bases = b.bases;
      children = b.children;
      used = b.used;
      left = left;
      count = b.count;
    }

-- No unused entry before i is of child n and has the key k.
pub record Passed (ts : Trees) (old : Text) (b : Book) (n : ℕ) (k : Text) (i : ℕ) : Type 0 where
  pub passed : (j : ℕ) → j < i → get_or b.used j false ≡ false → answers n k (entry_at ts old b j) ≡ false

-- ---- What is kept

-- a book with no entries fits
pub fits_none : (room : ℕ) (b : Book) → b.count ≡ 0 → BookFits room b
fits_none room b e =
    record { few = omega arith; inside = λ i h. absurd (omega arith); still_left = λ i h unused. absurd (omega arith) }

-- and is in order
pub in_order_none : (n : ℕ) (b : Book) → b.count ≡ 0 → InOrder n b
in_order_none n b e = record { ends = λ i h. absurd (omega arith); ordered = λ i h. absurd (omega arith) }

-- entries that end by n end by all that is no less
pub in_order_more : {n : ℕ} (m : ℕ) {b : Book} → n ≤ m → InOrder n b → InOrder m b
in_order_more m more known = record { ends = λ i h. omega (arith, known.ends i h); ordered = known.ordered }

-- the arrays keep their size
pub sized_added : (b : Book) (start size base child : ℕ) (left : Set) → Sized b → Sized (added b start size base child left)
sized_added b start size base child left sized =
    record {
      starts_sized = length-set b.starts b.count start ∙ sized.starts_sized;
      lengths_sized = length-set b.lengths b.count size ∙ sized.lengths_sized;
      bases_sized = length-set b.bases b.count base ∙ sized.bases_sized;
      children_sized = length-set b.children b.count child ∙ sized.children_sized;
      used_sized = length-set b.used b.count false ∙ sized.used_sized;
    }

pub sized_marked : (b : Book) (i : ℕ) → Sized b → Sized (marked b i)
sized_marked b i sized =
    record {
      starts_sized = sized.starts_sized;
      lengths_sized = sized.lengths_sized;
      bases_sized = sized.bases_sized;
      children_sized = sized.children_sized;
      used_sized = length-set b.used i true ∙ sized.used_sized;
    }

pub sized_leaving : (b : Book) (left : Set) → Sized b → Sized (leaving b left)
sized_leaving b left sized =
    record {
      starts_sized = sized.starts_sized;
      lengths_sized = sized.lengths_sized;
      bases_sized = sized.bases_sized;
      children_sized = sized.children_sized;
      used_sized = sized.used_sized;
    }

-- an entry that stands in the old source keeps a book that fits
pub fits_added :
    (room : ℕ) (b : Book) (start size base child : ℕ) (left : Set)
    → Sized b
    → BookFits room b
    → b.count < 256
    → start + size ≤ room
    → Added b.left child left
    → BookFits room (added b start size base child left)
fits_added room b start size base child left sized fits few within now-left =
    record {
      few = omega arith;
      inside = λ i h. stands i h (eqb i b.count) refl;
      still_left = λ i h unused. waits i h unused (eqb i b.count) refl;
    }
  where
    stands :
        (i : ℕ)
        → i < b.count + 1
        → (new : Bool)
        → eqb i b.count ≡ new
        → get_or (set b.starts b.count start) i 0 + get_or (set b.lengths b.count size) i 0 ≤ room
    stands i h true e =
        rw
        (eqb-true i b.count e, get_or-set_same b.starts b.count start 0 (omega arith), get_or-set_same b.lengths b.count size 0 (omega arith))
        within
    stands i h false e =
        let other = eqb-false i b.count e in
        rw
        (get_or-set_other b.starts b.count i start 0 other, get_or-set_other b.lengths b.count i size 0 other)
        (fits.inside i (omega arith))

    waits :
        (i : ℕ)
        → i < b.count + 1
        → get_or (set b.used b.count false) i false ≡ false
        → (new : Bool)
        → eqb i b.count ≡ new
        → holds left (get_or (set b.children b.count child) i 0) ≡ true
    waits i h unused true e =
        rw
        (eqb-true i b.count e, get_or-set_same b.children b.count child 0 (omega arith))
        (now-left child ∙ or_left (eqb child child) (holds b.left child) (eq-eqb child child refl))
    waits i h unused false e =
        let other = eqb-false i b.count e in
        let before = rw (get_or-set_other b.used b.count i false false other) at unused in
        let own = get_or b.children i 0 in
        rw
        (get_or-set_other b.children b.count i child 0 other)
        (now-left own ∙ or_right (eqb own child) (holds b.left own) (fits.still_left i (omega arith) before))

-- an entry that begins where the others have ended keeps them in order
pub in_order_added :
    {at : ℕ} (n : ℕ) (b : Book) (start size base child : ℕ) (left : Set)
    → Sized b
    → InOrder at b
    → b.count < 256
    → at ≤ start
    → start + size ≤ n
    → InOrder n (added b start size base child left)
in_order_added {at} n b start size base child left sized known few behind within =
    record {
      ends = λ i h. stands i h (eqb i b.count) refl;
      ordered = λ i h. follows i h (eqb (i + 1) b.count) refl;
    }
  where
    -- the end of an entry that was there
    before : (i : ℕ) → i < b.count → get_or (set b.starts b.count start) i 0 + get_or (set b.lengths b.count size) i 0 ≡ get_or b.starts i 0 + get_or b.lengths i 0
    before i h =
        let other : ¬ (i ≡ b.count) = omega arith in
        rw (get_or-set_other b.starts b.count i start 0 other, get_or-set_other b.lengths b.count i size 0 other)

    stands :
        (i : ℕ)
        → i < b.count + 1
        → (new : Bool)
        → eqb i b.count ≡ new
        → get_or (set b.starts b.count start) i 0 + get_or (set b.lengths b.count size) i 0 ≤ n
    stands i h true e =
        rw
        (eqb-true i b.count e, get_or-set_same b.starts b.count start 0 (omega arith), get_or-set_same b.lengths b.count size 0 (omega arith))
        within
    stands i h false e =
        let old : i < b.count = omega (arith, eqb-false i b.count e) in
        rw (before i old) (omega (arith, known.ends i old))

    follows :
        (i : ℕ)
        → i + 1 < b.count + 1
        → (new : Bool)
        → eqb (i + 1) b.count ≡ new
        → get_or (set b.starts b.count start) i 0 + get_or (set b.lengths b.count size) i 0 ≤ get_or (set b.starts b.count start) (i + 1) 0
    follows i h true e =
        rw
        (before i (omega arith), eqb-true (i + 1) b.count e, get_or-set_same b.starts b.count start 0 (omega arith))
        (omega (arith, known.ends i (omega arith)))
    follows i h false e =
        let other = eqb-false (i + 1) b.count e in
        rw
        (before i (omega arith), get_or-set_other b.starts b.count (i + 1) start 0 other)
        (known.ordered i (omega (arith, other)))

-- where an entry stands does not change when one is taken
pub fits_marked : (room : ℕ) (b : Book) (i : ℕ) → Sized b → BookFits room b → BookFits room (marked b i)
fits_marked room b i sized fits =
    record { few = fits.few; inside = fits.inside; still_left = λ j h unused. waits j h unused (eqb j i) refl }
  where
    waits :
        (j : ℕ)
        → j < b.count
        → get_or (set b.used i true) j false ≡ false
        → (taken : Bool)
        → eqb j i ≡ taken
        → holds b.left (get_or b.children j 0) ≡ true
    waits j h unused true e =
        let same = eqb-true j i e in
        absurd
        (not_both
        (get_or-set_same b.used i true false (omega (arith, fits.few, sized.used_sized)))
        (rw same at unused))
    waits j h unused false e =
        fits.still_left j h (rw (get_or-set_other b.used i j true false (eqb-false j i e)) at unused)

-- a child of which no entry is left may be left out
pub fits_leaving :
    (room : ℕ) (b : Book) (child : ℕ) (left : Set)
    → BookFits room b
    → ((i : ℕ) → i < b.count → get_or b.used i false ≡ false → ¬ (get_or b.children i 0 ≡ child))
    → Removed b.left child left
    → BookFits room (leaving b left)
fits_leaving room b child left fits no_more now-left =
    record {
      few = fits.few;
      inside = fits.inside;
      still_left = λ i h unused.
          let own = get_or b.children i 0 in
          now-left own ∙ rw (ne_eqb own child (no_more i h unused)) (fits.still_left i h unused);
    }

-- a lookup goes past entries that do not answer
take_past :
    (n : ℕ) (k : Text) (front back : Entries)
    → All (λ e. answers n k e ≡ false) front
    → take_entry n k (front ++ back) ≡ record { found = (take_entry n k back).found; left = front ++ (take_entry n k back).left }
unfolding take_entry keeping
take_past n k [] back all = refl
take_past n k (e ∷ front) back (h, all) =
    cond_false (answers n k e) (record { found = some e.text; left = front ++ back }) (keeping e (take_entry n k (front ++ back))) h
    ∙ ap (keeping e) (take_past n k front back all)

-- a lookup takes the first entry if it answers
take_first :
    (n : ℕ) (k : Text) (e : Entry) (back : Entries) → answers n k e ≡ true → take_entry n k (e ∷ back) ≡ record { found = some e.text; left = back }
unfolding take_entry
take_first n k e back a = cond_true (answers n k e) (record { found = some e.text; left = back }) (keeping e (take_entry n k back)) a

module _ (ts : Trees) (old : Text) where
  -- ---- One entry

  -- its text is the one that the arrays tell
  entry_text : (b : Book) (i : ℕ) → (entry_at ts old b i).text ≡ text_at old b i
  unfolding entry_at entry_of
  entry_text b i = refl

  -- ---- The entries that are left, step by step

  -- a book with no entries
  pub unused_none : (b : Book) → b.count ≡ 0 → unused ts old b ≡ []
  unfolding unused unused_from
  unused_none b e = rw e

  -- an entry that was taken is left out, any other stands first
  step_used : (b : Book) (i n : ℕ) → get_or b.used i false ≡ true → unused_from ts old b i (suc n) ≡ unused_from ts old b (suc i) n
  unfolding unused_from
  step_used b i n e = cond_true (get_or b.used i false) (unused_from ts old b (suc i) n) (entry_at ts old b i ∷ unused_from ts old b (suc i) n) e

  step_unused :
      (b : Book) (i n : ℕ) → get_or b.used i false ≡ false → unused_from ts old b i (suc n) ≡ entry_at ts old b i ∷ unused_from ts old b (suc i) n
  unfolding unused_from
  step_unused b i n e = cond_false (get_or b.used i false) (unused_from ts old b (suc i) n) (entry_at ts old b i ∷ unused_from ts old b (suc i) n) e

  -- the entries left in two ranges that meet
  unused_split :
      (b : Book) (i n m : ℕ) → unused_from ts old b i (n + m) ≡ unused_from ts old b i n ++ unused_from ts old b (i + n) m
  unfolding unused_from
  unused_split b i zero m = rw (zero-add, add-zero)
  unused_split b i (suc n) m = rw (suc-add, add-suc, ← suc-add) (go (get_or b.used i false) (unused_split b (suc i) n m))
    where
      go :
          (u : Bool)
          → unused_from ts old b (suc i) (n + m) ≡ unused_from ts old b (suc i) n ++ unused_from ts old b (suc i + n) m
          → cond u (unused_from ts old b (suc i) (n + m)) (entry_at ts old b i ∷ unused_from ts old b (suc i) (n + m))
          ≡ cond u (unused_from ts old b (suc i) n) (entry_at ts old b i ∷ unused_from ts old b (suc i) n) ++ unused_from ts old b (suc i + n) m
      go true e = e
      go false e = ap (λ es. entry_at ts old b i ∷ es) e

  -- around place i: what is left before it, and from it on
  unused_around :
      (b : Book) (i m : ℕ) → b.count ≡ i + suc m → unused ts old b ≡ unused_from ts old b 0 i ++ unused_from ts old b i (suc m)
  unfolding unused
  unused_around b i m e =
      ap (unused_from ts old b 0) e ∙ unused_split b 0 i (suc m) ∙ ap (λ j. unused_from ts old b 0 i ++ unused_from ts old b j (suc m)) (zero-add i)

  -- Place i is the same in two books, each over its old text.
  pub record SameAt (b : Book) (old' : Text) (b' : Book) (i : ℕ) : Type 0 where
    pub used_is : get_or b.used i false ≡ get_or b'.used i false
    pub entry_is : entry_at ts old b i ≡ entry_at ts old' b' i

  -- two books that are the same in a range leave the same entries of it
  pub unused_same :
      (b : Book) (old' : Text) (b' : Book) (i n : ℕ)
      → ((j : ℕ) → i ≤ j → j < i + n → SameAt b old' b' j)
      → unused_from ts old b i n ≡ unused_from ts old' b' i n
  unfolding unused_from
  unused_same b old' b' i zero same = refl
  unused_same b old' b' i (suc n) same =
      let here = same i (le_refl i) (omega arith) in
      let later = unused_same b old' b' (suc i) n (λ j h k. same j (omega arith) (omega arith)) in
      rw (here.used_is, here.entry_is, later)

  -- ---- One more entry

  module _ (b : Book) (start size base child : ℕ) (left : Set) (sized : Sized b) (room : b.count < 256) where
    -- the places in front are as they were
    before_added : (i : ℕ) → i < b.count → SameAt (added b start size base child left) old b i
    unfolding entry_at text_at
    before_added i h =
        let other : ¬ (i ≡ b.count) = omega arith in
        record {
          used_is = get_or-set_other b.used b.count i false false other;
          entry_is =
              rw (get_or-set_other b.starts b.count i start 0 other, get_or-set_other b.lengths b.count i size 0 other, get_or-set_other b.children b.count i child 0 other);
        }

    -- the new place holds the new entry
    added_entry :
        entry_at ts old (added b start size base child left) b.count ≡ entry_of child (or_else (copy (word [])) (lens_at ts child)) (take size (drop start old))
    unfolding entry_at text_at
    added_entry =
        rw
        (get_or-set_same b.starts b.count start 0 (omega arith), get_or-set_same b.lengths b.count size 0 (omega arith), get_or-set_same b.children b.count child 0 (omega arith))

    -- the entry stands behind those that were there
    pub unused_add :
        unused ts old (added b start size base child left)
        ≡ unused ts old b ++ (entry_of child (or_else (copy (word [])) (lens_at ts child)) (take size (drop start old)) ∷ [])
    unfolding unused unused_from
    unused_add =
        unused_around (added b start size base child left) b.count 0 refl
        ∙ ap₂
        ◌++◌
        (unused_same (added b start size base child left) old b 0 b.count (λ i h k. before_added i (omega arith)))
        (step_unused (added b start size base child left) b.count 0 (get_or-set_same b.used b.count false false (omega arith))
        ∙ ap (λ e. e ∷ []) added_entry)

    -- that is what a match lists, where the child node's lens is l
    pub unused_match :
        (l : Lens) → lens_at ts child ≡ some l → unused ts old (added b start size base child left) ≡ unused ts old b ++ entries (match child l) (take size (drop start old))
    unfolding entries or_else
    unused_match l e = rw e at unused_add

    -- while none is taken, there are as many left as the book counts
    pub unused_length : length (unused ts old b) ≡ b.count → length (unused ts old (added b start size base child left)) ≡ b.count + 1
    unused_length e = rw (unused_add, length-append, e)

  -- which children may be left changes no entry
  pub unused_leaving : (b : Book) (left : Set) → unused ts old (leaving b left) ≡ unused ts old b
  unfolding unused entry_at text_at
  unused_leaving b left = unused_same (leaving b left) old b 0 b.count (λ i h k. record { used_is = refl; entry_is = refl })

  -- the other places are as they were where entry i is taken
  beside_marked : (b : Book) (i j : ℕ) → ¬ (j ≡ i) → SameAt (marked b i) old b j
  unfolding entry_at text_at
  beside_marked b i j other = record { used_is = get_or-set_other b.used i j true false other; entry_is = refl }

  -- where entry i is taken, what is left before it and behind it
  unused_marked :
      (b : Book) (i m : ℕ)
      → b.count ≡ i + suc m
      → i < length b.used
      → unused ts old (marked b i) ≡ unused_from ts old b 0 i ++ unused_from ts old b (suc i) m
  unused_marked b i m count_is within =
      unused_around (marked b i) i m count_is
      ∙ ap₂
      ◌++◌
      (unused_same (marked b i) old b 0 i (λ j l h. beside_marked b i j (omega arith)))
      (step_used (marked b i) i m (get_or-set_same b.used i true false within)
      ∙ unused_same (marked b i) old b (suc i) m (λ j l h. beside_marked b i j (omega arith)))

  -- ---- The walk over the book ends

  module _ (b : Book) (n : ℕ) (k : Text) where
    -- what is left of the entries before i does not answer
    none_answers :
        (i : ℕ) → Passed ts old b n k i → (j m : ℕ) → j + m ≤ i → All (λ e. answers n k e ≡ false) (unused_from ts old b j m)
    unfolding unused_from
    none_answers i p j zero h = tt
    none_answers i p j (suc m) h = go (get_or b.used j false) refl (none_answers i p (suc j) m (omega arith))
      where
        go :
            (u : Bool)
            → get_or b.used j false ≡ u
            → All (λ e. answers n k e ≡ false) (unused_from ts old b (suc j) m)
            → All (λ e. answers n k e ≡ false) (cond u (unused_from ts old b (suc j) m) (entry_at ts old b j ∷ unused_from ts old b (suc j) m))
        go true e later = later
        go false e later = (p.passed j (omega arith) e, later)

    -- The walk has passed the whole book: a lookup finds nothing.
    pub take_none : Passed ts old b n k b.count → take_entry n k (unused ts old b) ≡ record { found = none; left = unused ts old b }
    unfolding unused take_entry
    take_none p = rw append-nil at (take_past n k (unused_from ts old b 0 b.count) [] (none_answers b.count p 0 b.count (omega arith)))

    -- The walk has come to the first unused entry that answers: a lookup takes it.
    pub take_here :
        (i : ℕ)
        → Sized b
        → b.count ≤ 256
        → Passed ts old b n k i
        → i < b.count
        → get_or b.used i false ≡ false
        → answers n k (entry_at ts old b i) ≡ true
        → take_entry n k (unused ts old b) ≡ record { found = some (text_at old b i); left = unused ts old (marked b i) }
    take_here i sized few p h u a =
        let m : ℕ = b.count - suc i in
        let count_is : b.count ≡ i + suc m = omega arith in
        rw
        (unused_around b i m count_is, step_unused b i m u, unused_marked b i m count_is (omega arith))
        (take_past n k (unused_from ts old b 0 i) (entry_at ts old b i ∷ unused_from ts old b (suc i) m) (none_answers i p 0 i (omega arith))
        ∙ ap
        (λ t. record { found = t.found; left = unused_from ts old b 0 i ++ t.left })
        (take_first n k (entry_at ts old b i) (unused_from ts old b (suc i) m) a ∙ rw entry_text))
