-- Where a lens looks nothing up: no entry that is left is of a child that its matches ask for, or it holds no match.
use mathlib.Core.Path.{◌≡◌, refl, sym, ap, ◌∙◌}
use mathlib.Core.Bool.{Bool, true, false, cond}
use mathlib.Core.List.{List, ◌∷◌}
use mathlib.Core.Option.{Option}
use Prim.Native.Nat.{ℕ, zero, suc, ◌+◌, ◌<◌}
use native.Mathlib.Omega.{arith}
use lib.Dec.{ltb}
use lib.ListN.{length, get_or}
use borrow.Author.Tests.{ltb-true, ltb-false}
use Rattle.semantics.specs.Text.{Text, All}
use Rattle.semantics.specs.Lens.{Lens, copy, const, key, match, Entry, entry_of}
use Rattle.semantics.specs.Lens.{Book as Entries}
use Rattle.semantics.specs.Table.{Trees, trees, tree_at, lens, holds_match, nested_match, nested}
use Rattle.laws.specs.Basics.{not_both, false_of_not_true, all_of}
use Rattle.laws.specs.Bookless.{asks, Unasked, asks_nothing}
use Rattle.laws.specs.Met.{met_nothing}
use Rattle.positions.specs.declared.Set.{Set}
use Rattle.positions.specs.Positions.{holds}
use Rattle.positions.proofs.Bits.{holds_past}
use Rattle.table.specs.declared.Kind.{Kind}
use Rattle.table.specs.declared.Kind.TheVariants.{Word, OneOf as ByteOf, PatternJoin, PatternUnion, PatternRepeat, Copy, Const, Key, LensJoin, LensUnion, LensRepeat, Match}
use Rattle.table.specs.declared.Node.{Node}
use Rattle.table.specs.Prepared.{OneLens, Shows}
use Rattle.table.specs.Rules.{NodeRead}
use Rattle.lens.specs.Emitting.{LensNode}
use Rattle.lens.specs.Nodes.{same_lens, lens_read}
use Rattle.books.specs.declared.Book.{Book}
use Rattle.books.specs.Listed.{entry_at, unused_from, unused}
use Rattle.books.specs.Looking.{BookOver}
use Rattle.below.specs.Below.{BelowIs}
use Rattle.counted.specs.Counted.{MeetsThere}
use Rattle.plains.specs.Writing.{AsksNone, NoMatch}

-- what holds of the child of each entry that was not taken holds of those of the book
left_children :
    (ts : Trees) (old : Text) (b : Book) (P : ℕ → Type 0) (i n : ℕ)
    → ((j : ℕ) → j < i + n → get_or b.used j false ≡ false → P (get_or b.children j 0))
    → All (λ (e : Entry). P e.child) (unused_from ts old b i n)
unfolding unused_from entry_at entry_of
left_children ts old b P i zero each = tt
left_children ts old b P i (suc n) each = go (get_or b.used i false) refl (left_children ts old b P (suc i) n (λ j h. each j (omega arith)))
  where
    go :
        (u : Bool)
        → get_or b.used i false ≡ u
        → All (λ (e : Entry). P e.child) (unused_from ts old b (suc i) n)
        → All (λ (e : Entry). P e.child) (cond u (unused_from ts old b (suc i) n) (entry_at ts old b i ∷ unused_from ts old b (suc i) n))
    go true e later = later
    go false e later = (each i (omega arith) e, later)

-- a set holds no number from 128 on
held_small : (s : Set) (p : ℕ) → holds s p ≡ true → p < 128
held_small s p h = go (ltb p 128) refl
  where
    go : (small : Bool) → ltb p 128 ≡ small → p < 128
    go true e = ltb-true p 128 e
    go false e = absurd (not_both h (holds_past s p (ltb-false p 128 e)))

-- no match at or below a node asks for the child of an entry that is left
pub none_asked :
    {bytes : Text} (deck : Text) {prepared below : List ℕ} {node : ℕ} {b : Book} (l : Lens)
    → LensNode bytes prepared node
    → BelowIs bytes below
    → BookOver 4096 b
    → AsksNone below node b
    → tree_at (trees bytes) node ≡ lens l
    → Unasked l (unused (trees bytes) deck b)
unfolding unused
none_asked {bytes} deck {node = node} {b = b} l known below_is over asks_none e =
    record {
      each =
          left_children
          (trees bytes)
          deck
          b
          (λ n. asks l n ≡ false)
          0
          b.count
          (λ j h free.
          let n = get_or b.children j 0 in
          let held = over.fits.still_left j (omega arith) free in
          let small = held_small b.left n held in
          false_of_not_true
          (asks l n)
          (λ asked. asks_none.none_shared (n, small, (below_is.each node l known.inside e).asked_is n small ∙ asked, held)));
    }

-- the child of a match holds no match,
pub inner_flat :
    {bytes : Text} {prepared : List ℕ} {node child : ℕ}
    → LensNode bytes prepared node
    → OneLens (trees bytes) node child (λ l. lens (match child l))
    → NoMatch bytes child
unfolding nested nested_match
inner_flat {node = node} known s =
    let flat : holds_match s.child ≡ false = rw s.tree_is at (known.built.sized.sized.each node known.inside).not_nested in
    record { holds_none = λ l e. rw (same_lens s.child l (sym s.at_child ∙ e)) at flat }

-- so it looks nothing up,
pub inner_unasked : {bytes : Text} {child : ℕ} → NoMatch bytes child → (l : Lens) → tree_at (trees bytes) child ≡ lens l → (b : Entries) → Unasked l b
inner_unasked flat l e b =
    record { each = all_of (λ (x : Entry). asks l x.child ≡ false) b (λ x at_x. asks_nothing l (flat.holds_none l e) x.child) }

-- and meets none
pub inner_met : {bytes : Text} {child : ℕ} (old : Option Text) (new : Text) → NoMatch bytes child → MeetsThere bytes child old new 0
inner_met old new flat = record { meets = λ l e. ap length (met_nothing l (flat.holds_none l e) old new) }

-- ---- A node with no lens below it

-- it is of none of the kinds that have one
pub record LeafKind (κ : Kind) : Type 0 where
  pub not_join : (a b : ℕ) → κ ≡ LensJoin a b → ⊥
  pub not_union : (a b : ℕ) → κ ≡ LensUnion a b → ⊥
  pub not_repeat : (a : ℕ) → κ ≡ LensRepeat a → ⊥
  pub not_match : (a : ℕ) → κ ≡ Match a → ⊥

module _ {bytes : Text} {prepared : List ℕ} {node : ℕ} {r : Node} (known : LensNode bytes prepared node) (read : NodeRead bytes node r) where
  -- it looks nothing up, and meets nothing
  leaf_asks :
      (κ : Kind)
      → r.kind ≡ κ
      → Shows bytes node κ
      → LeafKind r.kind
      → (l : Lens) × (tree_at (trees bytes) node ≡ lens l) × ((n : ℕ) → asks l n ≡ false) × (holds_match l ≡ false)
  unfolding Shows asks holds_match
  leaf_asks (Copy a) e s h = (copy s.child, s.tree_is, λ n. refl, refl)
  leaf_asks (Key a) e s h = (key s.child, s.tree_is, λ n. refl, refl)
  leaf_asks (Const a b c) e s h = (const s.child s.sheet_word s.default_word, s.tree_is, λ n. refl, refl)
  leaf_asks (Word a b) e s h = lens_read (Word a b) known read e refl
  leaf_asks (ByteOf at runs) e s h = lens_read (ByteOf at runs) known read e refl
  leaf_asks (PatternJoin a b) e s h = lens_read (PatternJoin a b) known read e refl
  leaf_asks (PatternUnion a b) e s h = lens_read (PatternUnion a b) known read e refl
  leaf_asks (PatternRepeat a) e s h = lens_read (PatternRepeat a) known read e refl
  leaf_asks (LensJoin a b) e s h = absurd (h.not_join a b e)
  leaf_asks (LensUnion a b) e s h = absurd (h.not_union a b e)
  leaf_asks (LensRepeat a) e s h = absurd (h.not_repeat a e)
  leaf_asks (Match a) e s h = absurd (h.not_match a e)

  pub leaf_asks_none :
      {below : List ℕ} {b : Book} → BelowIs bytes below → LeafKind r.kind → AsksNone below node b
  leaf_asks_none below_is leaf =
      let (l, e, none_asked, flat) = leaf_asks r.kind refl read.shows leaf in
      record {
        none_shared = λ shared.
            let (n, small, held, left) = shared in
            not_both held ((below_is.each node l known.inside e).asked_is n small ∙ none_asked n);
      }

  pub leaf_met : (old : Option Text) (new : Text) → LeafKind r.kind → MeetsThere bytes node old new 0
  leaf_met old new leaf =
      let (l, e, none_asked, flat) = leaf_asks r.kind refl read.shows leaf in
      inner_met old new (record { holds_none = λ m f. rw (same_lens l m (sym e ∙ f)) at flat })
