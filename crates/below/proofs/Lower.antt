-- What stands at and below a node, from what stands below it, and how it is stored. Assumes nothing.
use mathlib.Core.Path.{◌≡◌, refl, sym, ap, subst, ◌∙◌}
use mathlib.Core.Bool.{Bool, true, false, ◌||◌, cond}
use mathlib.Core.List.{List}
use Prim.Native.Nat.{ℕ, min, ◌+◌, ◌*◌, ◌≤◌, ◌<◌}
use native.Mathlib.Omega.{arith}
use lib.Dec.{eqb, ltb}
use lib.ListN.{length, get_or, set, length-set}
use lib.Seq.{get_or-set_same, get_or-set_other}
use borrow.Author.Tests.{eqb-true, eqb-false, ltb-true, ltb-false}
use Rattle.std.specs.Prelude.{Some, None}
use Rattle.semantics.specs.Text.{Text}
use Rattle.semantics.specs.Pattern.{Pattern}
use Rattle.semantics.specs.Lens.{Lens, join, union, repeat, match}
use Rattle.semantics.specs.Table.{node_count, trees, tree_at, pattern, lens}
use Rattle.laws.specs.Bookless.{asks}
use Rattle.table.specs.declared.Kind.{Kind}
use Rattle.table.specs.declared.Kind.TheVariants.{Word, OneOf as ByteOf, PatternJoin, PatternUnion, PatternRepeat, Copy, Const, Key, LensJoin, LensUnion, LensRepeat, Match}
use Rattle.table.specs.declared.Node.{Node}
use Rattle.table.specs.Prepared.{OneLens, TwoLenses, Shows}
use Rattle.table.specs.Rules.{AllSized, NodeRead}
use Rattle.positions.specs.declared.Set.{Set}
use Rattle.positions.specs.Positions.{Empty, Joined}
use Rattle.lens.specs.SourceKeys.{has_union}
use Rattle.lens.specs.Nodes.{sizes_are, same_lens, shown_join, shown_union, shown_repeat, shown_match}
use Rattle.below.specs.declared.Standing.{Standing}
use Rattle.below.specs.Below.{Count, counted, kept_as, union_at, count_at, standing_at, stored, Even, NodeBelow, count_over, OverTwo, OverChild, OverParts, Stands, NodeStands, BelowTo, BelowIs}
use Rattle.below.specs.Counts.{even_copy, even_const, even_key, even_join, even_union, even_repeat, even_match}

-- ---- What stands at two nodes

pub over_two :
    {below : List ℕ} {left right : ℕ} {one e : Bool} {n : Count} {a b : Standing} {s : Set}
    → a ≡ standing_at below left
    → b ≡ standing_at below right
    → Joined a.asked b.asked s
    → e ≡ (one || (a.union || b.union))
    → ((x y : ℕ) → a.count ≡ counted x → b.count ≡ counted y → n ≡ counted (count_over one x y))
    → OverTwo below left right one (record { asked = s; union = e; count = n })
over_two {below} {left} {right} a-is b_is joined either counts =
    record {
      asked_is = λ q. rw (a-is, b_is) at (joined q);
      union_is = either ∙ rw (a-is, b_is);
      count_is = counts (count_at below left) (count_at below right) (ap (λ (s : Standing). s.count) a-is) (ap (λ (s : Standing). s.count) b_is);
    }

-- ---- Counts

-- a count that is too large is none
pub capped : (n : ℕ) → counted n ≡ counted (min n 65536)
capped n = go (ltb n 65536) refl
  where
    go : (b : Bool) → ltb n 65536 ≡ b → counted n ≡ counted (min n 65536)
    go true p = let same : min n 65536 ≡ n = omega (arith, ltb-true n 65536 p) in rw same
    go false p = let same : min n 65536 ≡ 65536 = omega (arith, ltb-false n 65536 p) in rw (p, same)

-- what is kept of a count that is small enough is that count
pub even_kept : {n : ℕ} {c : Count} {l : Lens} → c ≡ counted n → Even n l → Even (kept_as c) l
even_kept {n} {c} {l} e even = rw (e, small n even.at_most) even
  where
    small : (m : ℕ) → m ≤ 65536 → kept_as (counted m) ≡ m
    small m h = go (ltb m 65536) refl
      where
        go : (b : Bool) → ltb m 65536 ≡ b → kept_as (cond b (Some m) None) ≡ m
        go true p = refl
        go false p = omega (arith, ltb-false m 65536 p)

-- ---- What stands at a node, by its kind

-- no pattern is a lens
no_lens : {A : Type 0} (r : Pattern) (l : Lens) → pattern r ≡ lens l → A
no_lens r l e = absurd (let z : ◌≡◌ {A = ℕ} 0 1 = cc e in omega arith)

-- a node's lens is the one that it was seen to be
stands_as : {bytes : Text} {k : ℕ} {s : Standing} (m : Lens) → tree_at (trees bytes) k ≡ lens m → Stands s m → NodeStands bytes k s
stands_as {s = s} m is stands = record { stands = λ l e. subst (Stands s) (same_lens m l (sym is ∙ e)) stands }

-- a pattern is no lens
stands_none : {bytes : Text} {k : ℕ} {s : Standing} (r : Pattern) → tree_at (trees bytes) k ≡ pattern r → NodeStands bytes k s
stands_none r is = record { stands = λ l e. no_lens r l (sym is ∙ e) }

module _ {bytes : Text} {k : ℕ} {n : Node} (read : NodeRead bytes k n) where
  -- patterns, and lenses that hold no other
  pub leaf_stands :
      {s : Standing}
      → ((a b : ℕ) → n.kind ≡ LensJoin a b → ⊥)
      → ((a b : ℕ) → n.kind ≡ LensUnion a b → ⊥)
      → ((a : ℕ) → n.kind ≡ LensRepeat a → ⊥)
      → ((a : ℕ) → n.kind ≡ Match a → ⊥)
      → Empty s.asked
      → s.union ≡ false
      → s.count ≡ Some 0
      → NodeStands bytes k s
  unfolding Shows asks has_union
  leaf_stands {s} no_join no_union no_repeat no_match none free zero-met = go n.kind refl read.shows
    where
      leaf :
          (l : Lens)
          → tree_at (trees bytes) k ≡ lens l
          → ((m : ℕ) → asks l m ≡ false)
          → has_union l ≡ false
          → Even 0 l
          → NodeStands bytes k s
      leaf l is asks_none no_union even =
          stands_as
          l
          is
          (record {
            asked_is = λ m h. none m ∙ sym (asks_none m);
            union_is = free ∙ sym no_union;
            count_is = even_kept {n = 0} zero-met even;
          })

      go : (κ : Kind) → n.kind ≡ κ → Shows bytes k κ → NodeStands bytes k s
      go (Word start len) e s = stands_none _ s.tree_is
      go (ByteOf at runs) e s = stands_none _ s.tree_is
      go (PatternJoin a b) e s = stands_none _ s.tree_is
      go (PatternUnion a b) e s = stands_none _ s.tree_is
      go (PatternRepeat a) e s = stands_none _ s.tree_is
      go (Copy a) e s = leaf _ s.tree_is (λ m. refl) refl (even_copy _)
      go (Const a b c) e s = leaf _ s.tree_is (λ m. refl) refl (even_const _ _ _)
      go (Key a) e s = leaf _ s.tree_is (λ m. refl) refl (even_key _)
      go (LensJoin a b) e s = absurd (no_join a b e)
      go (LensUnion a b) e s = absurd (no_union a b e)
      go (LensRepeat a) e s = absurd (no_repeat a e)
      go (Match a) e s = absurd (no_match a e)

  module _ {below : List ℕ} (to : BelowTo bytes below k) where
    -- what is stored of the nodes below
    left_below : {a b : ℕ} {make : Lens → Lens → _} (s : TwoLenses (trees bytes) k a b make) → NodeBelow below a s.left
    left_below {a = a} s = to.each a s.left s.left_lower s.at_left

    right_below : {a b : ℕ} {make : Lens → Lens → _} (s : TwoLenses (trees bytes) k a b make) → NodeBelow below b s.right
    right_below {b = b} s = to.each b s.right s.right_lower s.at_right

    child_below : {a : ℕ} {make : Lens → _} (s : OneLens (trees bytes) k a make) → NodeBelow below a s.child
    child_below {a = a} s = to.each a s.child s.lower s.at_child

    pub join_stands : {a b : ℕ} {r : Standing} → n.kind ≡ LensJoin a b → OverTwo below a b false r → NodeStands bytes k r
    unfolding asks has_union
    join_stands e over =
        let s = shown_join read e in
        let left = left_below s in
        let right = right_below s in
        stands_as
        (join s.left s.right)
        s.tree_is
        (record {
          asked_is = λ m h. over.asked_is m ∙ rw (left.asked_is m h, right.asked_is m h);
          union_is = over.union_is ∙ rw (left.union_is, right.union_is);
          count_is = even_kept over.count_is (even_join s.left s.right _ _ left.count_is right.count_is);
        })

    pub union_stands : {a b : ℕ} {r : Standing} → n.kind ≡ LensUnion a b → OverTwo below a b true r → NodeStands bytes k r
    unfolding asks has_union
    union_stands e over =
        let s = shown_union read e in
        let left = left_below s in
        let right = right_below s in
        stands_as
        (union s.left s.right)
        s.tree_is
        (record {
          asked_is = λ m h. over.asked_is m ∙ rw (left.asked_is m h, right.asked_is m h);
          union_is = over.union_is;
          count_is = even_kept over.count_is (even_union s.left s.right _ _ left.count_is right.count_is);
        })

    pub repeat_stands : {a : ℕ} {r : Standing} → n.kind ≡ LensRepeat a → OverParts below a r → NodeStands bytes k r
    unfolding asks has_union
    repeat_stands e over =
        let s = shown_repeat read e in
        let child = child_below s in
        stands_as
        (repeat s.child)
        s.tree_is
        (record {
          asked_is = λ m h. rw over.asked_is (child.asked_is m h);
          union_is = over.union_is ∙ child.union_is;
          count_is = even_kept over.count_is (even_repeat s.child _ child.count_is);
        })

    pub match_stands : {a : ℕ} {r : Standing} → n.kind ≡ Match a → OverChild below a r → NodeStands bytes k r
    unfolding asks has_union
    match_stands {a = a} e over =
        let s = shown_match read e in
        let child = child_below s in
        stands_as
        (match a s.child)
        s.tree_is
        (record {
          asked_is = λ m h. over.asked_is m ∙ rw (child.asked_is m h);
          union_is = over.union_is ∙ child.union_is;
          count_is = even_kept {n = 1} over.count_is (even_match a s.child);
        })

  -- ---- The numbers of the nodes below are there

  module _ (below : List ℕ) {prepared : List ℕ} (sized : AllSized bytes prepared) (inside : k < node_count bytes) (room : 384 ≤ length below) where
    node_room : {a : ℕ} → a < k → (4 * a + 4 ≤ length below) × (a < 128)
    node_room lower = (omega (arith, (sizes_are sized).few_nodes), omega (arith, (sizes_are sized).few_nodes))

    pub join_room : {a b : ℕ} → n.kind ≡ LensJoin a b → (4 * a + 4 ≤ length below) × (4 * b + 4 ≤ length below)
    join_room e = let s = shown_join read e in ((node_room s.left_lower).0, (node_room s.right_lower).0)

    pub union_room : {a b : ℕ} → n.kind ≡ LensUnion a b → (4 * a + 4 ≤ length below) × (4 * b + 4 ≤ length below)
    union_room e = let s = shown_union read e in ((node_room s.left_lower).0, (node_room s.right_lower).0)

    pub repeat_room : {a : ℕ} → n.kind ≡ LensRepeat a → 4 * a + 4 ≤ length below
    repeat_room e = (node_room (shown_repeat read e).lower).0

    pub match_room : {a : ℕ} → n.kind ≡ Match a → (4 * a + 4 ≤ length below) × (a < 128)
    match_room e = node_room (shown_match read e).lower

-- ---- The numbers of a node are stored

-- what is 1 for true and 0 for false tells which
flag_tells : (b : Bool) → eqb (cond b 1 0) 1 ≡ b
flag_tells true = refl
flag_tells false = refl

module _ (below : List ℕ) (k : ℕ) (s : Standing) where
  -- the numbers as they are stored, one after the other
  abbrev one : List ℕ
  one = set below (4 * k) s.asked.low

  abbrev two : List ℕ
  two = set one (4 * k + 1) s.asked.high

  abbrev three : List ℕ
  three = set two (4 * k + 2) (cond s.union 1 0)

  -- the numbers in front of it are as they were
  stored_other : (i : ℕ) → i < 4 * k → get_or (stored below k s) i 0 ≡ get_or below i 0
  stored_other i h =
      get_or-set_other three (4 * k + 3) i (kept_as s.count) 0 (λ e. omega arith)
      ∙ get_or-set_other two (4 * k + 2) i (cond s.union 1 0) 0 (λ e. omega arith)
      ∙ get_or-set_other one (4 * k + 1) i s.asked.high 0 (λ e. omega arith)
      ∙ get_or-set_other below (4 * k) i s.asked.low 0 (λ e. omega arith)

  module _ (room : 4 * k + 4 ≤ length below) where
    stored_low : get_or (stored below k s) (4 * k) 0 ≡ s.asked.low
    stored_low =
        get_or-set_other three (4 * k + 3) (4 * k) (kept_as s.count) 0 (λ e. omega arith)
        ∙ get_or-set_other two (4 * k + 2) (4 * k) (cond s.union 1 0) 0 (λ e. omega arith)
        ∙ get_or-set_other one (4 * k + 1) (4 * k) s.asked.high 0 (λ e. omega arith)
        ∙ get_or-set_same below (4 * k) s.asked.low 0 (omega arith)

    stored_high : get_or (stored below k s) (4 * k + 1) 0 ≡ s.asked.high
    stored_high =
        get_or-set_other three (4 * k + 3) (4 * k + 1) (kept_as s.count) 0 (λ e. omega arith)
        ∙ get_or-set_other two (4 * k + 2) (4 * k + 1) (cond s.union 1 0) 0 (λ e. omega arith)
        ∙ get_or-set_same one (4 * k + 1) s.asked.high 0 (simp length-set (omega arith))

    stored_union : union_at (stored below k s) k ≡ s.union
    stored_union =
        ap
        (λ (m : ℕ). eqb m 1)
        (get_or-set_other three (4 * k + 3) (4 * k + 2) (kept_as s.count) 0 (λ e. omega arith)
        ∙ get_or-set_same two (4 * k + 2) (cond s.union 1 0) 0 (simp length-set (omega arith)))
        ∙ flag_tells s.union

    stored_count : count_at (stored below k s) k ≡ kept_as s.count
    stored_count = get_or-set_same three (4 * k + 3) (kept_as s.count) 0 (simp length-set (omega arith))

    -- they are its own,
    stored_here : (l : Lens) → Stands s l → NodeBelow (stored below k s) k l
    stored_here l stands =
        record {
          asked_is = λ m h. rw (stored_low, stored_high) (stands.asked_is m h);
          union_is = stored_union ∙ stands.union_is;
          count_is = rw stored_count stands.count_is;
        }

    -- and those of the nodes before it
    pub stored_more : {bytes : Text} → BelowTo bytes below k → NodeStands bytes k s → BelowTo bytes (stored below k s) (k + 1)
    stored_more {bytes} to stands = record { each = λ j l h e. go j l h e (eqb j k) refl }
      where
        go : (j : ℕ) (l : Lens) → j < k + 1 → tree_at (trees bytes) j ≡ lens l → (last : Bool) → eqb j k ≡ last → NodeBelow (stored below k s) j l
        go j l h e true last = rw (eqb-true j k last) (stored_here l (stands.stands l (rw (eqb-true j k last) at e)))
        go j l h e false last =
            let other = eqb-false j k last in
            let before = to.each j l (omega arith) e in
            record {
              asked_is = λ m small.
                  rw (stored_other (4 * j) (omega arith), stored_other (4 * j + 1) (omega arith)) (before.asked_is m small);
              union_is = rw (stored_other (4 * j + 2) (omega arith)) before.union_is;
              count_is = rw (stored_other (4 * j + 3) (omega arith)) before.count_is;
            }

-- no node, and all
pub stored_none : {bytes : Text} {below : List ℕ} → BelowTo bytes below 0
stored_none = record { each = λ j l h e. absurd (omega arith) }

pub stored_all :
    {bytes : Text} {prepared below : List ℕ} {k : ℕ}
    → AllSized bytes prepared
    → BelowTo bytes below k
    → node_count bytes ≤ k
    → 384 ≤ length below
    → BelowIs bytes below
stored_all sized to all room =
    record { room = omega (arith, (sizes_are sized).few_nodes); each = λ j l h e. to.each j l (omega (arith, all)) e }
