-- A node's sizes, worked out from the words of its children, are those of its tree.
use mathlib.Core.Path.{◌≡◌, refl, sym, ap, ◌∙◌}
use mathlib.Core.Bool.{Bool, true, false, ◌||◌}
use mathlib.Core.List.{List}
use mathlib.Core.Logic.{◌⊎◌, inl, inr}
use Prim.Native.Nat.{ℕ, ◌+◌, ◌*◌, ◌≤◌, ◌<◌}
use native.Mathlib.Nat.{add-zero}
use native.Mathlib.Omega.{arith}
use lib.Dec.{ltb}
use mir.Val.{bool_byte}
use lib.ListN.{length, take, drop, set, length-drop, length-set}
use lib.Seq.{length-take-le, get_or-set_same, get_or-set_other}
use borrow.Author.Tests.{ltb-false}
use Rattle.semantics.specs.Text.{Text}
use Rattle.semantics.specs.Pattern.{Pattern}
use Rattle.semantics.specs.Lens.{Lens, Side, source, sheet, language, const_language}
use Rattle.semantics.specs.Table.{pool_length, sizes_wrong, pool, Tree, Trees, pattern, lens, broken, tree_at, trees, tree_size, pattern_size, lens_size, tree_positions, positions, holds_match, nested, nested_match, over_limit}
use Rattle.laws.specs.Basics.{or_neither}
use Rattle.table.specs.declared.Kind.{Kind}
use Rattle.table.specs.declared.Kind.TheVariants.{Word, OneOf, PatternJoin, PatternUnion, PatternRepeat, Copy, Const, Key, LensJoin, LensUnion, LensRepeat, Match}
use Rattle.table.specs.declared.Node.{Node}
use Rattle.table.specs.Prepared.{NodeSized, OnePattern, TwoPatterns, OneLens, TwoLenses, Shows, match_flag}
use Rattle.table.specs.Rules.{SizedBelow, Small, Smalls, nests, Numbers, OverOne, OverTwo, OverConst, OverMatch, NodeRead, Stored, tree_holds, word_of, flag}
use Rattle.laws.specs.RightSizes.{right_of, pool_is}

-- ---- The words of a sized node

-- node a's words are the tree's sizes
pub record Words (p : List ℕ) (a : ℕ) (t : Tree) : Type 0 where
  pub size_is : word_of p a 0 ≡ tree_size t
  pub source_is : word_of p a 1 ≡ tree_positions source t
  pub sheet_is : word_of p a 2 ≡ tree_positions sheet t
  pub match_is : word_of p a 3 ≡ flag (tree_holds t)

pub flag_is : (t : Tree) → match_flag t ≡ flag (tree_holds t)
unfolding match_flag flag tree_holds
flag_is (pattern r) = refl
flag_is (lens l) = refl
flag_is broken = refl

pub words_of_lem : (bytes : Text) (p : List ℕ) (a : ℕ) → NodeSized bytes p a → Words p a (tree_at (trees bytes) a)
unfolding word_of
words_of_lem bytes p a s =
    record {
      size_is = rw (add-zero (16 * a)) s.size_is;
      source_is = s.source_is;
      sheet_is = s.sheet_is;
      match_is = s.match_is ∙ flag_is (tree_at (trees bytes) a);
    }

flag_small : (b : Bool) → flag b ≤ 1
unfolding flag
flag_small true = omega arith
flag_small false = omega arith

-- a tree within the limits
limits : (t : Tree) → over_limit t ≡ false → (tree_size t ≤ 512) × (tree_positions source t ≤ 128) × (tree_positions sheet t ≤ 128)
unfolding over_limit
limits t e =
    let h = or_neither (ltb 512 (tree_size t) || ltb 128 (tree_positions source t)) (ltb 128 (tree_positions sheet t)) e in
    let h' = or_neither (ltb 512 (tree_size t)) (ltb 128 (tree_positions source t)) h.0 in
    (ltb-false 512 (tree_size t) h'.0, ltb-false 128 (tree_positions source t) h'.1, ltb-false 128 (tree_positions sheet t) h.1)

module _ (bytes : Text) (k : ℕ) (p : List ℕ) (ready : SizedBelow bytes k p) (a : ℕ) (lower : a < k) where
  pub child_words : Words p a (tree_at (trees bytes) a)
  child_words = words_of_lem bytes p a (ready.sized.each a lower)

  pub child_small : Small p a
  child_small =
      let w = child_words in
      let l = limits (tree_at (trees bytes) a) (ready.sized.each a lower).within in
      let f = flag_small (tree_holds (tree_at (trees bytes) a)) in
      let n = right_of bytes ready.sized.sizes_right in
      record {
        room = omega (arith, ready.inside, ready.room);
        size_small = omega arith;
        source_small = omega arith;
        sheet_small = omega arith;
        match_small = omega arith;
      }

-- ---- How a tree's sizes follow from its children's

record One (t u : Tree) : Type 0 where
  size_is : tree_size t ≡ 1 + tree_size u
  side_is : (side : Side) → tree_positions side t ≡ tree_positions side u
  holds_is : tree_holds t ≡ tree_holds u

record Two (t u v : Tree) : Type 0 where
  size_is : tree_size t ≡ 1 + tree_size u + tree_size v
  side_is : (side : Side) → tree_positions side t ≡ tree_positions side u + tree_positions side v
  holds_is : tree_holds t ≡ tree_holds u || tree_holds v

module _ (ts : Trees) (k : ℕ) where
  one_of_pattern : (a : ℕ) (make : Pattern → Tree) → OnePattern ts k a make → ((r : Pattern) → One (make r) (pattern r)) → One (tree_at ts k) (tree_at ts a)
  one_of_pattern a make s h = rw (s.tree_is, s.at_child) (h s.child)

  one_of_lens : (a : ℕ) (make : Lens → Tree) → OneLens ts k a make → ((l : Lens) → One (make l) (lens l)) → One (tree_at ts k) (tree_at ts a)
  one_of_lens a make s h = rw (s.tree_is, s.at_child) (h s.child)

  two_of_patterns :
      (a b : ℕ) (make : Pattern → Pattern → Tree)
      → TwoPatterns ts k a b make
      → ((r s : Pattern) → Two (make r s) (pattern r) (pattern s))
      → Two (tree_at ts k) (tree_at ts a) (tree_at ts b)
  two_of_patterns a b make s h = rw (s.tree_is, s.at_left, s.at_right) (h s.left s.right)

  two_of_lenses :
      (a b : ℕ) (make : Lens → Lens → Tree)
      → TwoLenses ts k a b make
      → ((l m : Lens) → Two (make l m) (lens l) (lens m))
      → Two (tree_at ts k) (tree_at ts a) (tree_at ts b)
  two_of_lenses a b make s h = rw (s.tree_is, s.at_left, s.at_right) (h s.left s.right)

pub flag_test : (b : Bool) → ltb 0 (flag b) ≡ b
unfolding flag
flag_test true = refl
flag_test false = refl

-- a word has its length
word_positions : (bytes : Text) (start len : ℕ) → sizes_wrong bytes ≡ false → start + len ≤ pool_length bytes → len ≡ length (take len (drop start (pool bytes)))
word_positions bytes start len e h = sym (length-take-le len (drop start (pool bytes)) (omega (arith, length-drop start (pool bytes), pool_is bytes e)))

-- ---- Each kind of node, worked out

-- the numbers that a kind asks for
abbrev pub Worked : List ℕ → Node → Kind → Type 0
Worked p r (Word start len) = Numbers r (Word start len) 1 len len false
Worked p r (OneOf at runs) = Numbers r (OneOf at runs) 1 1 1 false
Worked p r (PatternJoin a b) = OverTwo p a b (PatternJoin a b) r
Worked p r (PatternUnion a b) = OverTwo p a b (PatternUnion a b) r
Worked p r (PatternRepeat a) = OverOne p a (PatternRepeat a) r
Worked p r (Copy a) = OverOne p a (Copy a) r
Worked p r (Const a b c) = OverConst p a b (Const a b c) r
Worked p r (Key a) = OverOne p a (Key a) r
Worked p r (LensJoin a b) = OverTwo p a b (LensJoin a b) r
Worked p r (LensUnion a b) = OverTwo p a b (LensUnion a b) r
Worked p r (LensRepeat a) = OverOne p a (LensRepeat a) r
Worked p r (Match a) = OverMatch p a (Match a) r

module _ (bytes : Text) (k : ℕ) (p : List ℕ) (ready : SizedBelow bytes k p) (r : Node) where
  -- Shows of the node's kind
  from_shows : (κ : Kind) → r.kind ≡ κ → Shows bytes k κ → Shows bytes k r.kind
  from_shows κ e s = rw e s

  over_one : (κ : Kind) (a : ℕ) → a < k → Shows bytes k κ → One (tree_at (trees bytes) k) (tree_at (trees bytes) a) → OverOne p a κ r → NodeRead bytes k r
  over_one κ a lower s o n =
      let w = child_words bytes k p ready a lower in
      record {
        size_is = n.size_is ∙ (rw w.size_is (sym o.size_is));
        source_is = n.source_is ∙ w.source_is ∙ sym (o.side_is source);
        sheet_is = n.sheet_is ∙ w.sheet_is ∙ sym (o.side_is sheet);
        match_is = n.match_is ∙ ap (ltb 0) w.match_is ∙ flag_test (tree_holds (tree_at (trees bytes) a)) ∙ sym o.holds_is;
        shows = from_shows κ n.kind_is s;
      }

  over_two :
      (κ : Kind) (a b : ℕ)
      → a < k
      → b < k
      → Shows bytes k κ
      → Two (tree_at (trees bytes) k) (tree_at (trees bytes) a) (tree_at (trees bytes) b)
      → OverTwo p a b κ r
      → NodeRead bytes k r
  over_two κ a b l l' s o n =
      let w = child_words bytes k p ready a l in
      let v = child_words bytes k p ready b l' in
      record {
        size_is = n.size_is ∙ (rw (w.size_is, v.size_is) (sym o.size_is));
        source_is = n.source_is ∙ (rw (w.source_is, v.source_is) (sym (o.side_is source)));
        sheet_is = n.sheet_is ∙ (rw (w.sheet_is, v.sheet_is) (sym (o.side_is sheet)));
        match_is = n.match_is ∙ (rw (w.match_is, v.match_is, flag_test (tree_holds (tree_at (trees bytes) a)), flag_test (tree_holds (tree_at (trees bytes) b))) (sym o.holds_is));
        shows = from_shows κ n.kind_is s;
      }

  -- the sizes, once the tree is known
  at_once : (κ : Kind) (t : Tree) (x y z : ℕ) (b : Bool)
      → Shows bytes k κ
      → tree_at (trees bytes) k ≡ t
      → x ≡ tree_size t
      → y ≡ tree_positions source t
      → z ≡ tree_positions sheet t
      → b ≡ tree_holds t
      → Numbers r κ x y z b
      → NodeRead bytes k r
  at_once κ t x y z b s e p₁ p₂ p₃ p₄ n =
      record {
        size_is = n.size_is ∙ (rw e p₁);
        source_is = n.source_is ∙ (rw e p₂);
        sheet_is = n.sheet_is ∙ (rw e p₃);
        match_is = n.match_is ∙ (rw e p₄);
        shows = from_shows κ n.kind_is s;
      }

  pub worked : (κ : Kind) → Shows bytes k κ → Worked p r κ → NodeRead bytes k r
  unfolding Shows tree_size pattern_size lens_size tree_positions positions language const_language tree_holds holds_match
  worked (Word start len) s n = at_once (Word start len) _ _ _ _ _ s s.tree_is refl (word_positions bytes start len ready.sized.sizes_right s.inside) (word_positions bytes start len ready.sized.sizes_right s.inside) refl n
  worked (OneOf at runs) s n = at_once (OneOf at runs) _ _ _ _ _ s s.tree_is refl refl refl refl n
  worked (PatternJoin a b) s n = over_two (PatternJoin a b) a b s.left_lower s.right_lower s (two_of_patterns (trees bytes) k a b _ s (λ l m. record { size_is = refl; side_is = λ side. refl; holds_is = refl })) n
  worked (PatternUnion a b) s n = over_two (PatternUnion a b) a b s.left_lower s.right_lower s (two_of_patterns (trees bytes) k a b _ s (λ l m. record { size_is = refl; side_is = λ side. refl; holds_is = refl })) n
  worked (PatternRepeat a) s n = over_one (PatternRepeat a) a s.lower s (one_of_pattern (trees bytes) k a _ s (λ l. record { size_is = refl; side_is = λ side. refl; holds_is = refl })) n
  worked (Copy a) s n = over_one (Copy a) a s.lower s (one_of_pattern (trees bytes) k a _ s (λ l. record { size_is = refl; side_is = λ side. refl; holds_is = refl })) n
  worked (Const a b c) s n =
      let w = rw s.at_child at (child_words bytes k p ready a s.lower) in
      let v = rw s.at_sheet at (child_words bytes k p ready b s.sheet_lower) in
      at_once (Const a b c) _ _ _ _ _ s s.tree_is (rw w.size_is) w.source_is v.sheet_is refl n
  worked (Key a) s n = over_one (Key a) a s.lower s (one_of_pattern (trees bytes) k a _ s (λ l. record { size_is = refl; side_is = λ side. refl; holds_is = refl })) n
  worked (LensJoin a b) s n = over_two (LensJoin a b) a b s.left_lower s.right_lower s (two_of_lenses (trees bytes) k a b _ s (λ l m. record { size_is = refl; side_is = λ side. refl; holds_is = refl })) n
  worked (LensUnion a b) s n = over_two (LensUnion a b) a b s.left_lower s.right_lower s (two_of_lenses (trees bytes) k a b _ s (λ l m. record { size_is = refl; side_is = λ side. refl; holds_is = refl })) n
  worked (LensRepeat a) s n = over_one (LensRepeat a) a s.lower s (one_of_lens (trees bytes) k a _ s (λ l. record { size_is = refl; side_is = λ side. refl; holds_is = refl })) n
  worked (Match a) s n =
      let w = rw s.at_child at (child_words bytes k p ready a s.lower) in
      at_once (Match a) _ _ _ _ _ s s.tree_is (rw w.size_is) w.source_is w.sheet_is refl n

-- ---- A match in a match

module _ (bytes : Text) (k : ℕ) (p : List ℕ) (ready : SizedBelow bytes k p) where
  pub nests_is : (κ : Kind) → Shows bytes k κ → nests p κ ≡ nested (tree_at (trees bytes) k)
  unfolding Shows nests nested nested_match tree_holds
  nests_is (Word start len) s = rw s.tree_is
  nests_is (OneOf at runs) s = rw s.tree_is
  nests_is (PatternJoin a b) s = rw s.tree_is
  nests_is (PatternUnion a b) s = rw s.tree_is
  nests_is (PatternRepeat a) s = rw s.tree_is
  nests_is (Copy a) s = rw s.tree_is
  nests_is (Const a b c) s = rw s.tree_is
  nests_is (Key a) s = rw s.tree_is
  nests_is (LensJoin a b) s = rw s.tree_is
  nests_is (LensUnion a b) s = rw s.tree_is
  nests_is (LensRepeat a) s = rw s.tree_is
  nests_is (Match a) s =
      let w = rw s.at_child at (child_words bytes k p ready a s.lower) in
      rw (s.tree_is, w.match_is) (flag_test (holds_match s.child))

-- no other kind does
pub no_nest : (p : List ℕ) (κ : Kind) → ((a : ℕ) → κ ≡ Match a → ⊥) → false ≡ nests p κ
unfolding nests
no_nest p (Word start len) h = refl
no_nest p (OneOf at runs) h = refl
no_nest p (PatternJoin a b) h = refl
no_nest p (PatternUnion a b) h = refl
no_nest p (PatternRepeat a) h = refl
no_nest p (Copy a) h = refl
no_nest p (Const a b c) h = refl
no_nest p (Key a) h = refl
no_nest p (LensJoin a b) h = refl
no_nest p (LensUnion a b) h = refl
no_nest p (LensRepeat a) h = refl
no_nest p (Match a) h = absurd (h a refl)

-- ---- The four words that are stored

pub flag_byte : (b : Bool) → bool_byte b ≡ flag b
unfolding flag
flag_byte true = refl
flag_byte false = refl

pub stored :
    (p : List ℕ) (k : ℕ) (r : Node)
    → 16 * k + 3 < length p
    → Stored p k r (set (set (set (set p (16 * k) r.size) (16 * k + 1) r.source) (16 * k + 2) r.sheet) (16 * k + 3) (bool_byte r.holds_match))
stored p k r h =
    let at₀ = 16 * k in
    let p₁ = set p at₀ r.size in
    let p₂ = set p₁ (at₀ + 1) r.source in
    let p₃ = set p₂ (at₀ + 2) r.sheet in
    let f = bool_byte r.holds_match in
    record {
      earlier = λ i l.
          get_or-set_other p₃ (at₀ + 3) i f 0 (λ e. omega arith)
          ∙ get_or-set_other p₂ (at₀ + 2) i r.sheet 0 (λ e. omega arith)
          ∙ get_or-set_other p₁ (at₀ + 1) i r.source 0 (λ e. omega arith)
          ∙ get_or-set_other p at₀ i r.size 0 (λ e. omega arith);
      size_is =
          get_or-set_other p₃ (at₀ + 3) at₀ f 0 (λ e. omega arith)
          ∙ get_or-set_other p₂ (at₀ + 2) at₀ r.sheet 0 (λ e. omega arith)
          ∙ get_or-set_other p₁ (at₀ + 1) at₀ r.source 0 (λ e. omega arith)
          ∙ get_or-set_same p at₀ r.size 0 (omega arith);
      source_is =
          get_or-set_other p₃ (at₀ + 3) (at₀ + 1) f 0 (λ e. omega arith)
          ∙ get_or-set_other p₂ (at₀ + 2) (at₀ + 1) r.sheet 0 (λ e. omega arith)
          ∙ get_or-set_same p₁ (at₀ + 1) r.source 0 (simp length-set (omega arith));
      sheet_is = get_or-set_other p₃ (at₀ + 3) (at₀ + 2) f 0 (λ e. omega arith) ∙ get_or-set_same p₂ (at₀ + 2) r.sheet 0 (simp length-set (omega arith));
      match_is = get_or-set_same p₃ (at₀ + 3) f 0 (simp length-set (omega arith)) ∙ flag_byte r.holds_match;
    }

-- ---- The children that a kind's sizes are read from

module _ (bytes : Text) (k : ℕ) (p : List ℕ) (ready : SizedBelow bytes k p) where
  pub smalls : (κ : Kind) → Shows bytes k κ → Smalls p κ
  unfolding Shows
  smalls (Word start len) s = tt
  smalls (OneOf at runs) s = tt
  smalls (PatternJoin a b) s = (child_small bytes k p ready a s.left_lower, child_small bytes k p ready b s.right_lower)
  smalls (PatternUnion a b) s = (child_small bytes k p ready a s.left_lower, child_small bytes k p ready b s.right_lower)
  smalls (PatternRepeat a) s = child_small bytes k p ready a s.lower
  smalls (Copy a) s = child_small bytes k p ready a s.lower
  smalls (Const a b c) s = (child_small bytes k p ready a s.lower, child_small bytes k p ready b s.sheet_lower)
  smalls (Key a) s = child_small bytes k p ready a s.lower
  smalls (LensJoin a b) s = (child_small bytes k p ready a s.left_lower, child_small bytes k p ready b s.right_lower)
  smalls (LensUnion a b) s = (child_small bytes k p ready a s.left_lower, child_small bytes k p ready b s.right_lower)
  smalls (LensRepeat a) s = child_small bytes k p ready a s.lower
  smalls (Match a) s = child_small bytes k p ready a s.lower

-- ---- Kinds that are measured alike

abbrev pub WithTwo : Kind → ℕ → ℕ → Type 0
WithTwo κ a b = (κ ≡ PatternJoin a b) ⊎ (κ ≡ PatternUnion a b) ⊎ (κ ≡ LensJoin a b) ⊎ (κ ≡ LensUnion a b)

abbrev pub WithOne : Kind → ℕ → Type 0
WithOne κ a = (κ ≡ PatternRepeat a) ⊎ (κ ≡ LensRepeat a) ⊎ (κ ≡ Copy a) ⊎ (κ ≡ Key a)

pub two_smalls : {p : List ℕ} {κ : Kind} {a b : ℕ} → WithTwo κ a b → Smalls p κ → Small p a × Small p b
two_smalls (inl e) s = rw e at s
two_smalls (inr (inl e)) s = rw e at s
two_smalls (inr (inr (inl e))) s = rw e at s
two_smalls (inr (inr (inr e))) s = rw e at s

pub one_small : {p : List ℕ} {κ : Kind} {a : ℕ} → WithOne κ a → Smalls p κ → Small p a
one_small (inl e) s = rw e at s
one_small (inr (inl e)) s = rw e at s
one_small (inr (inr (inl e))) s = rw e at s
one_small (inr (inr (inr e))) s = rw e at s

module _ (bytes : Text) (k : ℕ) (p : List ℕ) (ready : SizedBelow bytes k p) (r : Node) where
  pub two_worked : {κ : Kind} {a b : ℕ} → WithTwo κ a b → Shows bytes k κ → OverTwo p a b κ r → NodeRead bytes k r
  two_worked {a = a} {b} (inl e) s n = worked bytes k p ready r (PatternJoin a b) (rw e at s) (rw e at n)
  two_worked {a = a} {b} (inr (inl e)) s n = worked bytes k p ready r (PatternUnion a b) (rw e at s) (rw e at n)
  two_worked {a = a} {b} (inr (inr (inl e))) s n = worked bytes k p ready r (LensJoin a b) (rw e at s) (rw e at n)
  two_worked {a = a} {b} (inr (inr (inr e))) s n = worked bytes k p ready r (LensUnion a b) (rw e at s) (rw e at n)

  pub one_worked : {κ : Kind} {a : ℕ} → WithOne κ a → Shows bytes k κ → OverOne p a κ r → NodeRead bytes k r
  one_worked {a = a} (inl e) s n = worked bytes k p ready r (PatternRepeat a) (rw e at s) (rw e at n)
  one_worked {a = a} (inr (inl e)) s n = worked bytes k p ready r (LensRepeat a) (rw e at s) (rw e at n)
  one_worked {a = a} (inr (inr (inl e))) s n = worked bytes k p ready r (Copy a) (rw e at s) (rw e at n)
  one_worked {a = a} (inr (inr (inr e))) s n = worked bytes k p ready r (Key a) (rw e at s) (rw e at n)
