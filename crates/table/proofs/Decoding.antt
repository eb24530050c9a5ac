-- What a node that keeps the rules shows: the tree of each kind, and the children that it is made of.
use mathlib.Core.Path.{◌≡◌, refl, sym, ap, ◌∙◌}
use mathlib.Core.Bool.{Bool, true, false, ◌&&◌, true≢false}
use mathlib.Core.Logic.{◌⊎◌, inl, inr}
use mathlib.Core.Option.{Option, none, some, some-injective, none-ne-some}
use Prim.Native.Nat.{ℕ, ◌+◌, ◌*◌, ◌<◌}
use native.Mathlib.Omega.{arith}
use lib.Dec.{leb, ltb}
use lib.ListN.{length, take}
use borrow.Author.Tests.{ltb-true, ltb-false, leb-true}
use Rattle.semantics.specs.Text.{Text, or_else, apply, apply₂}
use Rattle.semantics.specs.Pattern.{Pattern, range, word, one_of, concat, alt, star}
use Rattle.semantics.specs.Lens.{Lens, const}
use Rattle.semantics.specs.Table.{Node, at, two, node_at, node_count, sizes_wrong, pool, Kind, Word, Range, PatternJoin, PatternUnion, PatternRepeat, Set, Copy, Const, Key, LensJoin, LensUnion, LensRepeat, Match, Tree, pattern, lens, broken, Trees, pattern_of, lens_of, word_of, tree_at, pattern_at, lens_at, word_at, provided, runs_of, set_part, set_keeps, build, tree_of, trees, kind_of, is_broken, max_word, max_runs}
use Rattle.laws.specs.Basics.{bool_cases, and_both}
use Rattle.table.specs.declared.Kind as K
use Rattle.table.specs.Prepared.{OnePattern, TwoPatterns, OneLens, TwoLenses, ConstParts, RunsPart, Shows}
use Rattle.table.specs.declared.operands.Operands.{Operands}
use Rattle.std.specs.Prelude.{Some, None, IsSome}
use Rattle.table.specs.declared.tags.Tag.{Tag}
use Rattle.table.specs.Rules.{FoundTag, Named, OperandsRead, decoded, named}
use borrow.Author.Rules.{rules}
use Rattle.laws.specs.RightSizes.{right_of, pool_is}
use Rattle.table.proofs.Trees.{tree_is, lower_tree, no_tree}
use Rattle.table.proofs.Runs.{runs_at, range_runs, pool_part}

-- ---- What is not broken was made

provided_kept : (b : Bool) (o : Option Tree) → is_broken (provided b o) ≡ false → (t : Tree) × (b ≡ true) × (o ≡ some t) × (provided b o ≡ t)
unfolding provided or_else is_broken
provided_kept true none e = absurd (true≢false e)
provided_kept true (some t) e = (t, refl, refl, refl)
provided_kept false o e = absurd (true≢false e)

apply_kept : {A : Type 0} (f : A → Tree) (x : Option A) (t : Tree) → apply f x ≡ some t → (a : A) × (x ≡ some a) × (t ≡ f a)
unfolding apply
apply_kept f none t e = absurd (none-ne-some t e)
apply_kept f (some a) t e = (a, refl, sym (some-injective (f a) t e))

apply₂_kept :
    {A B C : Type 0} (f : A → B → C) (x : Option A) (y : Option B) (t : C)
    → apply₂ f x y ≡ some t
    → (a : A) × (b : B) × (x ≡ some a) × (y ≡ some b) × (t ≡ f a b)
unfolding apply₂
apply₂_kept f none y t e = absurd (none-ne-some t e)
apply₂_kept f (some a) none t e = absurd (none-ne-some t e)
apply₂_kept f (some a) (some b) t e = (a, b, refl, refl, sym (some-injective (f a b) t e))

-- ---- A child of a sort stands below its parent

pattern_tree : (t : Tree) (r : Pattern) → pattern_of t ≡ some r → t ≡ pattern r
unfolding pattern_of
pattern_tree (pattern r') r e = ap pattern (some-injective r' r e)
pattern_tree (lens l) r e = absurd (none-ne-some r e)
pattern_tree broken r e = absurd (none-ne-some r e)

lens_tree : (t : Tree) (l : Lens) → lens_of t ≡ some l → t ≡ lens l
unfolding lens_of
lens_tree (pattern r) l e = absurd (none-ne-some l e)
lens_tree (lens l') l e = ap lens (some-injective l' l e)
lens_tree broken l e = absurd (none-ne-some l e)

word_tree : (t : Tree) (w : Text) → word_of t ≡ some w → t ≡ pattern (word w)
unfolding word_of
word_tree (pattern (word v)) w e = ap (λ u. pattern (word u)) (some-injective v w e)
word_tree (pattern (one_of c)) w e = absurd (none-ne-some w e)
word_tree (pattern (concat r s)) w e = absurd (none-ne-some w e)
word_tree (pattern (alt r s)) w e = absurd (none-ne-some w e)
word_tree (pattern (star r)) w e = absurd (none-ne-some w e)
word_tree (lens l) w e = absurd (none-ne-some w e)
word_tree broken w e = absurd (none-ne-some w e)

-- one law for the three sorts
module _ {A : Type 0} (of : Tree → Option A) (make : A → Tree) (none-broken : of broken ≡ none) (made : (t : Tree) (x : A) → of t ≡ some x → t ≡ make x) where
  child_below : (ts : Trees) (k a : ℕ) (x : A) → of (tree_at (take k ts) a) ≡ some x → (a < k) × (tree_at ts a ≡ make x)
  child_below ts k a x e = go (bool_cases (ltb a k))
    where
      go : (ltb a k ≡ true) ⊎ (ltb a k ≡ false) → (a < k) × (tree_at ts a ≡ make x)
      go (inl p) = let h = ltb-true a k p in (h, made (tree_at ts a) x (rw (lower_tree ts k a h) at e))
      go (inr p) = absurd (none-ne-some x (sym none-broken ∙ (rw (no_tree ts k a (ltb-false a k p)) at e)))

module _ (ts : Trees) (k : ℕ) where
  pattern_below : (a : ℕ) (r : Pattern) → pattern_at (take k ts) a ≡ some r → (a < k) × (tree_at ts a ≡ pattern r)
  unfolding pattern_at pattern_of
  pattern_below a r e = child_below pattern_of pattern refl pattern_tree ts k a r e

  lens_below : (a : ℕ) (l : Lens) → lens_at (take k ts) a ≡ some l → (a < k) × (tree_at ts a ≡ lens l)
  unfolding lens_at lens_of
  lens_below a l e = child_below lens_of lens refl lens_tree ts k a l e

  word_below : (a : ℕ) (w : Text) → word_at (take k ts) a ≡ some w → (a < k) × (tree_at ts a ≡ pattern (word w))
  unfolding word_at word_of
  word_below a w e = child_below word_of (λ v. pattern (word v)) refl word_tree ts k a w e

-- ---- The rows of the table of kinds, from a tree that is not broken

module _ (ts : Trees) (k : ℕ) (whole : is_broken (tree_at ts k) ≡ false) where
  kept : (b : Bool) (o : Option Tree) → tree_at ts k ≡ provided b o → (t : Tree) × (b ≡ true) × (o ≡ some t) × (tree_at ts k ≡ t)
  kept b o e = let h = provided_kept b o (rw e at whole) in (h.0, h.1, h.2, e ∙ h.3)

  one_pattern : (a : ℕ) (b : Bool) (make : Pattern → Tree) → tree_at ts k ≡ provided b (apply make (pattern_at (take k ts) a)) → OnePattern ts k a make
  one_pattern a b make e =
      let h = kept b _ e in
      let p = apply_kept make (pattern_at (take k ts) a) h.0 h.2 in
      let q = pattern_below ts k a p.0 p.1 in
      record { child = p.0; lower = q.0; at_child = q.1; tree_is = h.3 ∙ p.2 }

  one_lens : (a : ℕ) (b : Bool) (make : Lens → Tree) → tree_at ts k ≡ provided b (apply make (lens_at (take k ts) a)) → OneLens ts k a make
  one_lens a b make e =
      let h = kept b _ e in
      let p = apply_kept make (lens_at (take k ts) a) h.0 h.2 in
      let q = lens_below ts k a p.0 p.1 in
      record { child = p.0; lower = q.0; at_child = q.1; tree_is = h.3 ∙ p.2 }

  two_patterns :
      (a b : ℕ) (keeps : Bool) (make : Pattern → Pattern → Tree)
      → tree_at ts k ≡ provided keeps (apply₂ make (pattern_at (take k ts) a) (pattern_at (take k ts) b))
      → TwoPatterns ts k a b make
  two_patterns a b keeps make e =
      let h = kept keeps _ e in
      let p = apply₂_kept make (pattern_at (take k ts) a) (pattern_at (take k ts) b) h.0 h.2 in
      let q = pattern_below ts k a p.0 p.2 in
      let q' = pattern_below ts k b p.1 p.3 in
      record { left = p.0; right = p.1; left_lower = q.0; right_lower = q'.0; at_left = q.1; at_right = q'.1; tree_is = h.3 ∙ p.4 }

  two_lenses :
      (a b : ℕ) (keeps : Bool) (make : Lens → Lens → Tree)
      → tree_at ts k ≡ provided keeps (apply₂ make (lens_at (take k ts) a) (lens_at (take k ts) b))
      → TwoLenses ts k a b make
  two_lenses a b keeps make e =
      let h = kept keeps _ e in
      let p = apply₂_kept make (lens_at (take k ts) a) (lens_at (take k ts) b) h.0 h.2 in
      let q = lens_below ts k a p.0 p.2 in
      let q' = lens_below ts k b p.1 p.3 in
      record { left = p.0; right = p.1; left_lower = q.0; right_lower = q'.0; at_left = q.1; at_right = q'.1; tree_is = h.3 ∙ p.4 }

  const_parts_lem :
      (a b c : ℕ) (keeps : Bool)
      → tree_at ts k
      ≡ provided keeps (apply₂ (λ (f : Text → Lens) d. lens (f d)) (apply₂ (λ r w d. const r w d) (pattern_at (take k ts) a) (word_at (take k ts) b)) (word_at (take k ts) c))
      → ConstParts ts k a b c
  const_parts_lem a b c keeps e =
      let h = kept keeps _ e in
      let p = apply₂_kept {C = Tree} (λ (f : Text → Lens) (d : Text). lens (f d)) (apply₂ (λ r w d. const r w d) (pattern_at (take k ts) a) (word_at (take k ts) b)) (word_at (take k ts) c) h.0 h.2 in
      let p' = apply₂_kept {C = Text → Lens} (λ (r : Pattern) (w d : Text). const r w d) (pattern_at (take k ts) a) (word_at (take k ts) b) p.0 p.2 in
      let q = pattern_below ts k a p'.0 p'.2 in
      let q' = word_below ts k b p'.1 p'.3 in
      let q'' = word_below ts k c p.1 p.3 in
      record {
        child = p'.0;
        sheet_word = p'.1;
        default_word = p.1;
        lower = q.0;
        sheet_lower = q'.0;
        default_lower = q''.0;
        at_child = q.1;
        at_sheet = q'.1;
        at_default = q''.1;
        tree_is = h.3 ∙ p.4 ∙ ap (λ (f : Text → Lens). lens (f p.1)) p'.4;
      }

-- ---- What a node that keeps the rules shows

-- a node that is not broken has a kind
pub kind_known : (bytes : Text) (ts : Trees) (n : Node) → is_broken (tree_of bytes ts n) ≡ false → (κ : Kind) × (kind_of n.kind ≡ some κ)
unfolding tree_of or_else apply is_broken
kind_known bytes ts n = go (kind_of n.kind)
  where
    go : (o : Option Kind) → is_broken (or_else broken (apply (λ k. build bytes ts k n.a n.b n.c) o)) ≡ false → (κ : Kind) × (o ≡ some κ)
    go none e = absurd (true≢false e)
    go (some κ) e = (κ, refl)

-- the tree of a node of that kind
pub kind_tree : (bytes : Text) (ts : Trees) (n : Node) (κ : Kind) → kind_of n.kind ≡ some κ → tree_of bytes ts n ≡ build bytes ts κ n.a n.b n.c
unfolding tree_of or_else apply
kind_tree bytes ts n κ e = rw e

-- a range shows its operands, and a set a part of the pool
range_shown :
    (bytes : Text) (k a b : ℕ)
    → sizes_wrong bytes ≡ false
    → k < node_count bytes
    → a ≡ at bytes (3 + node_count bytes + 3 * k)
    → b ≡ at bytes (3 + node_count bytes + 3 * k + 1)
    → tree_at (trees bytes) k ≡ pattern (one_of (range a b))
    → RunsPart bytes k (3 + node_count bytes + 3 * k) 1
unfolding runs_at
range_shown bytes k a b s h p q e =
    let sizes = right_of bytes s in
    let place = 3 + node_count bytes + 3 * k in
    record {
      inside = omega arith;
      tree_is = e ∙ (rw (p, q) (ap (λ c. pattern (one_of c)) (sym (range_runs bytes place (omega arith)))));
    }

set_shown :
    (bytes : Text) (k a b c : ℕ)
    → sizes_wrong bytes ≡ false
    → set_keeps (pool bytes) a b c ≡ true
    → tree_at (trees bytes) k ≡ pattern (one_of (set_part (pool bytes) a b c))
    → RunsPart bytes k (3 + 4 * node_count bytes + two a b) c
unfolding set_keeps set_part
set_shown bytes k a b c s r e =
    let sizes = right_of bytes s in
    let fits = and_both (leb 1 c && leb c max_runs && leb (two a b + 2 * c) (length (pool bytes))) _ r in
    let within = and_both (leb 1 c && leb c max_runs) (leb (two a b + 2 * c) (length (pool bytes))) fits.0 in
    record {
      inside = omega (arith, leb-true (two a b + 2 * c) (length (pool bytes)) within.1, pool_is bytes s);
      tree_is = e ∙ ap (λ t. pattern (one_of (runs_of t))) (pool_part bytes (two a b) (2 * c));
    }

shows_row :
    (bytes : Text) (k : ℕ) (κ : Kind) (a b c : ℕ)
    → sizes_wrong bytes ≡ false
    → k < node_count bytes
    → a ≡ at bytes (3 + node_count bytes + 3 * k)
    → b ≡ at bytes (3 + node_count bytes + 3 * k + 1)
    → is_broken (tree_at (trees bytes) k) ≡ false
    → tree_at (trees bytes) k ≡ build (pool bytes) (take k (trees bytes)) κ a b c
    → Shows bytes k (decoded κ a b c (3 + node_count bytes + 3 * k) (3 + 4 * node_count bytes))
unfolding Shows decoded build
shows_row bytes k Word a b c s h p q w e =
    let t = kept (trees bytes) k w _ _ e in
    let r = and_both (leb c max_word) (leb (two a b + c) (length (pool bytes))) t.1 in
    record {
      inside = omega (arith, leb-true (two a b + c) (length (pool bytes)) r.1, pool_is bytes s);
      tree_is = t.3 ∙ sym (some-injective _ _ t.2);
    }
shows_row bytes k Range a b c s h p q w e =
    let t = kept (trees bytes) k w _ _ e in
    range_shown bytes k a b s h p q (t.3 ∙ sym (some-injective _ _ t.2))
shows_row bytes k PatternJoin a b c s h p q w e = two_patterns (trees bytes) k w a b _ _ e
shows_row bytes k PatternUnion a b c s h p q w e = two_patterns (trees bytes) k w a b _ _ e
shows_row bytes k PatternRepeat a b c s h p q w e = one_pattern (trees bytes) k w a _ _ e
shows_row bytes k Set a b c s h p q w e =
    let t = kept (trees bytes) k w _ _ e in
    set_shown bytes k a b c s t.1 (t.3 ∙ sym (some-injective _ _ t.2))
shows_row bytes k Copy a b c s h p q w e = one_pattern (trees bytes) k w a _ _ e
shows_row bytes k Const a b c s h p q w e = const_parts_lem (trees bytes) k w a b c _ e
shows_row bytes k Key a b c s h p q w e = one_pattern (trees bytes) k w a _ _ e
shows_row bytes k LensJoin a b c s h p q w e = two_lenses (trees bytes) k w a b _ _ e
shows_row bytes k LensUnion a b c s h p q w e = two_lenses (trees bytes) k w a b _ _ e
shows_row bytes k LensRepeat a b c s h p q w e = one_lens (trees bytes) k w a _ _ e
shows_row bytes k Match a b c s h p q w e = one_lens (trees bytes) k w a _ _ e

-- What is known of a node that is not broken: its kind, and what the kind shows.
pub record Decoded (bytes : Text) (k : ℕ) : Type 0 where
  pub kind_of_node : Kind
  pub byte_is : kind_of (node_at bytes k).kind ≡ some kind_of_node
  pub shows : Shows bytes k (decoded kind_of_node (node_at bytes k).a (node_at bytes k).b (node_at bytes k).c (3 + node_count bytes + 3 * k) (3 + 4 * node_count bytes))

pub decoded_node : (bytes : Text) (k : ℕ) → sizes_wrong bytes ≡ false → k < node_count bytes → is_broken (tree_at (trees bytes) k) ≡ false → Decoded bytes k
unfolding node_at
decoded_node bytes k s h w =
    let n = node_at bytes k in
    let made = tree_is bytes k h in
    let κ = kind_known (pool bytes) (take k (trees bytes)) n (rw made at w) in
    record {
      kind_of_node = κ.0;
      byte_is = κ.1;
      shows = shows_row bytes k κ.0 n.a n.b n.c s h refl refl w (made ∙ kind_tree (pool bytes) (take k (trees bytes)) n κ.0 κ.1);
    }

-- what the bytes of a node that keeps the rules show
pub shown :
    {bytes : Text} {k : ℕ} (d : Decoded bytes k) {o : Operands} {n : ℕ} {κ : Kind} {r : K.Kind}
    → kind_of (node_at bytes k).kind ≡ some κ
    → OperandsRead bytes k o
    → n ≡ node_count bytes
    → r ≡ decoded κ o.a o.b o.c (3 + n + 3 * k) (3 + 4 * n)
    → Shows bytes k r
shown d h p m e =
    let same = some-injective _ _ (sym d.byte_is ∙ h) in
    rw (e, p.a_is, p.b_is, p.c_is, m) (rw same at d.shows)

-- a node that keeps the rules has a kind, so a tag is found, which names it
pub has_kind : {bytes : Text} {k : ℕ} (o : FoundTag) → Decoded bytes k → Named (kind_of (node_at bytes k).kind) o → IsSome o
has_kind None d n = absurd (none-ne-some _ (sym n ∙ d.byte_is))
has_kind (Some t) d n = (search rules)

-- what a tag that is found names
pub tag_names : {κ : Option Kind} {t : Tag} (o : FoundTag) → o ≡ Some t → Named κ o → κ ≡ some (named t)
tag_names {κ} o e n = (rw e at n)
