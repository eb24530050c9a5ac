-- The kind of a node that keeps the rules tells its sort.
use mathlib.Core.Path.{◌≡◌, refl, sym, ◌∙◌}
use mathlib.Core.Bool.{Bool, true, false}
use mathlib.Core.Option.{none, some, some-injective, none-ne-some}
use Prim.Native.Nat.{ℕ, ◌≤◌, ◌<◌}
use native.Mathlib.Omega.{arith}
use lib.ListN.{take}
use Rattle.semantics.specs.Text.{Text}
use Rattle.semantics.specs.Pattern.{Pattern}
use Rattle.semantics.specs.Lens.{Lens}
use Rattle.semantics.specs.Table.{node_at, Kind, Word, Range, PatternJoin, PatternUnion, PatternRepeat, Set, Copy, Const, Key, LensJoin, LensUnion, LensRepeat, Match, Tree, Trees, pattern_of, lens_of, word_of, pattern_at, lens_at, word_at, tree_at, trees, kind_of, pattern, lens}
use Rattle.table.specs.declared.Sort.{Sort}
use Rattle.table.specs.declared.Sort.TheVariants.{Patterns, Lenses}
use Rattle.table.specs.Prepared.{Shows}
use Rattle.std.specs.Prelude.{MatchOption, Some, None}
use Rattle.table.specs.declared.tags.Tag.{Tag}
use Rattle.table.specs.Rules.{FoundTag, Named, Whole, named, there, sort_at, sort_of, word_there, decoded}
use Rattle.table.proofs.Trees.{lower_tree, no_tree}
use Rattle.table.proofs.Decoding.{Decoded, decoded_node}

-- whether a tree is of a sort
sort_there : Sort → Tree → Bool
sort_there Patterns t = there (pattern_of t)
sort_there Lenses t = there (lens_of t)

-- whether two sorts are the same
unfoldable pub same_sort : Sort → Sort → Bool
same_sort Patterns Patterns = true
same_sort Patterns Lenses = false
same_sort Lenses Patterns = false
same_sort Lenses Lenses = true

-- whether a kind is that of words
unfoldable pub is_word : Kind → Bool
is_word Word = true
is_word Range = false
is_word PatternJoin = false
is_word PatternUnion = false
is_word PatternRepeat = false
is_word Set = false
is_word Copy = false
is_word Const = false
is_word Key = false
is_word LensJoin = false
is_word LensUnion = false
is_word LensRepeat = false
is_word Match = false

of_pattern : (sort : Sort) (r : Pattern) → sort_there sort (pattern r) ≡ same_sort Patterns sort
unfolding sort_there there pattern_of lens_of same_sort
of_pattern Patterns r = refl
of_pattern Lenses r = refl

of_lens : (sort : Sort) (l : Lens) → sort_there sort (lens l) ≡ same_sort Lenses sort
unfolding sort_there there pattern_of lens_of same_sort
of_lens Patterns l = refl
of_lens Lenses l = refl

-- the kind κ tells the sort of the tree t, and whether it is a word
record Told (t : Tree) (κ : Kind) : Type 0 where
  sort_told : (sort : Sort) → sort_there sort t ≡ same_sort (sort_of κ) sort
  word_told : there (word_of t) ≡ is_word κ

told_row : (bytes : Text) (k : ℕ) (κ : Kind) (a b c at pool-at : ℕ) → Shows bytes k (decoded κ a b c at pool-at) → Told (tree_at (trees bytes) k) κ
unfolding Shows decoded sort_of there word_of is_word
told_row bytes k Word a b c at pool-at s = rw s.tree_is (record { sort_told = λ sort. of_pattern sort _; word_told = refl })
told_row bytes k Range a b c at pool-at s = rw s.tree_is (record { sort_told = λ sort. of_pattern sort _; word_told = refl })
told_row bytes k PatternJoin a b c at pool-at s = rw s.tree_is (record { sort_told = λ sort. of_pattern sort _; word_told = refl })
told_row bytes k PatternUnion a b c at pool-at s = rw s.tree_is (record { sort_told = λ sort. of_pattern sort _; word_told = refl })
told_row bytes k PatternRepeat a b c at pool-at s = rw s.tree_is (record { sort_told = λ sort. of_pattern sort _; word_told = refl })
told_row bytes k Set a b c at pool-at s = rw s.tree_is (record { sort_told = λ sort. of_pattern sort _; word_told = refl })
told_row bytes k Copy a b c at pool-at s = rw s.tree_is (record { sort_told = λ sort. of_lens sort _; word_told = refl })
told_row bytes k Const a b c at pool-at s = rw s.tree_is (record { sort_told = λ sort. of_lens sort _; word_told = refl })
told_row bytes k Key a b c at pool-at s = rw s.tree_is (record { sort_told = λ sort. of_lens sort _; word_told = refl })
told_row bytes k LensJoin a b c at pool-at s = rw s.tree_is (record { sort_told = λ sort. of_lens sort _; word_told = refl })
told_row bytes k LensUnion a b c at pool-at s = rw s.tree_is (record { sort_told = λ sort. of_lens sort _; word_told = refl })
told_row bytes k LensRepeat a b c at pool-at s = rw s.tree_is (record { sort_told = λ sort. of_lens sort _; word_told = refl })
told_row bytes k Match a b c at pool-at s = rw s.tree_is (record { sort_told = λ sort. of_lens sort _; word_told = refl })

-- a number that is not lower is no child
pub no_sort : (sort : Sort) (ts : Trees) (k a : ℕ) → k ≤ a → sort_at sort (take k ts) a ≡ false
unfolding sort_at pattern_at lens_at there pattern_of lens_of
no_sort Patterns ts k a h = rw (no_tree ts k a h)
no_sort Lenses ts k a h = rw (no_tree ts k a h)

pub no_word : (ts : Trees) (k a : ℕ) → k ≤ a → word_there (take k ts) a ≡ false
unfolding word_there word_at there word_of
no_word ts k a h = rw (no_tree ts k a h)

-- a lower node has a kind, which tells its sort
module _ {bytes : Text} {k a : ℕ} (w : Whole bytes k) (lower : a < k) where
  below : Decoded bytes a
  below = decoded_node bytes a w.sizes_right (omega (arith, w.inside)) (w.each a lower)

  pub kind_there : kind_of (node_at bytes a).kind ≡ none → ⊥
  kind_there e = none-ne-some _ (sym e ∙ below.byte_is)

  module _ {κ : Kind} (e : kind_of (node_at bytes a).kind ≡ some κ) where
    told_below : Told (tree_at (trees bytes) a) κ
    told_below =
        let n = node_at bytes a in
        let same : below.kind_of_node ≡ κ = some-injective _ _ (sym below.byte_is ∙ e) in
        rw same at (told_row bytes a below.kind_of_node n.a n.b n.c _ _ below.shows)

    pub sort_below : (sort : Sort) → same_sort (sort_of κ) sort ≡ sort_at sort (take k (trees bytes)) a
    unfolding sort_at pattern_at lens_at sort_there
    sort_below Patterns = rw (lower_tree (trees bytes) k a lower) (sym (told_below.sort_told Patterns))
    sort_below Lenses = rw (lower_tree (trees bytes) k a lower) (sym (told_below.sort_told Lenses))

    pub word_below : is_word κ ≡ word_there (take k (trees bytes)) a
    unfolding word_there word_at
    word_below = rw (lower_tree (trees bytes) k a lower) (sym told_below.word_told)

  -- so the tag that is read decides
  pub sort_asked :
      (sort : Sort) {b : Bool} {Post : Tag → Type 0} (o : FoundTag)
      → Named (kind_of (node_at bytes a).kind) o
      → MatchOption o (b ≡ false) Post
      → ((t : Tag) → Post t → b ≡ same_sort (sort_of (named t)) sort)
      → b ≡ sort_at sort (take k (trees bytes)) a
  sort_asked sort None n m f = absurd (kind_there n)
  sort_asked sort (Some t) n m f = f t m ∙ sort_below n sort

  pub word_asked :
      {b : Bool} (E : Tag → Bool) (o : FoundTag)
      → Named (kind_of (node_at bytes a).kind) o
      → MatchOption o (b ≡ false) (λ t. b ≡ E t)
      → ((t : Tag) → E t ≡ is_word (named t))
      → b ≡ word_there (take k (trees bytes)) a
  word_asked E None n m f = absurd (kind_there n)
  word_asked E (Some t) n m f = m ∙ f t ∙ word_below n
