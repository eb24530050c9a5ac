-- A node's turn in the first round: the tests decide its four lines, and what is stored is one more sized node.
use mathlib.Core.Path.{◌≡◌, refl, sym, ap, ◌∙◌}
use mathlib.Core.Bool.{Bool, true, false, not, ◌&&◌}
use mathlib.Core.List.{List}
use mathlib.Core.Logic.{◌⊎◌, inl, inr}
use mathlib.Core.Option.{Option, none, some}
use Prim.Native.Nat.{ℕ, ◌+◌, ◌*◌, ◌<◌}
use native.Mathlib.Omega.{arith}
use lib.Dec.{ltb}
use lib.ListN.{take}
use borrow.Author.Tests.{ltb-true, ltb-false}
use Rattle.semantics.specs.Text.{Text, or_else, apply, apply₂}
use Rattle.semantics.specs.Pattern.{Pattern}
use Rattle.semantics.specs.Lens.{Lens, const}
use Rattle.semantics.specs.Table.{Node, node_at, node_count, pool, sizes_wrong, Kind, Word, Range, PatternJoin, PatternUnion, PatternRepeat, Set, Copy, Const, Key, LensJoin, LensUnion, LensRepeat, Match, kind_of, Tree, Trees, pattern, lens, pattern_at, lens_at, word_at, provided, build, tree_at, tree_of, trees, is_broken, nested, over_limit, unknown_kind}
use Rattle.std.specs.Prelude.{Ok, Err}
use Rattle.table.specs.declared.Node as N
use Rattle.table.specs.declared.Refusal.{Refusal}
use Rattle.table.specs.declared.operands.Operands.{Operands}
use Rattle.table.specs.Prepared.{refusal, NodeSized, Sized}
use Rattle.table.specs.Rules.{NodeRead, OperandsRead, Stored, Turned, there, sort_at, word_there, word_fits, range_ordered, one_child, two_children, const_parts, keeps_rules, node_fault, over_limits, flag}
use Rattle.laws.specs.Basics.{bool_cases}
use Rattle.laws.specs.RightSizes.{pool_is}
use Rattle.table.proofs.Trees.{tree_is}
use Rattle.table.proofs.Measures.{flag_is}

-- ---- Lines 2 and 3

pub unknown : (n : Node) → kind_of n.kind ≡ none → unknown_kind n ≡ true
unfolding unknown_kind or_else apply
unknown n e = rw e

pub known : (n : Node) (κ : Kind) → kind_of n.kind ≡ some κ → unknown_kind n ≡ false
unfolding unknown_kind or_else apply
known n κ e = rw e

-- a tree is whole where its rule is kept and its children are there
leaf_row : (b : Bool) (r : Pattern) → not (is_broken (provided b (some (pattern r)))) ≡ b
unfolding provided or_else is_broken
leaf_row true r = refl
leaf_row false r = refl

one_row : {A : Type 0} (b : Bool) (f : A → Tree) (x : Option A) → ((a : A) → is_broken (f a) ≡ false) → not (is_broken (provided b (apply f x))) ≡ b && there x
unfolding provided or_else apply is_broken there
one_row true f none h = refl
one_row true f (some a) h = ap not (h a)
one_row false f x h = refl

two_row :
    {A B : Type 0} (b : Bool) (f : A → B → Tree) (x : Option A) (y : Option B)
    → ((a : A) (c : B) → is_broken (f a c) ≡ false)
    → not (is_broken (provided b (apply₂ f x y))) ≡ b && (there x && there y)
unfolding provided or_else apply₂ is_broken there
two_row true f none y h = refl
two_row true f (some a) none h = refl
two_row true f (some a) (some c) h = ap not (h a c)
two_row false f x y h = refl

const_row :
    (x : Option Pattern) (y z : Option Text)
    → not (is_broken (provided true (apply₂ (λ (f : Text → Lens) d. lens (f d)) (apply₂ (λ r w d. const r w d) x y) z))) ≡ there x && (there y && there z)
unfolding provided or_else apply₂ is_broken there
const_row none y z = refl
const_row (some r) none z = refl
const_row (some r) (some w) none = refl
const_row (some r) (some w) (some d) = refl

-- each row of the table of kinds
row_kept :
    (bytes : Text) (ts : Trees) (κ : Kind) (a b c : ℕ)
    → sizes_wrong bytes ≡ false
    → not (is_broken (build (pool bytes) ts κ a b c)) ≡ keeps_rules bytes ts κ a b c
unfolding build keeps_rules word_fits range_ordered one_child two_children const_parts sort_at word_there is_broken
row_kept bytes ts Word a b c e = leaf_row _ _ ∙ (rw (pool_is bytes e))
row_kept bytes ts Range a b c e = leaf_row _ _
row_kept bytes ts PatternJoin a b c e = two_row _ _ (pattern_at ts a) (pattern_at ts b) (λ r s. refl)
row_kept bytes ts PatternUnion a b c e = two_row _ _ (pattern_at ts a) (pattern_at ts b) (λ r s. refl)
row_kept bytes ts PatternRepeat a b c e = one_row _ _ (pattern_at ts a) (λ r. refl)
row_kept bytes ts Set a b c e = leaf_row _ _
row_kept bytes ts Copy a b c e = one_row _ _ (pattern_at ts a) (λ r. refl)
row_kept bytes ts Const a b c e = const_row (pattern_at ts a) (word_at ts b) (word_at ts c)
row_kept bytes ts Key a b c e = one_row _ _ (pattern_at ts a) (λ r. refl)
row_kept bytes ts LensJoin a b c e = two_row _ _ (lens_at ts a) (lens_at ts b) (λ l m. refl)
row_kept bytes ts LensUnion a b c e = two_row _ _ (lens_at ts a) (lens_at ts b) (λ l m. refl)
row_kept bytes ts LensRepeat a b c e = one_row _ _ (lens_at ts a) (λ l. refl)
row_kept bytes ts Match a b c e = one_row _ _ (lens_at ts a) (λ l. refl)

kept_tree :
    (bytes : Text) (ts : Trees) (n : Node) (κ : Kind)
    → sizes_wrong bytes ≡ false
    → kind_of n.kind ≡ some κ
    → keeps_rules bytes ts κ n.a n.b n.c ≡ not (is_broken (tree_of (pool bytes) ts n))
unfolding tree_of or_else apply
kept_tree bytes ts n κ e h = rw h (sym (row_kept bytes ts κ n.a n.b n.c e))

-- the rules of a node's kind are kept exactly where its tree is not broken
pub kept_is :
    {bytes : Text} {k : ℕ} {o : Operands} {κ : Kind}
    → sizes_wrong bytes ≡ false
    → k < node_count bytes
    → OperandsRead bytes k o
    → kind_of (node_at bytes k).kind ≡ some κ
    → keeps_rules bytes (take k (trees bytes)) κ o.a o.b o.c ≡ not (is_broken (tree_at (trees bytes) k))
kept_is {bytes} {k} {o} {κ} e h r q =
    rw (tree_is bytes k h, r.a_is, r.b_is, r.c_is) (kept_tree bytes (take k (trees bytes)) (node_at bytes k) κ e q)

-- ---- One more node

-- what is stored is right of its tree, so one more node is sized
pub sized_more :
    (bytes : Text) (k : ℕ) (old new : List ℕ) (r : N.Node)
    → Sized bytes k old
    → Stored old k r new
    → NodeRead bytes k r
    → is_broken (tree_at (trees bytes) k) ≡ false
    → nested (tree_at (trees bytes) k) ≡ false
    → over_limit (tree_at (trees bytes) k) ≡ false
    → Sized bytes (k + 1) new
sized_more bytes k old new r s st read w n l = record { sizes_right = s.sizes_right; each = λ j h. go j h (bool_cases (ltb j k)) }
  where
    last : NodeSized bytes new k
    last =
        record {
          whole = w;
          not_nested = n;
          within = l;
          size_is = st.size_is ∙ read.size_is;
          source_is = st.source_is ∙ read.source_is;
          sheet_is = st.sheet_is ∙ read.sheet_is;
          match_is = st.match_is ∙ ap flag read.match_is ∙ sym (flag_is (tree_at (trees bytes) k));
        }

    earlier : (j : ℕ) → j < k → NodeSized bytes new j
    earlier j h =
        let o = s.each j h in
        record {
          whole = o.whole;
          not_nested = o.not_nested;
          within = o.within;
          size_is = st.earlier (16 * j) (omega arith) ∙ o.size_is;
          source_is = st.earlier (16 * j + 1) (omega arith) ∙ o.source_is;
          sheet_is = st.earlier (16 * j + 2) (omega arith) ∙ o.sheet_is;
          match_is = st.earlier (16 * j + 3) (omega arith) ∙ o.match_is;
        }

    go : (j : ℕ) → j < k + 1 → (ltb j k ≡ true) ⊎ (ltb j k ≡ false) → NodeSized bytes new j
    go j h (inl e) = earlier j (ltb-true j k e)
    go j h (inr e) = let same : j ≡ k = omega (arith, ltb-false j k e) in rw same last

-- the limits on a node's own numbers are those on its tree
pub limits_are : (bytes : Text) (k : ℕ) (r : N.Node) → NodeRead bytes k r → over_limits r ≡ over_limit (tree_at (trees bytes) k)
unfolding over_limits over_limit
limits_are bytes k r h = rw (h.size_is, h.source_is, h.sheet_is)

-- ---- What a node's turn answers

pub fault_2 : (bytes : Text) (k : ℕ) → unknown_kind (node_at bytes k) ≡ true → Err (refusal 2 k) ≡ node_fault bytes k
unfolding node_fault
fault_2 bytes k u = rw u

module _ (bytes : Text) (k : ℕ) (u : unknown_kind (node_at bytes k) ≡ false) where
  pub fault_3 : is_broken (tree_at (trees bytes) k) ≡ true → Err (refusal 3 k) ≡ node_fault bytes k
  unfolding node_fault
  fault_3 w = rw (u, w)

  pub fault_4 : is_broken (tree_at (trees bytes) k) ≡ false → nested (tree_at (trees bytes) k) ≡ true → Err (refusal 4 k) ≡ node_fault bytes k
  unfolding node_fault
  fault_4 w n = rw (u, w, n)

  pub fault_5 :
      is_broken (tree_at (trees bytes) k) ≡ false
      → nested (tree_at (trees bytes) k) ≡ false
      → over_limit (tree_at (trees bytes) k) ≡ true
      → Err (refusal 5 k) ≡ node_fault bytes k
  unfolding node_fault
  fault_5 w n l = rw (u, w, n, l)

  pub no_fault :
      is_broken (tree_at (trees bytes) k) ≡ false
      → nested (tree_at (trees bytes) k) ≡ false
      → over_limit (tree_at (trees bytes) k) ≡ false
      → Ok tt ≡ node_fault bytes k
  unfolding node_fault
  no_fault w n l = rw (u, w, n, l)

-- a turn that refuses promises nothing of the prepared program
pub refused : (bytes : Text) (k : ℕ) (d : Refusal) (p : List ℕ) → Err d ≡ node_fault bytes k → Turned bytes k (Err d) p
refused bytes k d p e = record { fault_is = e; sized = λ z. cc }
