-- What a node's kind says of its entries, and what the built program gives of its automaton.
use mathlib.Core.Path.{◌≡◌, refl, sym, ◌∙◌}
use mathlib.Core.Bool.{false}
use mathlib.Core.List.{List, []}
use Prim.Native.Nat.{ℕ, ◌+◌, ◌*◌, ◌≤◌, ◌<◌}
use native.Mathlib.Omega.{arith}
use lib.ListN.{length}
use Rattle.semantics.specs.Text.{Text}
use Rattle.semantics.specs.Lens.{Lens, match, source, language, entries}
use Rattle.semantics.specs.Table.{node_count, Tree, pattern, lens, broken, tree_at, lens_at, lens_of, trees}
use Rattle.laws.specs.GetPut.{no_entries}
use Rattle.table.specs.declared.Kind.TheVariants.{Word, OneOf as ByteOf, PatternJoin, PatternUnion, PatternRepeat, Copy, Const, Key, LensJoin, LensUnion, LensRepeat, Match}
use Rattle.table.specs.declared.Kind.{Kind}
use Rattle.table.specs.declared.Node.{Node}
use Rattle.table.specs.Prepared.{Shows, OneLens}
use Rattle.table.specs.Rules.{tree_holds, NodeRead}
use Rattle.automaton.specs.declared.Automaton.{Automaton}
use Rattle.automaton.specs.declared.Side.TheVariants.{Source}
use Rattle.automaton.specs.Rows.{side_of, automaton_at, Describes}
use Rattle.automaton.specs.Built.{Built, tree_language}
use Rattle.lens.specs.Nodes.{sizes_are, words_inside, shown_repeat}
use Rattle.lens.specs.Parsed.{Parsed, parsed_match}
use Rattle.books.specs.declared.Book.{Book}
use Rattle.std.specs.Prelude.{Option}
use Rattle.listing.specs.Listing.{Lists, ListsMatch, tree_entries, repeat_entries}

-- ---- A node's source automaton

module _ {bytes : Text} {prepared : List ℕ} {k : ℕ} (built : Built bytes prepared) (inside : k < node_count bytes) where
  -- the table is small, and the node's words stand in the prepared program
  pub node_small : k < 96
  node_small = omega (arith, (sizes_are built.sized).few_nodes)

  pub node_words : 16 * k + 16 ≤ length prepared
  node_words = words_inside built inside

  -- its source automaton is that of its lens's sources
  pub node_described :
      {a : Automaton} (l : Lens) → tree_at (trees bytes) k ≡ lens l → a ≡ automaton_at prepared k Source → Describes (language source l) a prepared
  unfolding side_of tree_language
  node_described {a} l l_is e =
      let d : Describes (tree_language source (tree_at (trees bytes) k)) a prepared = rw e (built.automata k inside Source).described in
      rw l_is at d

-- ---- A node's entries, by its kind

-- a tree without a match has none
none_held : (tree : Tree) (t : Text) → tree_holds tree ≡ false → tree_entries tree t ≡ []
unfolding tree_holds tree_entries
none_held (pattern r) t free = refl
none_held (lens l) t free = no_entries l free t
none_held broken t free = refl

module _ {bytes : Text} {k : ℕ} {n : Node} (read : NodeRead bytes k n) where
  -- the entries: patterns and the lenses that hold no other have none
  pub leaf_entries :
      (t : Text)
      → ((a b : ℕ) → n.kind ≡ LensJoin a b → ⊥)
      → ((a b : ℕ) → n.kind ≡ LensUnion a b → ⊥)
      → ((a : ℕ) → n.kind ≡ LensRepeat a → ⊥)
      → ((a : ℕ) → n.kind ≡ Match a → ⊥)
      → tree_entries (tree_at (trees bytes) k) t ≡ []
  unfolding Shows tree_entries entries
  leaf_entries t no_join no_union no_repeat no_own = go n.kind refl read.shows
    where
      go : (κ : Kind) → n.kind ≡ κ → Shows bytes k κ → tree_entries (tree_at (trees bytes) k) t ≡ []
      go (Word start len) e s = rw s.tree_is
      go (ByteOf at runs) e s = rw s.tree_is
      go (PatternJoin a b) e s = rw s.tree_is
      go (PatternUnion a b) e s = rw s.tree_is
      go (PatternRepeat a) e s = rw s.tree_is
      go (Copy a) e s = rw s.tree_is
      go (Const a b c) e s = rw s.tree_is
      go (Key a) e s = rw s.tree_is
      go (LensJoin a b) e s = absurd (no_join a b e)
      go (LensUnion a b) e s = absurd (no_union a b e)
      go (LensRepeat a) e s = absurd (no_repeat a e)
      go (Match a) e s = absurd (no_own a e)

  module _ (t : Text) where
    -- a node that holds no match has none
    pub no_match : n.holds_match ≡ false → tree_entries (tree_at (trees bytes) k) t ≡ []
    no_match free = none_held (tree_at (trees bytes) k) t (sym read.match_is ∙ free)

    -- a repeat has those of its child
    pub repeat_entries_lem :
        {a : ℕ} → n.kind ≡ LensRepeat a → tree_entries (tree_at (trees bytes) k) t ≡ repeat_entries (tree_at (trees bytes) a) t
    unfolding tree_entries tree_language entries repeat_entries
    repeat_entries_lem e = let s = shown_repeat read e in rw (s.tree_is, s.at_child)

-- a match has the one that was listed for its child
pub match_entries :
    {bytes : Text} {k a base : ℕ} {path t : Text} {at : ℕ} {b : Book} {r : Option Book}
    → OneLens (trees bytes) k a (λ l. lens (match a l))
    → Parsed bytes k source base path t
    → ListsMatch a base t at b r
    → Lists bytes (tree_entries (tree_at (trees bytes) k) t) t path at b r
unfolding tree_entries lens_at lens_of
match_entries {bytes} {path = path} s parsed lists =
    rw s.tree_is (lists.lists_match bytes path s.child (rw s.at_child) (parsed_match parsed s))
