-- How the trees of a program are made: each lens stands over lenses of other nodes, and each node has one tree.
use Rattle.std.specs.Prelude.{◌≡◌, Bool, ◌⊎◌, length, take, drop, get_or, ltb}
use Rattle.std.proofs.Math.Path.{refl}
use Rattle.std.proofs.Common.{ap, ◌∙◌, subst, inl, inr, arith, length-append, ltb-true, ltb-false}
use Rattle.std.proofs.Math.Bool.{true, false}
use mathlib.Core.List.{List, [], ◌∷◌, ◌++◌}
use Rattle.std.proofs.Math.Option.{Option, none, some, none-ne-some}
use Prim.Native.Nat.{ℕ, zero, suc, ◌+◌, ◌<◌}
use Rattle.std.proofs.lemmas.List.{length-map, get_or_at}
use Rattle.std.proofs.Math.ListN.{get_or-append, get_or-map}
use Rattle.semantics.specs.Text.{Text, All, Member, or_else, apply, apply₂}
use Rattle.semantics.specs.Pattern.{range, Pattern, word, one_of, concat, alt, star}
use Rattle.semantics.specs.Lens.{Lens, copy, const, key, join, union, repeat, match}
use Rattle.semantics.specs.Table.{Node, node_at, node_count, nodes, below, pool, two, Kind, Word, Range, PatternJoin, PatternUnion, PatternRepeat, Set, Copy, Const, Key, LensJoin, LensUnion, LensRepeat, Match, Tree, pattern, lens, broken, Trees, lens_of, tree_at, pattern_at, lens_at, word_at, provided, set_part, build, tree_of, trees_from, trees}
use Rattle.laws.specs.Basics.{bool_cases, all_at, all_of, all_append}

-- ---- What holds of each tree that is made holds of all

-- P holds of what each row of the table of kinds makes
pub record Rows (P : Tree → Type 0) (pool : Text) (ts : Trees) (a b c : ℕ) : Type 0 where
  pub of_word : P (pattern (word (take c (drop (two a b) pool))))
  pub of_range : P (pattern (one_of (range a b)))
  pub of_set : P (pattern (one_of (set_part pool a b c)))
  pub of_patterns : (r s : Pattern) → pattern_at ts a ≡ some r → pattern_at ts b ≡ some s → P (pattern (concat r s)) × P (pattern (alt r s))
  pub of_pattern : (r : Pattern) → pattern_at ts a ≡ some r → P (pattern (star r)) × P (lens (copy r)) × P (lens (key r))
  pub of_const : (r : Pattern) (w d : Text) → pattern_at ts a ≡ some r → word_at ts b ≡ some w → word_at ts c ≡ some d → P (lens (const r w d))
  pub of_lenses : (l m : Lens) → lens_at ts a ≡ some l → lens_at ts b ≡ some m → P (lens (join l m)) × P (lens (union l m))
  pub of_lens : (l : Lens) → lens_at ts a ≡ some l → P (lens (repeat l)) × P (lens (match a l))

-- for a P that holds of a broken tree
module _ (P : Tree → Type 0) (of-broken : P broken) where
  -- a tree that may be missing has it if it is there
  abbrev IfAny : Option Tree → Type 0
  IfAny none = Unit {0}
  IfAny (some t) = P t

  -- where it is missing the tree is broken
  otherwise_has : (o : Option Tree) → IfAny o → P (or_else broken o)
  unfolding or_else
  otherwise_has none h = of-broken
  otherwise_has (some t) h = h

  provided_has : (b : Bool) (o : Option Tree) → IfAny o → P (provided b o)
  unfolding provided
  provided_has true o h = otherwise_has o h
  provided_has false o h = of-broken

  -- a tree made of parts that may be missing is judged where they are there
  apply_has : {A : Type 0} (f : A → Tree) (x : Option A) → ((a : A) → x ≡ some a → P (f a)) → IfAny (apply f x)
  unfolding apply
  apply_has f none h = tt
  apply_has f (some a) h = h a refl

  apply₂_has :
      {A B : Type 0} (f : A → B → Tree) (x : Option A) (y : Option B)
      → ((a : A) (b : B) → x ≡ some a → y ≡ some b → P (f a b))
      → IfAny (apply₂ f x y)
  unfolding apply₂
  apply₂_has f none y h = tt
  apply₂_has f (some a) none h = tt
  apply₂_has f (some a) (some b) h = h a b refl refl

  const_has :
      (x : Option Pattern) (y z : Option Text)
      → ((r : Pattern) (w d : Text) → x ≡ some r → y ≡ some w → z ≡ some d → P (lens (const r w d)))
      → IfAny (apply₂ (λ (f : Text → Lens) d. lens (f d)) (apply₂ (λ r w d. const r w d) x y) z)
  unfolding apply₂
  const_has none y z h = tt
  const_has (some r) none z h = tt
  const_has (some r) (some w) none h = tt
  const_has (some r) (some w) (some d) h = h r w d refl refl refl

  build_has : (pool : Text) (ts : Trees) (kind : Kind) (a b c : ℕ) → Rows P pool ts a b c → P (build pool ts kind a b c)
  unfolding build
  build_has pool ts Word a b c rows = provided_has _ _ rows.of_word
  build_has pool ts Range a b c rows = provided_has _ _ rows.of_range
  build_has pool ts PatternJoin a b c rows = provided_has _ _ (apply₂_has _ _ _ (λ r s p q. (rows.of_patterns r s p q).0))
  build_has pool ts PatternUnion a b c rows = provided_has _ _ (apply₂_has _ _ _ (λ r s p q. (rows.of_patterns r s p q).1))
  build_has pool ts PatternRepeat a b c rows = provided_has _ _ (apply_has _ _ (λ r p. (rows.of_pattern r p).0))
  build_has pool ts Set a b c rows = provided_has _ _ rows.of_set
  build_has pool ts Copy a b c rows = provided_has _ _ (apply_has _ _ (λ r p. (rows.of_pattern r p).1))
  build_has pool ts Const a b c rows = provided_has _ _ (const_has _ _ _ rows.of_const)
  build_has pool ts Key a b c rows = provided_has _ _ (apply_has _ _ (λ r p. (rows.of_pattern r p).2))
  build_has pool ts LensJoin a b c rows = provided_has _ _ (apply₂_has _ _ _ (λ l m p q. (rows.of_lenses l m p q).0))
  build_has pool ts LensUnion a b c rows = provided_has _ _ (apply₂_has _ _ _ (λ l m p q. (rows.of_lenses l m p q).1))
  build_has pool ts LensRepeat a b c rows = provided_has _ _ (apply_has _ _ (λ l p. (rows.of_lens l p).0))
  build_has pool ts Match a b c rows = provided_has _ _ (apply_has _ _ (λ l p. (rows.of_lens l p).1))

  tree_has : (pool : Text) (ts : Trees) (n : Node) → Rows P pool ts n.a n.b n.c → P (tree_of pool ts n)
  unfolding tree_of
  tree_has pool ts n rows = otherwise_has _ (apply_has _ _ (λ k p. build_has pool ts k n.a n.b n.c rows))

  -- the tree at any place
  pub at_has : (ts : Trees) (k : ℕ) → All P ts → P (tree_at ts k)
  unfolding tree_at
  at_has [] k h = of-broken
  at_has (t ∷ ts) zero h = h.0
  at_has (t ∷ ts) (suc k) h = at_has ts k h.1

-- where the rows make trees that have P among the trees before them, and keep it among more, all the trees have it in the end
module _
    (P : Trees → Tree → Type 0)
    (of-broken : (ts : Trees) → P ts broken)
    (stays : (ts us : Trees) (t : Tree) → P ts t → P (ts ++ us) t)
  where
    from_have :
        (pool : Text) (ts : Trees) (ns : List Node)
        → ((us : Trees) (n : Node) → Member n ns → All (P us) us → Rows (P us) pool us n.a n.b n.c)
        → All (P ts) ts
        → All (P (trees_from pool ts ns)) (trees_from pool ts ns)
    unfolding trees_from
    from_have pool ts [] rows h = h
    from_have pool ts (n ∷ ns) rows h =
        from_have pool (ts ++ t ∷ []) ns (λ us m i. rows us m (inr i)) (all_append (P (ts ++ t ∷ [])) ts (t ∷ []) before (own, tt))
      where
        t : Tree
        t = tree_of pool ts n

        before : All (P (ts ++ t ∷ [])) ts
        before = all_of (P (ts ++ t ∷ [])) ts (λ u m. stays ts (t ∷ []) u (all_at (P ts) u ts h m))

        own : P (ts ++ t ∷ []) t
        own = stays ts (t ∷ []) t (tree_has (P ts) (of-broken ts) pool ts n (rows ts n (inl refl) h))

    pub trees_have :
        (bytes : Text)
        → ((us : Trees) (n : Node) → Member n (nodes bytes) → All (P us) us → Rows (P us) (pool bytes) us n.a n.b n.c)
        → (k : ℕ) → P (trees bytes) (tree_at (trees bytes) k)
    unfolding trees
    trees_have bytes rows k = at_has (P (trees bytes)) (of-broken (trees bytes)) (trees bytes) k (from_have (pool bytes) [] (nodes bytes) rows tt)

-- ---- Each lens stands over lenses of other nodes

-- some node has this lens
pub record Placed (ts : Trees) (l : Lens) : Type 0 where
  pub node : ℕ
  pub at_node : lens_at ts node ≡ some l

-- each lens directly below this one is a node's, a match's child that of the node that the match names
abbrev pub Made : Trees → Lens → Type 0
Made ts (copy r) = Unit {0}
Made ts (const r w d) = Unit {0}
Made ts (key r) = Unit {0}
Made ts (join l m) = Placed ts l × Placed ts m
Made ts (union l m) = Placed ts l × Placed ts m
Made ts (repeat l) = Placed ts l
Made ts (match n l) = lens_at ts n ≡ some l

-- so for a node's tree
abbrev MadeTree : Trees → Tree → Type 0
MadeTree ts (pattern r) = Unit {0}
MadeTree ts (lens l) = Made ts l
MadeTree ts broken = Unit {0}

-- ---- Further trees leave what was made

-- a node keeps its lens
lens_stays : (ts us : Trees) (k : ℕ) (l : Lens) → lens_at ts k ≡ some l → lens_at (ts ++ us) k ≡ some l
unfolding lens_at tree_at lens_of
lens_stays [] us k l e = absurd (none-ne-some l e)
lens_stays (t ∷ ts) us zero l e = e
lens_stays (t ∷ ts) us (suc k) l e = lens_stays ts us k l e

placed_stays : (ts us : Trees) (l : Lens) → Placed ts l → Placed (ts ++ us) l
placed_stays ts us l p = record { node = p.node; at_node = lens_stays ts us p.node l p.at_node }

made_stays : (ts us : Trees) (t : Tree) → MadeTree ts t → MadeTree (ts ++ us) t
made_stays ts us (pattern r) h = tt
made_stays ts us (lens (copy r)) h = tt
made_stays ts us (lens (const r w d)) h = tt
made_stays ts us (lens (key r)) h = tt
made_stays ts us (lens (join l m)) h = (placed_stays ts us l h.0, placed_stays ts us m h.1)
made_stays ts us (lens (union l m)) h = (placed_stays ts us l h.0, placed_stays ts us m h.1)
made_stays ts us (lens (repeat l)) h = placed_stays ts us l h
made_stays ts us (lens (match n l)) h = lens_stays ts us n l h
made_stays ts us broken h = tt

-- ---- A node's tree is made from the trees before it

rows_made : (pool : Text) (ts : Trees) (a b c : ℕ) → Rows (MadeTree ts) pool ts a b c
rows_made pool ts a b c =
    record {
      of_word = tt;
      of_range = tt;
      of_set = tt;
      of_patterns = λ r s p q. (tt, tt);
      of_pattern = λ r p. (tt, tt, tt);
      of_const = λ r w d p q o. tt;
      of_lenses = λ l m p q. ((placed a l p, placed b m q), (placed a l p, placed b m q));
      of_lens = λ l p. (placed a l p, p);
    }
  where
    placed : (k : ℕ) (l : Lens) → lens_at ts k ≡ some l → Placed ts l
    placed k l e = record { node = k; at_node = e }

-- each lens of a program, accepted or not, stands over lenses of other nodes
pub node_made : (bytes : Text) (k : ℕ) (l : Lens) → tree_at (trees bytes) k ≡ lens l → Made (trees bytes) l
node_made bytes k l e =
    subst (MadeTree (trees bytes)) e (trees_have MadeTree (λ ts. tt) made_stays bytes (λ us n i h. rows_made (pool bytes) us n.a n.b n.c) k)

-- ---- A lens at a node

-- a number at which a lens stands is a node's
pub lens_below : (ts : Trees) (k : ℕ) (l : Lens) → lens_at ts k ≡ some l → k < length ts
unfolding lens_at tree_at lens_of
lens_below [] k l e = absurd (none-ne-some l e)
lens_below (t ∷ ts) zero l e = omega arith
lens_below (t ∷ ts) (suc k) l e = let h = lens_below ts k l e in omega arith

-- the tree there is that lens
pub lens_tree : (ts : Trees) (k : ℕ) (l : Lens) → lens_at ts k ≡ some l → tree_at ts k ≡ lens l
unfolding lens_at lens_of
lens_tree ts k l = go (tree_at ts k)
  where
    go : (t : Tree) → lens_of t ≡ some l → t ≡ lens l
    go (pattern r) e = absurd (none-ne-some l e)
    go (lens m) e = cc
    go broken e = absurd (none-ne-some l e)

-- ---- One tree for each node

-- each node adds one tree
trees_length : (bytes : Text) (ts : Trees) (ns : List Node) → length (trees_from bytes ts ns) ≡ length ts + length ns
unfolding trees_from
trees_length bytes ts [] = omega arith
trees_length bytes ts (n ∷ ns) = simp (trees_length bytes (ts ++ tree_of bytes ts n ∷ []) ns, length-append) (omega arith)

-- 0 to n - 1 are n numbers, each at its own place
below_length : (n : ℕ) → length (below n) ≡ n
unfolding below
below_length zero = refl
below_length (suc n) = rw (length-append, below_length n) (omega arith)

-- N nodes, and N trees
pub node_length : (bytes : Text) → length (nodes bytes) ≡ node_count bytes
unfolding nodes
node_length bytes = rw length-map (below_length (node_count bytes))

pub tree_length : (bytes : Text) → length (trees bytes) ≡ node_count bytes
unfolding trees
tree_length bytes = trees_length (pool bytes) [] (nodes bytes) ∙ omega (arith, node_length bytes)

below_at : (n k : ℕ) → k < n → get_or (below n) k 0 ≡ k
unfolding below
below_at zero k h = omega arith
below_at (suc n) k h = go (below_at n k) (bool_cases (ltb k n))
  where
    go : (k < n → get_or (below n) k 0 ≡ k) → (ltb k n ≡ true) ⊎ (ltb k n ≡ false) → get_or (below n ++ n ∷ []) k 0 ≡ k
    go rec (inl e) = get_or-append (below n) (n ∷ []) 0 k (omega (arith, ltb-true, below_length n)) ∙ rec (ltb-true k n e)
    go rec (inr e) =
        let at_end : k ≡ n = omega (arith, ltb-false) in
        rw at_end (get_or_at (below n) n [] 0 n (below_length n))

-- the node at place k is node k
pub node_is : (bytes : Text) (k : ℕ) → k < node_count bytes → get_or (nodes bytes) k (node_at bytes 0) ≡ node_at bytes k
unfolding nodes
node_is bytes k h = get_or-map (node_at bytes) (below (node_count bytes)) k 0 ∙ ap (node_at bytes) (below_at (node_count bytes) k h)
