-- The tree of each node is made from its own bytes and the trees before it; a child's tree is the same among those as among all.
use mathlib.Core.Path.{◌≡◌, sym, ap, ◌∙◌}
use mathlib.Core.List.{List, [], ◌∷◌, ◌++◌, append_assoc, append-nil}
use Prim.Native.Nat.{ℕ, zero, suc, ◌+◌, ◌≤◌, ◌<◌}
use native.Mathlib.Omega.{arith}
use lib.ListN.{length, take, get_or, length-append, length-take, get_or-eq_default}
use lib.Seq.{get_or_at, take_at, get_or-take}
use Rattle.semantics.specs.Text.{Text}
use Rattle.semantics.specs.Table.{Node, node_at, node_count, nodes, pool, broken, Trees, tree_at, tree_of, trees_from, trees}
use Rattle.laws.specs.NodeTrees.{node_length, node_is}

-- further trees stand behind those that are there
grows : (bytes : Text) (ts : Trees) (ns : List Node) → (us : Trees) × (trees_from bytes ts ns ≡ ts ++ us)
unfolding trees_from
grows bytes ts [] = ([], sym (append-nil ts))
grows bytes ts (n ∷ ns) =
    let t = tree_of bytes ts n in
    let h = grows bytes (ts ++ t ∷ []) ns in
    (t ∷ h.0, h.1 ∙ append_assoc ts (t ∷ []) h.0)

-- the tree at a place past those that are there
tree_from :
    (bytes : Text) (ts : Trees) (ns : List Node) (d : Node) (j i : ℕ)
    → j < length ns
    → i ≡ length ts + j
    → tree_at (trees_from bytes ts ns) i ≡ tree_of bytes (take i (trees_from bytes ts ns)) (get_or ns j d)
unfolding tree_at trees_from
tree_from bytes ts [] d j i h e = absurd (omega arith)
tree_from bytes ts (n ∷ ns) d zero i h e =
    let t = tree_of bytes ts n in
    let g = grows bytes (ts ++ t ∷ []) ns in
    let all : trees_from bytes (ts ++ t ∷ []) ns ≡ ts ++ t ∷ g.0 = g.1 ∙ append_assoc ts (t ∷ []) g.0 in
    let l : length ts ≡ i = omega arith in
    rw all (get_or_at ts t g.0 broken i l ∙ ap (λ us. tree_of bytes us n) (sym (take_at ts (t ∷ g.0) i l)))
tree_from bytes ts (n ∷ ns) d (suc j) i h e =
    tree_from bytes (ts ++ tree_of bytes ts n ∷ []) ns d j i (omega arith) (omega (arith, length-append ts (tree_of bytes ts n ∷ [])))

-- node k's tree is made from its bytes and the trees below it
pub tree_is : (bytes : Text) (k : ℕ) → k < node_count bytes → tree_at (trees bytes) k ≡ tree_of (pool bytes) (take k (trees bytes)) (node_at bytes k)
unfolding trees
tree_is bytes k h =
    tree_from (pool bytes) [] (nodes bytes) (node_at bytes 0) k k (omega (arith, node_length bytes)) (omega arith)
    ∙ ap (tree_of (pool bytes) (take k (trees bytes))) (node_is bytes k h)

-- among the trees below k, a lower node has its tree, and any other number none
pub lower_tree : (ts : Trees) (k a : ℕ) → a < k → tree_at (take k ts) a ≡ tree_at ts a
unfolding tree_at
lower_tree ts k a h = get_or-take k ts a broken h

pub no_tree : (ts : Trees) (k a : ℕ) → k ≤ a → tree_at (take k ts) a ≡ broken
unfolding tree_at
no_tree ts k a h = get_or-eq_default (take k ts) broken (omega (arith, length-take k ts))
