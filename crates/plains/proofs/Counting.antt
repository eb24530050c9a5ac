-- How many matches are met at a node, from the count that is kept for it.
use mathlib.Core.Path.{◌≡◌, refl, sym, ap, subst, ◌∙◌}
use mathlib.Core.Bool.{Bool, true, false, cond}
use lib.Dec.{ltb}
use borrow.Author.Tests.{ltb-true}
use Rattle.std.specs.Prelude.{Some, None}
use mathlib.Core.List.{List}
use mathlib.Core.Option.{Option}
use Prim.Native.Nat.{ℕ, ◌*◌, ◌≤◌, ◌<◌}
use native.Mathlib.Nat.{mul-le-mul}
use native.Mathlib.Omega.{arith}
use lib.ListN.{length}
use Rattle.semantics.specs.Text.{Text}
use Rattle.semantics.specs.Lens.{Lens, repeat, sheet, language, parts}
use Rattle.semantics.specs.Table.{trees, tree_at, lens}
use Rattle.semantics.specs.Tally.{met}
use Rattle.table.specs.Prepared.{OneLens}
use Rattle.lens.specs.Emitting.{LensNode}
use Rattle.lens.specs.Nodes.{same_lens, child_below}
use Rattle.below.specs.Below.{count_at, BelowIs}
use Rattle.below.specs.Below.{counted as known_count}
use Rattle.below.specs.Counts.{repeat_met}
use Rattle.counted.specs.Counted.{MeetsThere}

-- a count that is kept is the number that is kept for it, and small
kept_count : {n r : ℕ} → Some r ≡ known_count n → (r ≡ n) × (r < 65536)
kept_count {n} {r} = go (ltb n 65536) refl
  where
    go : (b : Bool) → ltb n 65536 ≡ b → Some r ≡ cond b (Some n) None → (r ≡ n) × (r < 65536)
    go true p e = let same : r ≡ n = cc in (same, omega (arith, ltb-true n 65536 p))
    go false p e = cc

-- a count for each part of a sheet is a small number
pub product_small : (k : ℕ) {r : ℕ} (n : ℕ) → Some r ≡ known_count k → n ≤ 4096 → r * n ≤ 268435456
product_small k {r} n h l = let at_most : r ≤ 65536 = omega (arith, (kept_count h).1) in mul-le-mul at_most l

module _ {bytes : Text} {prepared below : List ℕ} {node r : ℕ} where
  -- the matches of a lens are as many as the count of its node says
  counted :
      LensNode bytes prepared node
      → BelowIs bytes below
      → Some r ≡ known_count (count_at below node)
      → (l : Lens)
      → tree_at (trees bytes) node ≡ lens l
      → (old : Option Text) (new : Text)
      → length (met l old new) ≡ r
  counted known below_is is l e old new =
      let (same, small) = kept_count is in
      (below_is.each node l known.inside e).count_is.evenly (omega (arith, small, same)) old new ∙ sym same

  -- so at the node
  pub count_met :
      (old : Option Text) (new : Text)
      → LensNode bytes prepared node
      → BelowIs bytes below
      → Some r ≡ known_count (count_at below node)
      → MeetsThere bytes node old new r
  count_met old new known below_is is = record { meets = λ l e. counted known below_is is l e old new }

-- each part of a repeat meets as many as its child
pub repeat_counted :
    {bytes : Text} {prepared below : List ℕ} {node child : ℕ}
    → LensNode bytes prepared node
    → BelowIs bytes below
    → (s : OneLens (trees bytes) node child (λ l. lens (repeat l)))
    → {r : ℕ} (n : ℕ) (old : Option Text) (new : Text)
    → Some r ≡ known_count (count_at below child)
    → n ≡ length (parts (language sheet s.child) new)
    → MeetsThere bytes node old new (r * n)
repeat_counted known below_is s {r} n old new is n_is =
    let each = counted (child_below known s) below_is is s.child s.at_child in
    let whole : length (met (repeat s.child) old new) ≡ r * n = repeat_met s.child r each old new ∙ ap (λ k. r * k) (sym n_is) in
    record { meets = λ l e. subst (λ m. length (met m old new) ≡ r * n) (same_lens (repeat s.child) l (sym s.tree_is ∙ e)) whole }
