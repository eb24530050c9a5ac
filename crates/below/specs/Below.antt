-- What stands at and below each node of a program, as it is kept for a put.
use Rattle.std.specs.Prelude.{◌≡◌, Bool, ◌||◌, cond, List, ℕ, ◌+◌, ◌*◌, ◌≤◌, ◌<◌, eqb, ltb, min, length, get_or, set, Some, None, unwrap_or}
use Rattle.std.specs.Prelude as P
use Rattle.std.proofs.Math.Option.{Option}
use Rattle.semantics.specs.Text.{Text}
use Rattle.semantics.specs.Lens.{Lens}
use Rattle.semantics.specs.Table.{node_count, trees, tree_at, lens}
use Rattle.semantics.specs.Tally.{met}
use Rattle.laws.specs.Bookless.{asks}
use Rattle.positions.specs.Positions.{holds, Joined, Added}
use Rattle.automaton.specs.Rows.{set_at}
use Rattle.lens.specs.SourceKeys.{has_union}
use Rattle.below.specs.declared.Standing.{Standing}

-- whether the numbers of a node say that there is a union
abbrev pub union_at : List ℕ → ℕ → Bool
union_at below k = eqb (get_or below (4 * k + 2) 0) 1

-- how many matches a put meets at a node, by its numbers
abbrev pub count_at : List ℕ → ℕ → ℕ
count_at below k = get_or below (4 * k + 3) 0

-- a count, if it is one that is kept: 65,536 stands for none
abbrev pub Count : Type 0
Count = P.Option ℕ

abbrev pub counted : ℕ → Count
counted n = cond (ltb n 65536) (Some n) None

-- a count as it is kept
abbrev pub kept_as : Count → ℕ
kept_as c = unwrap_or c 65536

-- The count of a lens: as many matches as a put meets there, whatever the texts are, unless it is 65,536.
pub record Even (count : ℕ) (l : Lens) : Type 0 where
  pub at_most : count ≤ 65536
  pub evenly : count < 65536 → (old : Option Text) (a : Text) → length (met l old a) ≡ count

-- The numbers of a node whose lens is l: the children of its matches, whether there is a union, and the count.
pub record NodeBelow (below : List ℕ) (k : ℕ) (l : Lens) : Type 0 where
  pub asked_is : (n : ℕ) → n < 128 → holds (set_at below (4 * k)) n ≡ asks l n
  pub union_is : union_at below k ≡ has_union l
  pub count_is : Even (count_at below k) l

-- They are those of every lens of the program.
pub record BelowIs (bytes : Text) (below : List ℕ) : Type 0 where
  pub room : 4 * node_count bytes ≤ length below
  pub each : (k : ℕ) (l : Lens) → k < node_count bytes → tree_at (trees bytes) k ≡ lens l → NodeBelow below k l

-- ---- How they are made, node by node

-- the numbers of a node
abbrev pub standing_at : List ℕ → ℕ → Standing
standing_at below k = record { asked = set_at below (4 * k); union = union_at below k; count = counted (count_at below k) }

-- the numbers with those of one more node
abbrev pub stored : List ℕ → ℕ → Standing → List ℕ
stored below k s =
    set (set (set (set below (4 * k) s.asked.low) (4 * k + 1) s.asked.high) (4 * k + 2) (cond s.union 1 0)) (4 * k + 3) (kept_as s.count)

-- the count of a union or of a join, from those of its halves
abbrev pub count_over : Bool → ℕ → ℕ → ℕ
count_over union a b = cond union (cond (eqb a b) a 65536) (min (a + b) 65536)

-- What stands at two nodes, together, and maybe a union of them.
pub record OverTwo (below : List ℕ) (left right : ℕ) (union : Bool) (r : Standing) : Type 0 where
  pub asked_is : Joined (set_at below (4 * left)) (set_at below (4 * right)) r.asked
  pub union_is : r.union ≡ (union || (union_at below left || union_at below right))
  pub count_is : r.count ≡ counted (count_over union (count_at below left) (count_at below right))

-- What stands at the child of a match, and that child.
pub record OverChild (below : List ℕ) (child : ℕ) (r : Standing) : Type 0 where
  pub asked_is : Added (set_at below (4 * child)) child r.asked
  pub union_is : r.union ≡ union_at below child
  pub count_is : r.count ≡ Some 1

-- What stands at the child of a repeat, whose count is 0 if the child's is, and depends on the parts otherwise.
pub record OverParts (below : List ℕ) (child : ℕ) (r : Standing) : Type 0 where
  pub asked_is : r.asked ≡ set_at below (4 * child)
  pub union_is : r.union ≡ union_at below child
  pub count_is : r.count ≡ counted (cond (eqb (count_at below child) 0) 0 65536)

-- What stands at a lens.
pub record Stands (s : Standing) (l : Lens) : Type 0 where
  pub asked_is : (n : ℕ) → n < 128 → holds s.asked n ≡ asks l n
  pub union_is : s.union ≡ has_union l
  pub count_is : Even (kept_as s.count) l

-- What stands at a node, if it is a lens.
pub record NodeStands (bytes : Text) (k : ℕ) (s : Standing) : Type 0 where
  pub stands : (l : Lens) → tree_at (trees bytes) k ≡ lens l → Stands s l

-- The numbers of the nodes before k are stored.
pub record BelowTo (bytes : Text) (below : List ℕ) (k : ℕ) : Type 0 where
  pub each : (j : ℕ) (l : Lens) → j < k → tree_at (trees bytes) j ≡ lens l → NodeBelow below j l
