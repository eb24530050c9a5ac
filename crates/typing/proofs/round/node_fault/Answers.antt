-- `typing::round::node_fault` meets its contract: what the node shows of its tree says which lines it has. Assumes nothing.
use mathlib.Core.Path.{◌≡◌, refl}
use native.Mathlib.Omega.{arith}
use Rattle.semantics.specs.Lens.{join, union}
use Rattle.semantics.specs.Table.{tree_lines, typing_lines}
use Rattle.table.specs.Prepared.{Shows}
use Rattle.typing.proofs.Faults.{shown, no_fault, two_stand, two_fault, repeat_stand, repeat_fault, const_fault}
use mathlib.Core.Logic.{◌⊎◌, inl, inr}
use Prim.Native.Nat.{ℕ}
use Rattle.semantics.specs.Text.{Text}
use Rattle.std.specs.Prelude.{Ok}
use Rattle.table.specs.declared.Node.{Node}
use Rattle.table.specs.declared.Kind.TheVariants.{Word, OneOf, PatternJoin, PatternUnion, Copy, Key, Match}
use Rattle.table.specs.Rules.{NodeRead}
use Rattle.typing.specs.Round.{typing_fault}
use Rattle.typing.proofs.round.node_fault.Goals as goal

-- kinds with no typing line
module _ {bytes : Text} {k : ℕ} {node : Node} (read : NodeRead bytes k node) where
  no_lines :
      ((x : ℕ) × (y : ℕ) × (node.kind ≡ Word x y))
      ⊎ ((x : ℕ) × (y : ℕ) × (node.kind ≡ OneOf x y))
      ⊎ ((x : ℕ) × (y : ℕ) × (node.kind ≡ PatternJoin x y))
      ⊎ ((x : ℕ) × (y : ℕ) × (node.kind ≡ PatternUnion x y))
      ⊎ ((x : ℕ) × (node.kind ≡ Copy x))
      ⊎ ((x : ℕ) × (node.kind ≡ Key x))
      ⊎ ((x : ℕ) × (node.kind ≡ Match x))
      → Ok tt ≡ typing_fault bytes k
  unfolding Shows tree_lines typing_lines
  no_lines (inl (x, y, e)) = no_fault read (shown read e).tree_is refl
  no_lines (inr (inl (x, y, e))) = no_fault read (shown read e).tree_is refl
  no_lines (inr (inr (inl (x, y, e)))) = no_fault read (shown read e).tree_is refl
  no_lines (inr (inr (inr (inl (x, y, e))))) = no_fault read (shown read e).tree_is refl
  no_lines (inr (inr (inr (inr (inl (x, e)))))) = no_fault read (shown read e).tree_is refl
  no_lines (inr (inr (inr (inr (inr (inl (x, e))))))) = no_fault read (shown read e).tree_is refl
  no_lines (inr (inr (inr (inr (inr (inr (x, e))))))) = no_fault read (shown read e).tree_is refl

pub const_fault-requires : goal.const_fault-requires
unfolding Shows
const_fault-requires c = let h = shown c.node.ensures c.in-Const.is in record { built = c.requires.built; pattern_bound = (omega (arith, h.lower, c.requires.k_bound), omega (arith, h.default_lower, c.requires.k_bound)) }

pub join_fault-requires : goal.join_fault-requires
unfolding Shows
join_fault-requires c = let h = two_stand c.requires.built c.requires.k_bound (shown c.node.ensures c.in-LensJoin.is) in record { stands = h.0; stands_2 = h.1 }

pub union_fault-requires : goal.union_fault-requires
unfolding Shows
union_fault-requires c = let h = two_stand c.requires.built c.requires.k_bound (shown c.node.ensures c.in-LensUnion.is) in record { stands = h.0; stands_2 = h.1 }

pub repeat_fault-requires : goal.repeat_fault-requires
unfolding Shows
repeat_fault-requires c = let h = repeat_stand c.requires.built c.requires.k_bound (shown c.node.ensures c.in-LensRepeat.is) in record { stands = h.0; stands_2 = h.1 }

pub returns-in-Const : goal.returns-in-Const
unfolding Shows
returns-in-Const c = const_fault c.requires.built c.requires.k_bound (shown c.node.ensures c.in-Const.is) c.const_fault.ensures

pub returns-in-LensJoin : goal.returns-in-LensJoin
unfolding Shows
returns-in-LensJoin c = two_fault c.requires.built c.requires.k_bound {make = join} (shown c.node.ensures c.in-LensJoin.is) c.join_fault.ensures

pub returns-in-LensUnion : goal.returns-in-LensUnion
unfolding Shows
returns-in-LensUnion c = two_fault c.requires.built c.requires.k_bound {make = union} (shown c.node.ensures c.in-LensUnion.is) c.union_fault.ensures

pub returns-in-LensRepeat : goal.returns-in-LensRepeat
unfolding Shows
returns-in-LensRepeat c = repeat_fault c.requires.built c.requires.k_bound (shown c.node.ensures c.in-LensRepeat.is) c.repeat_fault.ensures

pub returns-in-Word : goal.returns-in-Word
returns-in-Word c = no_lines c.node.ensures c.in-Word.is

pub returns-in-PatternRepeat : goal.returns-in-PatternRepeat
unfolding Shows tree_lines
returns-in-PatternRepeat c = no_fault c.node.ensures (shown c.node.ensures c.in-PatternRepeat.is).tree_is refl
