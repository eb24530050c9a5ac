-- `builder::program::rows_of` meets its contract. Assumes nothing.
use native.Mathlib.Omega.{arith}
use mathlib.Core.Logic.{◌⊎◌, inl, inr}
use mathlib.Core.Path.{◌≡◌}
use Prim.Native.Nat.{ℕ, ◌+◌}
use Rattle.semantics.specs.Text.{Text}
use Rattle.table.specs.declared.Node.{Node}
use Rattle.table.specs.declared.Kind.TheVariants.{Word, PatternJoin, PatternUnion, PatternRepeat, Copy, Const, Key, LensJoin, LensUnion, LensRepeat, Match}
use Rattle.table.specs.Rules.{NodeRead}
use Rattle.automaton.specs.declared.Side.TheVariants.{Source, Sheet}
use Rattle.builder.specs.Program.{rows_taken}
use Rattle.builder.proofs.Turns.{few_both, node_takes}
use Rattle.builder.proofs.program.rows_of.Goals as goal

-- kinds that take their rows alike
module _ (bytes : Text) (k : ℕ) (r : Node) (read : NodeRead bytes k r) where
  one : ((x : ℕ) × (y : ℕ) × (r.kind ≡ Word x y)) ⊎ ((x : ℕ) × (y : ℕ) × (r.kind ≡ PatternJoin x y)) ⊎ ((x : ℕ) × (y : ℕ) × (r.kind ≡ PatternUnion x y)) ⊎ ((x : ℕ) × (r.kind ≡ PatternRepeat x)) → r.source ≡ rows_taken bytes k Source + rows_taken bytes k Sheet
  one (inl (x, y, e)) = node_takes bytes k _ read e
  one (inr (inl (x, y, e))) = node_takes bytes k _ read e
  one (inr (inr (inl (x, y, e)))) = node_takes bytes k _ read e
  one (inr (inr (inr (x, e)))) = node_takes bytes k _ read e

  nothing : ((x : ℕ) × (r.kind ≡ Copy x)) ⊎ ((x : ℕ) × (y : ℕ) × (z : ℕ) × (r.kind ≡ Const x y z)) ⊎ ((x : ℕ) × (r.kind ≡ Key x)) ⊎ ((x : ℕ) × (r.kind ≡ Match x)) → 0 ≡ rows_taken bytes k Source + rows_taken bytes k Sheet
  nothing (inl (x, e)) = node_takes bytes k _ read e
  nothing (inr (inl (x, y, z, e))) = node_takes bytes k _ read e
  nothing (inr (inr (inl (x, e)))) = node_takes bytes k _ read e
  nothing (inr (inr (inr (x, e)))) = node_takes bytes k _ read e

  two : ((x : ℕ) × (y : ℕ) × (r.kind ≡ LensJoin x y)) ⊎ ((x : ℕ) × (y : ℕ) × (r.kind ≡ LensUnion x y)) ⊎ ((x : ℕ) × (r.kind ≡ LensRepeat x)) → r.source + r.sheet ≡ rows_taken bytes k Source + rows_taken bytes k Sheet
  two (inl (x, y, e)) = node_takes bytes k _ read e
  two (inr (inl (x, y, e))) = node_takes bytes k _ read e
  two (inr (inr (x, e))) = node_takes bytes k _ read e

pub overflow_add-result : goal.overflow_add-result
overflow_add-result c = omega (arith, few_both c.requires.all_sized c.args.k c.requires.k_bound c.node-node.ensures)

pub returns-in-Word : goal.returns-in-Word
returns-in-Word c = one c.args.bytes.now c.args.k _ c.node-node.ensures c.in-Word.is

pub returns-in-OneOf : goal.returns-in-OneOf
returns-in-OneOf c = node_takes c.args.bytes.now c.args.k _ c.node-node.ensures c.in-OneOf.is

pub returns-in-Copy : goal.returns-in-Copy
returns-in-Copy c = nothing c.args.bytes.now c.args.k _ c.node-node.ensures c.in-Copy.is

pub returns-in-LensJoin : goal.returns-in-LensJoin
returns-in-LensJoin c = two c.args.bytes.now c.args.k _ c.node-node.ensures c.in-LensJoin.is
