-- `builder::program::build_all` meets its contract. The invariant: the sides of the nodes below k are built. Assumes nothing.
use mathlib.Core.Path.{◌≡◌}
use lib.ListN.{length}
use Rattle.automaton.specs.declared.Side.TheVariants.{Source}
use Rattle.builder.specs.Program.{BuiltUpTo}
use Rattle.builder.proofs.program.build_all.Given as goal

abbrev pub invariant-loop-k : goal.invariant-loop-k
invariant-loop-k l = (length l.prepared ≡ length l.initial.prepared) × BuiltUpTo l.bytes l.k Source l.row l.prepared
