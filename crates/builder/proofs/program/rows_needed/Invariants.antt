-- `builder::program::rows_needed` meets its contract. The invariant: the rows of the nodes below k are summed up. Assumes nothing.
use mathlib.Core.Path.{◌≡◌}
use Rattle.builder.specs.Program.{rows_below}
use Rattle.builder.proofs.program.rows_needed.Given as goal

abbrev pub invariant-loop-k : goal.invariant-loop-k
invariant-loop-k l = l.rows ≡ rows_below l.bytes l.k
