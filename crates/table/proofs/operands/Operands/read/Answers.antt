-- `table::operands::Operands::read` meets its contract: the three bytes in a row.
use Rattle.semantics.specs.Table.{node_at}
use native.Mathlib.Nat.{add-zero}
use mathlib.Core.Path.{◌∙◌, ap}
use Rattle.semantics.specs.Table.{at}
use Rattle.table.proofs.operands.Operands.read.Goals as goal

pub returns : goal.returns
unfolding node_at
returns c = record { a_is = c.operand.ensures ∙ ap (at c.args.bytes.now) (add-zero _); b_is = c.operand-2.ensures; c_is = c.operand-3.ensures }
