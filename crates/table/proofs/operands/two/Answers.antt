-- `table::operands::two` meets its contract: two bytes, high byte first.
use Rattle.semantics.specs.Table.{two}
use borrow.Author.Rules.{rules}
use Rattle.table.proofs.operands.two.Goals as goal

pub returns : goal.returns
unfolding two
returns c = search rules
