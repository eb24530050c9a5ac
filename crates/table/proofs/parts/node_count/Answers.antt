-- `table::parts::node_count` meets its contract: the first byte.
use Rattle.semantics.specs.Table.{at, node_count}
use borrow.Author.Rules.{rules}
use Rattle.table.proofs.parts.node_count.Goals as goal

pub returns : goal.returns
unfolding node_count at
returns c = search rules
