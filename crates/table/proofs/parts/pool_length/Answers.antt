-- `table::parts::pool_length` meets its contract: two bytes, high byte first.
use Rattle.semantics.specs.Table.{at, pool_length}
use borrow.Author.Rules.{rules}
use Rattle.table.proofs.parts.pool_length.Goals as goal

pub returns : goal.returns
unfolding pool_length at
returns c = search rules
