-- `builder::rows::single` meets its contract. Assumes nothing.
use Rattle.builder.proofs.Steps.{single_some, single_none}
use Rattle.builder.proofs.rows.single.Goals as goal

pub returns-then-p-count : goal.returns-then-p-count
returns-then-p-count c = single_some c.args.p c.args.count _ _ c.if-p-count.true c.with.ensures c.empty.ensures

pub returns-else-p-count : goal.returns-else-p-count
returns-else-p-count c = single_none c.args.p c.args.count _ c.if-p-count.false c.empty-else-p-count.ensures
