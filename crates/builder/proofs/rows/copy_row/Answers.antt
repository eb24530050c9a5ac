-- `builder::rows::copy_row` meets its contract. Assumes nothing.
use Rattle.builder.proofs.Steps.{row_copied}
use Rattle.builder.proofs.rows.copy_row.Goals as goal

pub returns : goal.returns
returns c = record { row_copied = row_copied c.args.from c.args.to c.args.up _ _ c.args.more c.follow.result c.moved.result c.union-next.result c.requires.0 c.follow.ensures c.moved.ensures c.union-next.ensures c.put_row.ensures; kept = c.put_row.ensures.rest }
