-- `builder::build::join_rows` meets its contract. Assumes nothing.
use Rattle.builder.proofs.Parts.{rows_joined}
use Rattle.builder.proofs.build.join_rows.Goals as goal

pub returns : goal.returns
returns c =
    rows_joined c.args.row c.args.left c.args.right c.args.last c.moved-next.result c.empty-none.result _ _ _ c.requires.count_bound.0 c.requires.below.below c.requires.below_2.below
    c.moved-next.ensures c.empty-none.ensures c.copy_rows.ensures c.copy_rows-2.ensures
