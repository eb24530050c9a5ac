-- `builder::rows::put_row` meets its contract. Assumes nothing.
use native.Mathlib.Omega.{arith}
use mathlib.Core.Path.{refl}
use Rattle.builder.proofs.Steps.{row_put, put_by}
use Rattle.builder.proofs.rows.put_row.Goals as goal

pub returns : goal.returns
returns c = row_put c.args.row c.args.held c.args.follow (put_by _ _ _ c.copy_from_slice.ensures.after refl (omega arith))
