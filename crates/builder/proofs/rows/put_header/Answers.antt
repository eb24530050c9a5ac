-- `builder::rows::put_header` meets its contract. Assumes nothing.
use native.Mathlib.Omega.{arith}
use mathlib.Core.Path.{refl}
use Rattle.builder.proofs.Steps.{flagged, header_put, put_by}
use Rattle.builder.proofs.rows.put_header.Goals as goal

pub returns : goal.returns
returns c =
    let (is, small) = c.side_index.ensures in
    rw is
    (header_put c.args.node c.args.side c.args.start c.from.result c.args.nullable c.args.first c.args.last (rw c.from.ensures (flagged c.args.nullable))
    (put_by _ _ _ c.copy_from_slice.ensures.after refl (omega (arith, is, small))))
