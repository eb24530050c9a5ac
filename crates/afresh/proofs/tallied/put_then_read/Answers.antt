-- `afresh::tallied::put_then_read` meets its contract, by the laws about the counts of a put. Assumes nothing.
use native.Mathlib.Omega.{arith}
use lib.ListN.{length-take}
use Rattle.demands.proofs.Following.{blank_is}
use Rattle.afresh.proofs.Counting.{source_held, read_made, counts_afresh}
use Rattle.afresh.proofs.tallied.put_then_read.Goals as goal

pub slice_bounds-linked_get_then_put-end : goal.slice_bounds-linked_get_then_put-end
slice_bounds-linked_get_then_put-end c =
    omega (arith, length-take c.noontrough_put-first.result.length c.noontrough_put-first.new.out, source_held _ _ _ _ _ c.noontrough_put-first.ensures)

pub slice_bounds-given-end : goal.slice_bounds-given-end
slice_bounds-given-end c = source_held _ _ _ _ _ c.noontrough_put-first.ensures

pub returns : goal.returns
returns c =
    let made = read_made c.args.table.now c.args.sheet.now c.args.source.now (blank_is c.filled-given.ensures) c.noontrough_put-first.ensures c.linked_get_then_put-afresh.ensures.made in record { made = made; demand = counts_afresh made c.linked_get_then_put-afresh.ensures.demand }
