-- `chosen::part_start` meets its contract, one part after the other. Assumes nothing.
use native.Mathlib.Omega.{arith}
use Rattle.chosen.proofs.Parting.{start_begins, start_later, start_found}
use Rattle.chosen.proofs.part_start.Goals as goal

pub loop-part-init : goal.loop-part-init
loop-part-init c = start_begins

pub part_end-start-requires : goal.part_end-start-requires
part_end-start-requires c = c.loop-part.invariant.within

pub loop-part-preserved : goal.loop-part-preserved
loop-part-preserved c = start_later c.loop-part.invariant (omega arith) c.part_end-start.ensures

pub returns : goal.returns
returns c = start_found c.loop-part.invariant (omega arith)
