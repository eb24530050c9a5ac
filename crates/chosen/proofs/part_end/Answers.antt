-- `chosen::part_end` meets its contract: the search passes only places inside the part. Assumes nothing.
use native.Mathlib.Omega.{arith}
use Rattle.chosen.proofs.Parting.{end_begins, end_found, end_later, end_last}
use Rattle.chosen.proofs.part_end.Goals as goal

pub loop-end-init : goal.loop-end-init
loop-end-init c = end_begins

pub is_cut-requires : goal.is_cut-requires
is_cut-requires c = record { from_start = omega arith; within = omega arith }

pub returns-then-is_cut : goal.returns-then-is_cut
returns-then-is_cut c = end_found c.loop-end.invariant (omega arith) (omega arith) c.if-is_cut.true c.is_cut.ensures

pub loop-end-preserved : goal.loop-end-preserved
loop-end-preserved c = end_later c.loop-end.invariant c.if-is_cut.false c.is_cut.ensures

pub returns : goal.returns
returns c = end_last c.loop-end.invariant c.requires (omega arith)
