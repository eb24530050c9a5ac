-- `chosen::sheet_of_parts` meets its contract: what is written, with the sheets still to come, is all. Assumes nothing.
use mathlib.Core.Path.{refl}
use native.Mathlib.Omega.{arith}
use borrow.Author.Rules.{rules}
use lib.ListN.{length-take, length-drop}
use Rattle.chosen.proofs.Gathering.{gather_begins, gather_more, gather_ends}
use Rattle.chosen.proofs.sheet_of_parts.Goals as goal

pub loop-number-init : goal.loop-number-init
loop-number-init c = (gather_begins, refl)

pub slice_bounds-sheet_of_part-count : goal.slice_bounds-sheet_of_part-count
slice_bounds-sheet_of_part-count c = c.loop-number.invariant.0.within

pub overflow_add-n : goal.overflow_add-n
overflow_add-n c = omega (arith, simp (length-take, length-drop) at c.sheet_of_part-n.ensures.within)

pub loop-number-preserved : goal.loop-number-preserved
loop-number-preserved c = (gather_more c.loop-number.invariant.0 (omega arith) (search rules) c.sheet_of_part-n.ensures, search rules)

pub shape_of-out : goal.shape_of-out
shape_of-out c = c.loop-number.invariant.1

pub returns : goal.returns
returns c = gather_ends c.loop-number.invariant.0 (omega arith)
