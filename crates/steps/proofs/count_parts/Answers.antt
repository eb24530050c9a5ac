-- `steps::count_parts` meets its contract. The loop's invariant: the parts in front of o are counted. Assumes nothing.
use native.Mathlib.Omega.{arith}
use Rattle.steps.proofs.Counting.{counted_none, count_inside, count_moves, left_long, counted_more, counted_all}
use Rattle.steps.proofs.count_parts.Goals as goal

pub loop-o-init : goal.loop-o-init
loop-o-init c = counted_none

pub slice_bounds-first_loop-count : goal.slice_bounds-first_loop-count
slice_bounds-first_loop-count c = omega (arith, c.loop-o-test.true)

pub slice_bounds-first_loop-start : goal.slice_bounds-first_loop-start
slice_bounds-first_loop-start c = omega (arith, c.loop-o-test.true)

pub first_loop-o-requires : goal.first_loop-o-requires
first_loop-o-requires c = omega (arith, c.loop-o-test.true, left_long c.args.path.now c.loop-o.o)

pub overflow_add-o : goal.overflow_add-o
overflow_add-o c = omega (arith, count_inside c.loop-o.invariant c.loop-o-test.true c.first_loop-o.ensures)

pub overflow_add-n : goal.overflow_add-n
overflow_add-n c = omega (arith, c.loop-o.invariant.few, c.loop-o-test.true)

pub loop-o-smaller : goal.loop-o-smaller
loop-o-smaller c = omega (arith, c.loop-o-test.true, count_inside c.loop-o.invariant c.loop-o-test.true c.first_loop-o.ensures, count_moves c.loop-o.invariant c.loop-o-test.true c.first_loop-o.ensures)

pub loop-o-preserved : goal.loop-o-preserved
loop-o-preserved c = counted_more c.loop-o.invariant c.loop-o-test.true c.first_loop-o.ensures

pub returns : goal.returns
returns c = counted_all c.loop-o.invariant (omega (arith, c.loop-o-test.false))
