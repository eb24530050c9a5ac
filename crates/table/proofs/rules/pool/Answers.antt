-- `table::rules::pool` meets its contract: it stands behind the operand records.
use Rattle.semantics.specs.Table.{node_count, pool}
use Rattle.laws.specs.RightSizes.{right_of}
use lib.Seq.{take_all}
use lib.ListN.{drop, length-drop}
use Prim.Native.Nat.{◌+◌, ◌*◌}
use native.Mathlib.Omega.{arith}
use Rattle.table.proofs.rules.pool.Goals as goal

pub node_count-requires : goal.node_count-requires
node_count-requires c = let h = right_of c.args.bytes.now c.requires in omega arith

pub overflow_mul-result : goal.overflow_mul-result
overflow_mul-result c = let h = right_of c.args.bytes.now c.requires in omega arith

pub overflow_add-result : goal.overflow_add-result
overflow_add-result c = let h = right_of c.args.bytes.now c.requires in omega arith

pub slice_bounds-result-count : goal.slice_bounds-result-count
slice_bounds-result-count c = let h = right_of c.args.bytes.now c.requires in omega arith

pub slice_bounds-result-start : goal.slice_bounds-result-start
slice_bounds-result-start c = let h = right_of c.args.bytes.now c.requires in omega arith

pub returns : goal.returns
unfolding pool
returns c = rw c.node_count.ensures (let from = 3 + 4 * node_count c.args.bytes.now in take_all _ (drop from c.args.bytes.now) (omega (arith, length-drop from c.args.bytes.now)))
