-- `table::parts::operand` meets its contract: the operand records stand behind the kind bytes.
use Rattle.semantics.specs.Table.{at}
use Rattle.laws.specs.RightSizes.{right_of}
use native.Mathlib.Omega.{arith}
use Rattle.table.proofs.parts.operand.Goals as goal

pub node_count-requires : goal.node_count-requires
node_count-requires c = let h = right_of c.args.bytes.now c.requires.within.sizes_right in omega (arith, c.requires.within.inside)

pub overflow_add-result : goal.overflow_add-result
overflow_add-result c =
    let h = right_of c.args.bytes.now c.requires.within.sizes_right in omega (arith, c.requires.within.inside)

pub overflow_mul-result : goal.overflow_mul-result
overflow_mul-result c =
    let h = right_of c.args.bytes.now c.requires.within.sizes_right in omega (arith, c.requires.within.inside)

pub overflow_add-result-2 : goal.overflow_add-result-2
overflow_add-result-2 c =
    let h = right_of c.args.bytes.now c.requires.within.sizes_right in omega (arith, c.requires.within.inside)

pub overflow_add-result-3 : goal.overflow_add-result-3
overflow_add-result-3 c =
    let h = right_of c.args.bytes.now c.requires.within.sizes_right in omega (arith, c.requires.within.inside)

pub bounds-bytes-node_count : goal.bounds-bytes-node_count
bounds-bytes-node_count c =
    let h = right_of c.args.bytes.now c.requires.within.sizes_right in omega (arith, c.requires.within.inside)

pub returns : goal.returns
unfolding at
returns c = rw c.node_count.ensures
