-- `table::sizes::kind_of` meets its contract: the kind of a node that keeps the rules.
use Rattle.table.proofs.Decoding.{decoded_node, shown, has_kind, tag_names}
use Rattle.laws.specs.RightSizes.{right_of}
use native.Mathlib.Omega.{arith}
use Rattle.table.proofs.sizes.kind_of.Goals as goal

pub node_count-n-requires : goal.node_count-n-requires
node_count-n-requires c = let h = right_of c.args.bytes.now c.requires.within.sizes_right in omega (arith, c.requires.within.inside)

pub overflow_add-n : goal.overflow_add-n
overflow_add-n c = let h = right_of c.args.bytes.now c.requires.within.sizes_right in omega (arith, c.requires.within.inside)

pub overflow_mul-k : goal.overflow_mul-k
overflow_mul-k c = let h = right_of c.args.bytes.now c.requires.within.sizes_right in omega (arith, c.requires.within.inside)

pub overflow_add-n-2 : goal.overflow_add-n-2
overflow_add-n-2 c = let h = right_of c.args.bytes.now c.requires.within.sizes_right in omega (arith, c.requires.within.inside)

pub overflow_mul-n : goal.overflow_mul-n
overflow_mul-n c = let h = right_of c.args.bytes.now c.requires.within.sizes_right in omega (arith, c.requires.within.inside)

pub overflow_add-n-3 : goal.overflow_add-n-3
overflow_add-n-3 c = let h = right_of c.args.bytes.now c.requires.within.sizes_right in omega (arith, c.requires.within.inside)

pub kind_from-requires : goal.kind_from-requires
kind_from-requires c = let h = right_of c.args.bytes.now c.requires.within.sizes_right in omega (arith, c.requires.within.inside)

pub unwrap-tag-requires : goal.unwrap-tag-requires
unwrap-tag-requires c = has_kind _ (decoded_node c.args.bytes.now c.args.k c.requires.within.sizes_right c.requires.within.inside c.requires.k_value) (rw c.kind_byte.ensures at c.of.ensures)

pub returns : goal.returns
returns c = shown (decoded_node c.args.bytes.now c.args.k c.requires.within.sizes_right c.requires.within.inside c.requires.k_value) (tag_names _ c.unwrap-tag.ensures (rw c.kind_byte.ensures at c.of.ensures)) c.read-operands.ensures c.node_count-n.ensures c.kind_from.ensures
