-- `builder::program::letters` meets its contract. Assumes nothing.
use native.Mathlib.Omega.{arith}
use Rattle.laws.specs.RightSizes.{right_of}
use Rattle.builder.proofs.Turns.{letters_part}
use Rattle.builder.proofs.program.letters.Goals as goal

pub node_count-requires : goal.node_count-requires
node_count-requires c = let right = right_of c.args.bytes.now c.requires.sizes_right in omega arith

pub overflow_mul-from : goal.overflow_mul-from
overflow_mul-from c = let right = right_of c.args.bytes.now c.requires.sizes_right in omega (arith, c.node_count.ensures, c.requires.inside)

pub overflow_add-from : goal.overflow_add-from
overflow_add-from c = let right = right_of c.args.bytes.now c.requires.sizes_right in omega (arith, c.node_count.ensures, c.requires.inside)

pub overflow_add-from-2 : goal.overflow_add-from-2
overflow_add-from-2 c = let right = right_of c.args.bytes.now c.requires.sizes_right in omega (arith, c.node_count.ensures, c.requires.inside)

pub slice_bounds-result-end : goal.slice_bounds-result-end
slice_bounds-result-end c = let right = right_of c.args.bytes.now c.requires.sizes_right in omega (arith, c.node_count.ensures, c.requires.inside)

pub returns : goal.returns
returns c = letters_part c.args.bytes.now _ c.args.start c.args.len c.node_count.ensures

pub overflow_add-result : goal.overflow_add-result
overflow_add-result c = let right = right_of c.args.bytes.now c.requires.sizes_right in omega (arith, c.node_count.ensures, c.requires.inside)
