-- `builder::program::build_all` meets its contract. Assumes nothing.
use native.Mathlib.Omega.{arith}
use borrow.Author.Rules.{rules}
use mathlib.Core.Path.{refl, ◌∙◌}
use Rattle.laws.specs.RightSizes.{right_of}
use Rattle.builder.proofs.Turns.{built_begins, built_ends}
use Rattle.builder.proofs.program.build_all.Goals as goal

pub node_count-k-end-requires : goal.node_count-k-end-requires
node_count-k-end-requires c = let right = right_of c.args.bytes.now c.requires.all_sized.sized.sizes_right in omega arith

pub loop-k-init : goal.loop-k-init
loop-k-init c = (refl, built_begins c.requires.all_sized c.requires.bytes_in_bounds)

pub build_node-row-requires : goal.build_node-row-requires
build_node-row-requires c = record { inside = omega arith; up_to = c.loop-k.invariant.1 }

pub loop-k-preserved : goal.loop-k-preserved
loop-k-preserved c = ((search rules) ∙ c.loop-k.invariant.0, c.build_node-row.ensures)

pub shape_of-prepared : goal.shape_of-prepared
shape_of-prepared c = c.loop-k.invariant.0

pub returns : goal.returns
returns c = built_ends (omega arith) c.loop-k.invariant.1
