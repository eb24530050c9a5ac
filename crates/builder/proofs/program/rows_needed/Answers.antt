-- `builder::program::rows_needed` meets its contract. Assumes nothing.
use native.Mathlib.Omega.{arith}
use mathlib.Core.Path.{◌≡◌, refl, ap, ◌∙◌}
use Prim.Native.Nat.{◌+◌}
use Rattle.semantics.specs.Table.{node_count}
use Rattle.laws.specs.RightSizes.{right_of}
use Rattle.builder.specs.Program.{rows_below, rows_needed}
use Rattle.builder.proofs.Turns.{rows_limit, rows_one_more}
use Rattle.builder.proofs.program.rows_needed.Goals as goal

pub node_count-k-end-requires : goal.node_count-k-end-requires
node_count-k-end-requires c = let right = right_of c.args.bytes.now c.requires.sized.sizes_right in omega arith

pub loop-k-init : goal.loop-k-init
unfolding rows_below
loop-k-init c = refl

pub rows_of-rows-requires : goal.rows_of-rows-requires
rows_of-rows-requires c = record { all_sized = c.requires; k_bound = omega arith }

pub overflow_add-rows : goal.overflow_add-rows
overflow_add-rows c = omega (arith, rows_one_more c.args.bytes.now c.loop-k.k, rows_limit c.requires (c.loop-k.k + 1) (omega arith))

pub loop-k-preserved : goal.loop-k-preserved
loop-k-preserved c = omega (arith, rows_one_more c.args.bytes.now c.loop-k.k)

pub returns : goal.returns
unfolding rows_needed
returns c = let all : c.loop-k.k ≡ node_count c.args.bytes.now = omega arith in (c.loop-k.invariant ∙ ap (rows_below c.args.bytes.now) all, omega (arith, rows_limit c.requires c.loop-k.k (omega arith)))
