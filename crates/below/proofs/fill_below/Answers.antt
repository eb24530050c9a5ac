-- `below::fill_below` meets its contract. The loop's invariant: what stands at the nodes before k is stored. Assumes nothing.
use mathlib.Core.Path.{refl, ◌∙◌}
use native.Mathlib.Omega.{arith}
use Rattle.lens.specs.Nodes.{sizes_are}
use Rattle.below.proofs.Lower.{stored_none, stored_more, stored_all}
use borrow.Author.Rules.{rules}
use Rattle.below.proofs.fill_below.Goals as goal

pub loop-k-init : goal.loop-k-init
loop-k-init c = (refl, stored_none)

pub of_node-stands-requires : goal.of_node-stands-requires
of_node-stands-requires c = record { all_sized = (c.requires.all_sized.0, omega (arith, c.loop-k-test.true, c.requires.all_sized.1)); below_to = (c.loop-k.invariant.1, omega (arith, c.loop-k.invariant.0, c.requires.in_bounds)) }

pub store-requires : goal.store-requires
store-requires c = omega (arith, (sizes_are c.requires.all_sized.0).few_nodes, c.loop-k-test.true, c.requires.all_sized.1, c.requires.in_bounds, c.loop-k.invariant.0)

pub loop-k-preserved : goal.loop-k-preserved
loop-k-preserved c = ((search rules) ∙ c.loop-k.invariant.0, rw c.store.ensures (stored_more c.loop-k.below c.loop-k.k c.of_node-stands.result (omega (arith, (sizes_are c.requires.all_sized.0).few_nodes, c.loop-k-test.true, c.requires.all_sized.1, c.requires.in_bounds, c.loop-k.invariant.0)) c.loop-k.invariant.1 c.of_node-stands.ensures))

pub shape_of-below : goal.shape_of-below
shape_of-below c = c.loop-k.invariant.0

pub returns : goal.returns
returns c = stored_all c.requires.all_sized.0 c.loop-k.invariant.1 (omega (arith, c.loop-k-test.false, c.requires.all_sized.1)) (omega (arith, c.loop-k.invariant.0, c.requires.in_bounds))
