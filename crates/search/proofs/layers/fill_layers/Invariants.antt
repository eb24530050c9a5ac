-- `layers::fill_layers` meets its contract. The loop's invariant: `from` and `to` bound the last layer, and the layers follow from the first one.
-- Assumes nothing.
use Prim.Native.Nat.{◌-◌}
use lib.ListN.{length}
use Rattle.search.proofs.Layering.{Turn}
use Rattle.search.proofs.layers.fill_layers.Given as goal

abbrev pub invariant-loop-from : goal.invariant-loop-from
invariant-loop-from l = Turn l.search.quest.now l.search.leads.now l.initial.order l.initial.fresh l.initial.starts l.order l.fresh l.starts l.from l.to l.depth

abbrev pub decreases-loop-from : goal.decreases-loop-from
decreases-loop-from l = length l.initial.order - l.from
