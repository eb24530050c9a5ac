-- `search::queue::visit_layer` meets its contract. The loop's invariant: those before one of the entries before i are found. Assumes nothing.
use mathlib.Core.Path.{◌≡◌}
use native.Mathlib.Omega.{arith}
use Rattle.search.proofs.Queues.{queue_room, entry_below, layer_more}
use Rattle.search.proofs.queue.visit_layer.Goals as goal

pub offset_bounds-order-i : goal.offset_bounds-order-i
offset_bounds-order-i c = omega (arith, queue_room c.loop-i.invariant.queue, c.loop-i.invariant.more)

pub bounds-order-i : goal.bounds-order-i
bounds-order-i c = omega (arith, queue_room c.loop-i.invariant.queue, c.loop-i.invariant.more)

pub visit-n-requires-clause-pair_bound : goal.visit-n-requires-clause-pair_bound
visit-n-requires-clause-pair_bound c =
    let loop = c.loop-i in
    entry_below loop.invariant.queue loop.i (omega (arith, loop.invariant.more))

pub loop-i-preserved : goal.loop-i-preserved
loop-i-preserved c =
    let loop = c.loop-i in
    let same = loop.invariant.kept loop.i c.loop-i-test.true in
    layer_more c.args.search.quest.now c.args.search.leads.now loop.auto.i loop.invariant (rw same at c.visit-n.ensures)

pub returns : goal.returns
returns c =
    let all : c.loop-i.i ≡ c.args.to = omega arith in
    rw all at c.loop-i.invariant
