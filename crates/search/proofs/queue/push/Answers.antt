-- `search::queue::push` meets its contract. The order has room, since a pair is still fresh. Assumes nothing.
use mathlib.Core.Path.{refl}
use native.Mathlib.Omega.{arith}
use Prim.Native.Nat.{◌+◌, ◌*◌}
use Rattle.search.proofs.Queues.{push_room, found_one}
use Rattle.search.proofs.queue.push.Goals as goal

pub offset_bounds-order-count : goal.offset_bounds-order-count
offset_bounds-order-count c =
    omega (arith, push_room c.requires.queue (128 * c.args.row + c.args.column) c.requires.row_bound.2)

pub bounds-order-count : goal.bounds-order-count
bounds-order-count c =
    push_room c.requires.queue (128 * c.args.row + c.args.column) c.requires.row_bound.2

pub returns : goal.returns
returns c =
    let removed = rw c.set_at-left.ensures at c.without.ensures in
    found_one refl c.requires.row_bound.1 removed c.keep.ensures c.requires.queue c.requires.row_bound.2
