-- `search::queue::take_row` meets its contract. The loop's invariant: those are found whose column is not left. Assumes nothing.
use mathlib.Core.Path.{◌∙◌}
use Prim.Native.Nat.{◌*◌}
use native.Mathlib.Omega.{arith}
use borrow.Author.Rules.{rules}
use Rattle.std.proofs.Common.{tests}
use Rattle.positions.specs.Positions.{Met}
use Rattle.automaton.specs.Rows.{set_at}
use Rattle.search.proofs.Queues.{queue_room, row_more, row_all, within_after}
use Rattle.search.proofs.queue.take_row.Goals as goal

pub overflow_add-n : goal.overflow_add-n
overflow_add-n c = omega (arith, queue_room c.push.ensures.queue)

pub loop-column-preserved : goal.loop-column-preserved
loop-column-preserved c =
    let met : Met (set_at c.args.fresh.now (2 * c.args.row)) c.args.columns c.into_iter-column-iterator.result.left = λ q. search (rules, tests) in
    let taken = c.in-Some.ensures.steps in
    let inv = c.loop-column.invariant in
    (within_after taken _ inv.0, taken.same_end ∙ inv.1, row_more c.args.row c.args.columns _ met taken inv.0 inv.2 c.push.ensures)

pub returns : goal.returns
returns c =
    let met : Met (set_at c.args.fresh.now (2 * c.args.row)) c.args.columns c.into_iter-column-iterator.result.left = λ q. search (rules, tests) in
    let inv = c.loop-column.invariant in
    row_all c.args.row c.args.columns _ met c.in-None.ensures.steps (omega (arith, inv.1)) inv.2
