-- `search::queue::visit` meets its contract. Assumes nothing.
use Rattle.search.proofs.Queues.{before_fits, linked_fits, visited}
use Rattle.search.proofs.queue.visit.Goals as goal

pub take_patch-n-requires-clause-patch_fits : goal.take_patch-n-requires-clause-patch_fits
take_patch-n-requires-clause-patch_fits c = rw c.before-2.ensures (before_fits _ _ _)

pub take_patch-requires-clause-patch_fits : goal.take_patch-requires-clause-patch_fits
take_patch-requires-clause-patch_fits c = rw c.linked.ensures (linked_fits _ _ _ _)

pub returns : goal.returns
returns c =
    let args = c.args in
    let own = rw c.before-2.ensures at c.take_patch-n.ensures in
    let early = rw c.linked.ensures at c.take_patch.ensures in
    visited args.search.quest.now args.search.leads.now args.pair own early
