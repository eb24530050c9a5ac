-- `search::queue::take_patch` meets its contract. The loop's invariant: those are found whose row is not left. Assumes nothing.
use mathlib.Core.Path.{◌≡◌}
use Rattle.search.specs.Queue.{Found}
use Rattle.search.proofs.Queues.{IsWithin, PatchPast}
use Rattle.search.proofs.queue.take_patch.Given as goal

abbrev pub invariant-loop-p : goal.invariant-loop-p
invariant-loop-p l =
    IsWithin l.p-iterator.left l.patch.rows × (l.p-iterator.end ≡ 128)
    × Found (PatchPast l.patch l.p-iterator.left) l.initial.order l.initial.fresh l.count l.order l.fresh l.n
