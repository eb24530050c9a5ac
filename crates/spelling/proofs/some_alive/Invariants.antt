-- `spelling::some_alive` meets its contract. The loop's invariant: no pair of the rows that are not left is alive. Assumes nothing.
use mathlib.Core.Path.{◌≡◌}
use Rattle.search.proofs.Queues.{IsWithin}
use Rattle.spelling.proofs.Writing.{NonePast}
use Rattle.spelling.proofs.some_alive.Given as goal

abbrev pub invariant-loop-p : goal.invariant-loop-p
invariant-loop-p l =
    IsWithin l.p-iterator.left l.patch.rows × (l.p-iterator.end ≡ 128) × NonePast l.alive l.table l.patch l.p-iterator.left
