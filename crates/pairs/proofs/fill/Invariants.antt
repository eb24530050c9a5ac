-- `pairs::fill` meets its contract. The loop's invariant: the pairs that have been led on are settled, and the next row is due, or none is. Assumes nothing.
use mathlib.Core.Path.{◌≡◌}
use Prim.Native.Nat.{◌-◌, ◌*◌, ◌^◌}
use lib.ListN.{length}
use Rattle.pairs.specs.Pairs.{total, Led, Settled, NextDue}
use Rattle.pairs.proofs.fill.Given as goal

abbrev pub invariant-loop-next : goal.invariant-loop-next
invariant-loop-next l = (length l.led ≡ 256) × (length l.cells ≡ 256) × Led l.prepared l.a l.b l.initial.cells l.cells × Settled l.prepared l.a l.b l.due l.led l.cells × NextDue l.due l.next

abbrev pub decreases-loop-next : goal.decreases-loop-next
decreases-loop-next l = 256 * 2 ^ 64 - total l.led
