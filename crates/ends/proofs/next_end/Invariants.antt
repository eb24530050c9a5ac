-- `ends::next_end` meets its contract. The loop's invariant: the bytes in front of the place were read, and the first half may end at none of the places
-- that were passed. Assumes nothing.
use Prim.Native.Nat.{◌-◌}
use lib.ListN.{length}
use Rattle.ends.specs.Places.{ReadTo}
use Rattle.ends.proofs.Forward.{Passed}
use Rattle.ends.proofs.next_end.Given as goal

abbrev pub invariant-loop-place : goal.invariant-loop-place
invariant-loop-place l = ReadTo l.prepared l.a l.text l.place × Passed l.prepared l.a l.text l.flags l.initial.place.at l.place.at

abbrev pub decreases-loop-place : goal.decreases-loop-place
decreases-loop-place l = length l.text - l.place.at
