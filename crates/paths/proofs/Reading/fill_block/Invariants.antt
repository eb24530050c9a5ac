-- `paths::Reading::fill_block` meets its contract. The loop's invariant: the set is the one behind the first i bytes, and those behind the bytes from i on are kept. Assumes
-- nothing.
use Prim.Native.Nat.{◌≤◌}
use Rattle.paths.specs.Finding.{BehindAt, Filled}
use Rattle.paths.proofs.Reading.fill_block.Given as goal

abbrev pub invariant-loop-i : goal.invariant-loop-i
invariant-loop-i l = (l.start ≤ l.i) × BehindAt l.self.prepared.now l.self.a l.self.text.now l.i l.set × Filled l.self.prepared.now l.self.a l.self.text.now l.start l.i l.end l.sets
