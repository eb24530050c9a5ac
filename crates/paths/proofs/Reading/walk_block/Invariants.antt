-- `paths::Reading::walk_block` meets its contract. The loop's invariant: the path has come to i, within the block. Assumes nothing.
use mathlib.Core.Path.{◌≡◌}
use Prim.Native.Nat.{◌≤◌}
use Rattle.walks.specs.Walking.{Walked}
use Rattle.paths.proofs.Reading.walk_block.Given as goal

abbrev pub invariant-loop-i : goal.invariant-loop-i
invariant-loop-i l = (l.walk.at ≡ l.i) × (l.start ≤ l.i) × Walked l.self.prepared.now l.self.a l.self.text.now l.path l.walk
