-- `paths::Reading::walk_blocks` meets its contract. The loop's invariant: the path has come as far as the walk says. Assumes nothing.
use mathlib.Core.Path.{◌≡◌}
use Prim.Native.Nat.{◌-◌, ◌/◌}
use lib.ListN.{length}
use Rattle.walks.specs.Walking.{Walked}
use Rattle.paths.specs.Finding.{Marked}
use Rattle.paths.proofs.Reading.walk_blocks.Given as goal

abbrev pub invariant-loop-walk : goal.invariant-loop-walk
invariant-loop-walk l = (length l.sets ≡ length l.initial.sets) × (length l.path ≡ length l.initial.path) × Walked l.self.prepared.now l.self.a l.self.text.now l.path l.walk × Marked l.self.prepared.now l.self.a l.self.text.now (l.walk.at / 256) l.marks

abbrev pub decreases-loop-walk : goal.decreases-loop-walk
decreases-loop-walk l = length l.self.text.now - l.walk.at
