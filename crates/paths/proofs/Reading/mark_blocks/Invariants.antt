-- `paths::Reading::mark_blocks` meets its contract. The loop's invariant: the set is the one behind the blocks below k, and those behind the blocks from k on are kept.
-- Assumes nothing.
use Prim.Native.Nat.{◌*◌, min}
use lib.ListN.{length}
use Rattle.paths.specs.Finding.{BehindAt, Marked}
use Rattle.paths.proofs.Reading.mark_blocks.Given as goal

abbrev pub invariant-loop-k : goal.invariant-loop-k
invariant-loop-k l = BehindAt l.self.prepared.now l.self.a l.self.text.now (min (256 * l.k) (length l.self.text.now)) l.behind × Marked l.self.prepared.now l.self.a l.self.text.now l.k l.marks
