-- `paths::Reading::fill_block` meets its contract. The loop's invariant: the set is the one behind the first i bytes, and those behind the bytes from i on are kept. Assumes
-- nothing.
use native.Mathlib.Omega.{arith}
use Rattle.paths.proofs.Keeping.{behind_more, filled_none, filled_more, filled_all}
use Rattle.paths.proofs.Reading.fill_block.Goals as goal

pub loop-i-init : goal.loop-i-init
loop-i-init c = (omega arith, c.requires.behind_at, filled_none)

pub loop-i-preserved : goal.loop-i-preserved
loop-i-preserved c = (omega arith, behind_more (omega arith) (omega (arith, c.requires.start_le_end.1)) c.loop-i.invariant.1 c.step_back-set.ensures, filled_more (omega arith) (omega arith) c.loop-i.invariant.2 c.loop-i.invariant.1 c.keep.ensures)

pub returns : goal.returns
returns c = filled_all (omega (arith, c.loop-i.invariant.0)) c.loop-i.invariant.1 c.loop-i.invariant.2
