-- `paths::Reading::choose` meets its contract. Assumes nothing.
use native.Mathlib.Omega.{arith}
use Rattle.paths.proofs.Reading.choose.Goals as goal

pub walk_blocks-requires : goal.walk_blocks-requires
walk_blocks-requires c = record { in_bounds = (omega (arith, c.requires.in_bounds.0), omega (arith, c.requires.in_bounds.1), c.requires.in_bounds.2); path_len = c.requires.path_len; walked = c.requires.walked; marked = c.mark_blocks.ensures }
