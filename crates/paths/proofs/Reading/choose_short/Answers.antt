-- `paths::Reading::choose_short` meets its contract. Assumes nothing.
use native.Mathlib.Omega.{arith}
use Rattle.paths.proofs.Reading.choose_short.Goals as goal

pub choose-requires : goal.choose-requires
choose-requires c = record { in_bounds = (c.requires.in_bounds.0, rw c.filled-marks.ensures (omega (arith, c.requires.in_bounds.1)), omega (arith, c.requires.in_bounds.1)); path_len = c.requires.in_bounds.2; walked = c.requires.walked }
