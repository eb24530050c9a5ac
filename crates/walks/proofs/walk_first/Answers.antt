-- `walks::walk_first` meets its contract. Assumes nothing.
use native.Mathlib.Omega.{arith}
use Rattle.walks.proofs.Steps.{zeros_kept}
use Rattle.walks.proofs.walk_first.Goals as goal

pub walk_alone-requires : goal.walk_alone-requires
walk_alone-requires c = record { room = c.requires.room; path_len = c.requires.path_len; steps_kept = zeros_kept {n = 1} (omega arith) c.filled-none.ensures }
