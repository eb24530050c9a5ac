-- `ends::retreat` meets its contract. Assumes nothing.
use Rattle.ends.proofs.Backward.{retreated}
use Rattle.ends.proofs.retreat.Goals as goal

pub returns : goal.returns
returns c = retreated c.requires.room c.standing-here.ensures c.meets.ensures c.step_back.ensures
