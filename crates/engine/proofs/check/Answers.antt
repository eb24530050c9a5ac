-- `engine::check` meets its contract. Assumes nothing.
use Rattle.engine.specs.Rooms.{Owed}
use Rattle.engine.proofs.check.Goals as goal

pub returns : goal.returns
unfolding Owed
returns c = c.answer_in.ensures.owed.answer_is
