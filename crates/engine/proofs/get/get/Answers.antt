-- `engine::get::get` meets its contract. Assumes nothing.
use Rattle.engine.specs.Rooms.{Owed}
use Rattle.engine.proofs.get.get.Goals as goal

pub returns : goal.returns
unfolding Owed
returns c = c.answer_in.ensures.owed
