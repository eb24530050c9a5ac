-- `engine::put::put` meets its contract. Assumes nothing.
use Rattle.answers.specs.Replies.{gives_source}
use Rattle.engine.specs.Rooms.{Owed}
use Rattle.engine.proofs.put.put.Goals as goal

pub returns : goal.returns
unfolding Owed
returns c = gives_source c.answer_in.ensures.owed c.with_tally.ensures
