-- `typing::questions::two_cuts` meets its contract. Assumes nothing.
use Rattle.typing.proofs.Walked.{cuts_law, start_within}
use Rattle.typing.proofs.questions.two_cuts.Goals as goal

pub stage-first-requires : goal.stage-first-requires
stage-first-requires c = record { room = (c.requires.room, c.requires.room); within = start_within c.begin.ensures }

pub stage-second-requires : goal.stage-second-requires
stage-second-requires c = record { room = (c.requires.room, c.requires.room_2); within = c.stage-first.ensures.inside }

pub stage-third-requires : goal.stage-third-requires
stage-third-requires c = record { room = (c.requires.room_2, c.requires.room_2); within = record { within = c.stage-second.ensures.inside.within } }

pub returns : goal.returns
returns c = cuts_law c.begin.ensures c.stage-first.ensures c.stage-second.ensures c.stage-third.ensures c.some_final.ensures
