-- `typing::questions::overlap` meets its contract. Assumes nothing.
use Rattle.typing.proofs.Walked.{overlap_law, start_within}
use Rattle.typing.proofs.questions.overlap.Goals as goal

pub stage-both-requires : goal.stage-both-requires
stage-both-requires c = record { room = (c.requires.room, c.requires.room_2); within = start_within c.begin.ensures }

pub returns : goal.returns
returns c = overlap_law c.begin.ensures c.stage-both.ensures c.some_final.ensures
