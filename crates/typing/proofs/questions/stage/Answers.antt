-- `typing::questions::stage` meets its contract. Assumes nothing.
use Rattle.typing.proofs.Walked.{stage_law}
use Rattle.typing.proofs.questions.stage.Goals as goal

pub next-begun-requires : goal.next-begun-requires
next-begun-requires c = c.requires.room.0

pub returns : goal.returns
returns c = stage_law c.requires.within c.next-begun.ensures c.fill.ensures c.rows.ensures c.some_final.ensures
