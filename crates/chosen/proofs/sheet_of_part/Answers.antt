-- `chosen::sheet_of_part` meets its contract: get of a part alone is its sheet. Assumes nothing.
use borrow.Author.Rules.{rules}
use Rattle.chosen.proofs.Gathering.{sheet_given}
use Rattle.chosen.proofs.sheet_of_part.Goals as goal

pub returns : goal.returns
returns c = rw c.unwrap_or.ensures (sheet_given c.part_start-start.ensures c.part_end-end.ensures c.get.ensures (search rules))
