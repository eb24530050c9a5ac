-- `chosen::is_cut` meets its contract. Assumes nothing.
use Rattle.chosen.proofs.Parting.{tells_second, tells_first}
use Rattle.chosen.proofs.is_cut.Goals as goal

pub returns-then-is_source : goal.returns-then-is_source
returns-then-is_source c = tells_second c.if-is_source.true c.is_source.ensures c.is_source-then-is_source.ensures

pub returns-else-is_source : goal.returns-else-is_source
returns-else-is_source c = rw c.if-is_source.false (tells_first c.if-is_source.false c.is_source.ensures)
