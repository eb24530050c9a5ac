-- `pairs::gain` meets its contract. Assumes nothing.
use Rattle.pairs.proofs.Cells.{gained}
use Rattle.pairs.proofs.gain.Goals as goal

pub returns : goal.returns
returns c = gained c.requires c.gain_word-low.ensures.0 c.gain_word-high.ensures.0 c.gain_word-low.ensures.1 c.gain_word-high.ensures.1
