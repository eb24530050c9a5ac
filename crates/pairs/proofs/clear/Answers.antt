-- `pairs::clear` meets its contract. Assumes nothing.
use Rattle.pairs.proofs.Cells.{blank_front}
use Rattle.pairs.proofs.clear.Goals as goal

pub returns : goal.returns
returns c = blank_front c.args.count c.fill.new.self c.args.cells.now c.requires.1 c.requires.0 (c.fill.ensures.after (λ y e. e))
