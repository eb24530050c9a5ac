-- `pairs::gain_word` meets its contract. Assumes nothing.
use mathlib.Core.Path.{refl}
use Rattle.pairs.proofs.Cells.{word_change}
use Rattle.pairs.proofs.gain_word.Goals as goal

pub returns : goal.returns
returns c = (refl, word_change c.args.cells.now c.args.i c.args.bits c.requires)
