-- `lens::read::word_of` meets its contract: the sizes of a table that was read are right, so a word of its pool lies within it. Assumes nothing.
use native.Mathlib.Omega.{arith}
use Rattle.lens.specs.Nodes.{shown_word, word_not_read, word_inside, word_placed}
use Rattle.lens.proofs.read.word_of.Goals as goal

pub returns-in_default : goal.returns-in_default
returns-in_default c = word_not_read c.requires c.node-read.ensures c.in_default.not-Word

pub bounds-bytes-0 : goal.bounds-bytes-0
bounds-bytes-0 c = omega (arith, word_inside c.requires.sized (shown_word c.node-read.ensures c.in-Word.is))

pub overflow_add-from-2 : goal.overflow_add-from-2
overflow_add-from-2 c = omega (arith, word_inside c.requires.sized (shown_word c.node-read.ensures c.in-Word.is))

pub overflow_add-to : goal.overflow_add-to
overflow_add-to c = omega (arith, word_inside c.requires.sized (shown_word c.node-read.ensures c.in-Word.is))

pub slice_bounds-result-end : goal.slice_bounds-result-end
slice_bounds-result-end c = omega (arith, word_inside c.requires.sized (shown_word c.node-read.ensures c.in-Word.is))

pub returns : goal.returns
returns c = word_placed (shown_word c.node-read.ensures c.in-Word.is)
