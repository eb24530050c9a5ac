use Rattle.texts.proofs.Copying.{key_fits, key_longer, key_spaces, key_full}
use Rattle.texts.proofs.write_key.Goals as goal

pub slice_bounds-all_spaces-count : goal.slice_bounds-all_spaces-count
slice_bounds-all_spaces-count c = key_longer c.write_text.ensures c.in-None.is

pub slice_bounds-all_spaces-start : goal.slice_bounds-all_spaces-start
slice_bounds-all_spaces-start c = key_longer c.write_text.ensures c.in-None.is

pub returns-then-all_spaces : goal.returns-then-all_spaces
returns-then-all_spaces c = key_spaces c.write_text.ensures c.in-None.is c.all_spaces.ensures c.if-all_spaces.true

pub returns-in-Some : goal.returns-in-Some
returns-in-Some c = key_fits c.write_text.ensures c.in-Some.is

pub returns-else-all_spaces : goal.returns-else-all_spaces
returns-else-all_spaces c = key_full c.write_text.ensures c.in-None.is c.all_spaces.ensures c.if-all_spaces.false
