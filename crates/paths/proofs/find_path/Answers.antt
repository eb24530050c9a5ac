-- `paths::find_path` meets its contract. Assumes nothing.
use mathlib.Core.Path.{◌∙◌}
use Rattle.paths.proofs.Ending.{walked_all}
use borrow.Author.Rules.{rules}
use Rattle.paths.proofs.find_path.Goals as goal

pub returns-then-walk-text : goal.returns-then-walk-text
returns-then-walk-text c = walked_all c.walk_first-walk.ensures c.if-walk-text.true ((search rules) ∙ c.requires.path_len)

pub choose_way-requires : goal.choose_way-requires
choose_way-requires c = record { room = c.requires.room; marks_room = c.requires.marks_room; path_len = (search rules) ∙ c.requires.path_len; walked = c.walk_first-walk.ensures }
