-- `afm::import/import` meets its contract. Assumes nothing.
use mathlib.Core.Path.{ap}
use Rattle.std.specs.Prelude.{Err}
use Rattle.afm.proofs.Answering.{import_long, import_first, import_behind}
use Rattle.afm.proofs.import.import.Goals as goal

pub returns-then-section-gt-TEXT : goal.returns-then-section-gt-TEXT
returns-then-section-gt-TEXT c = import_long c.args.section.now c.if-section-gt-TEXT.true (ap Err c.refuse.ensures)

pub returns-in_default : goal.returns-in_default
returns-in_default c = import_first c.args.section.now c.if-section-gt-TEXT.false c.in_default.ensures (ap Err c.refuse_line.ensures)

pub returns : goal.returns
returns c = import_behind c.args.section.now c.if-section-gt-TEXT.false c.in-Some.ensures c.import_pairs.ensures
