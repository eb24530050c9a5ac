-- `afm::export/export` meets its contract. Assumes nothing.
use native.Mathlib.Omega.{arith}
use mathlib.Core.Path.{ap}
use Rattle.std.specs.Prelude.{Err}
use Rattle.lines.proofs.Texts.{decimal_short}
use Rattle.afm.specs.Section.{section_text}
use Rattle.afm.proofs.Sections.{rest_some, rest_none}
use Rattle.afm.proofs.Answering.{export_long, export_bad, export_good, section_long, output_over, output_put}
use Rattle.afm.proofs.export.export.Goals as goal

pub returns-then-sheet-gt-TEXT : goal.returns-then-sheet-gt-TEXT
returns-then-sheet-gt-TEXT c = export_long c.args.sheet.now c.if-sheet-gt-TEXT.true (ap Err c.refuse.ensures)

pub returns-then-not-is_empty : goal.returns-then-not-is_empty
returns-then-not-is_empty c = export_bad c.measure-found.ensures c.if-sheet-gt-TEXT.false (omega (arith, rest_some _ _ c.is_empty.ensures c.if-not-is_empty.true)) (ap Err c.refuse_line.ensures)

pub overflow_add-length-3 : goal.overflow_add-length-3
overflow_add-length-3 c = omega (arith, c.measure-found.ensures.short, c.measure-found.ensures.few, c.if-sheet-gt-TEXT.false, c.digit_count.ensures, decimal_short c.measure-found.result.count)

pub returns-then-min-length : goal.returns-then-min-length
returns-then-min-length c = export_good c.measure-found.ensures c.if-sheet-gt-TEXT.false (rest_none _ _ c.is_empty.ensures c.if-not-is_empty.false) (output_over (section_text c.measure-found.result.count c.args.sheet.now) _ (section_long c.measure-found.ensures c.digit_count.result c.digit_count.ensures) (omega (arith, c.min.ensures, c.if-min-length.true)) (ap Err c.refuse-then-min-length.ensures))

pub put_section-requires : goal.put_section-requires
put_section-requires c = omega (arith, (section_long c.measure-found.ensures c.digit_count.result c.digit_count.ensures), c.min.ensures, c.if-min-length.false)

pub returns : goal.returns
returns c = export_good c.measure-found.ensures c.if-sheet-gt-TEXT.false (rest_none _ _ c.is_empty.ensures c.if-not-is_empty.false) (output_put _ (section_long c.measure-found.ensures c.digit_count.result c.digit_count.ensures) (omega (arith, c.min.ensures, c.if-min-length.false)) c.put_section.ensures)
