-- `afm::export/put_section` meets its contract: part by part, one behind the other. Assumes nothing.
use native.Mathlib.Omega.{arith}
use Rattle.lines.proofs.Texts.{puts_then, puts_as}
use Rattle.afm.proofs.Putting.{puts_length}
use Rattle.afm.proofs.Answering.{section_parts, section_parts_length}
use Rattle.afm.proofs.export.put_section.Goals as goal

pub put_text-number-requires : goal.put_text-number-requires
put_text-number-requires c = omega (arith, section_parts_length c.args.count c.args.sheet.now, c.requires)

pub put_number-end-requires : goal.put_number-end-requires
put_number-end-requires c = omega (arith, c.put_text-number.ensures.next_is, puts_length c.put_text-number.ensures, section_parts_length c.args.count c.args.sheet.now, c.requires)

pub put_text-next-requires : goal.put_text-next-requires
put_text-next-requires c = omega (arith, c.put_text-number.ensures.next_is, puts_length c.put_text-number.ensures, c.put_number-end.ensures.next_is, puts_length c.put_number-end.ensures, section_parts_length c.args.count c.args.sheet.now, c.requires)

pub put_lines-last-requires : goal.put_lines-last-requires
put_lines-last-requires c = omega (arith, c.put_text-number.ensures.next_is, puts_length c.put_text-number.ensures, c.put_number-end.ensures.next_is, puts_length c.put_number-end.ensures, c.put_text-next.ensures.next_is, puts_length c.put_text-next.ensures, section_parts_length c.args.count c.args.sheet.now, c.requires)

pub put_text-requires : goal.put_text-requires
put_text-requires c = omega (arith, c.put_text-number.ensures.next_is, puts_length c.put_text-number.ensures, c.put_number-end.ensures.next_is, puts_length c.put_number-end.ensures, c.put_text-next.ensures.next_is, puts_length c.put_text-next.ensures, c.put_lines-last.ensures.next_is, puts_length c.put_lines-last.ensures, section_parts_length c.args.count c.args.sheet.now, c.requires)

pub returns : goal.returns
returns c = puts_as (section_parts c.args.count c.args.sheet.now) (puts_then (puts_then (puts_then (puts_then c.put_text-number.ensures c.put_number-end.ensures) c.put_text-next.ensures) c.put_lines-last.ensures) c.put_text.ensures)
