-- `afm::pair_lines::put_line` meets its contract: part by part, one behind the other. Assumes nothing.
use native.Mathlib.Omega.{arith}
use Rattle.fields.specs.Lines.{pair_in}
use Rattle.lines.proofs.Texts.{puts_then, puts_as}
use Rattle.afm.proofs.Putting.{line_parts, mark_length, parts_length, puts_length}
use Rattle.afm.proofs.pair_lines.put_line.Goals as goal

pub put_lead-left-requires : goal.put_lead-left-requires
put_lead-left-requires c = omega (arith, parts_length c.args.form (pair_in c.args.line), c.requires)

pub put_text-between-requires : goal.put_text-between-requires
put_text-between-requires c =
    omega (arith, parts_length c.args.form (pair_in c.args.line), c.requires, c.put_lead-left.ensures.next_is, puts_length c.put_lead-left.ensures)

pub put_mark-right-requires : goal.put_mark-right-requires
put_mark-right-requires c =
    omega (arith, parts_length c.args.form (pair_in c.args.line), c.requires, c.put_lead-left.ensures.next_is, puts_length c.put_lead-left.ensures, c.put_text-between.ensures.next_is, puts_length c.put_text-between.ensures)

pub put_text-behind-requires : goal.put_text-behind-requires
put_text-behind-requires c =
    omega (arith, parts_length c.args.form (pair_in c.args.line), c.requires, mark_length c.args.form, c.put_lead-left.ensures.next_is, puts_length c.put_lead-left.ensures, c.put_text-between.ensures.next_is, puts_length c.put_text-between.ensures, c.put_mark-right.ensures.next_is, puts_length c.put_mark-right.ensures)

pub put_mark-value-requires : goal.put_mark-value-requires
put_mark-value-requires c =
    omega (arith, parts_length c.args.form (pair_in c.args.line), c.requires, mark_length c.args.form, c.put_lead-left.ensures.next_is, puts_length c.put_lead-left.ensures, c.put_text-between.ensures.next_is, puts_length c.put_text-between.ensures, c.put_mark-right.ensures.next_is, puts_length c.put_mark-right.ensures, c.put_text-behind.ensures.next_is, puts_length c.put_text-behind.ensures)

pub put_text-end-requires : goal.put_text-end-requires
put_text-end-requires c =
    omega (arith, parts_length c.args.form (pair_in c.args.line), c.requires, mark_length c.args.form, c.put_lead-left.ensures.next_is, puts_length c.put_lead-left.ensures, c.put_text-between.ensures.next_is, puts_length c.put_text-between.ensures, c.put_mark-right.ensures.next_is, puts_length c.put_mark-right.ensures, c.put_text-behind.ensures.next_is, puts_length c.put_text-behind.ensures, c.put_mark-value.ensures.next_is, puts_length c.put_mark-value.ensures)

pub put_text-requires : goal.put_text-requires
put_text-requires c =
    omega (arith, parts_length c.args.form (pair_in c.args.line), c.requires, mark_length c.args.form, c.put_lead-left.ensures.next_is, puts_length c.put_lead-left.ensures, c.put_text-between.ensures.next_is, puts_length c.put_text-between.ensures, c.put_mark-right.ensures.next_is, puts_length c.put_mark-right.ensures, c.put_text-behind.ensures.next_is, puts_length c.put_text-behind.ensures, c.put_mark-value.ensures.next_is, puts_length c.put_mark-value.ensures, c.put_text-end.ensures.next_is, puts_length c.put_text-end.ensures)

pub returns : goal.returns
returns c =
    puts_as (line_parts c.args.form (pair_in c.args.line)) (puts_then (puts_then (puts_then (puts_then (puts_then (puts_then c.put_lead-left.ensures c.put_text-between.ensures) c.put_mark-right.ensures) c.put_text-behind.ensures) c.put_mark-value.ensures) c.put_text-end.ensures) c.put_text.ensures)
