-- `afm::import/import_pairs` meets its contract. Assumes nothing.
use native.Mathlib.Omega.{arith}
use mathlib.Core.Path.{ap}
use Rattle.std.specs.Prelude.{Err}
use Rattle.fields.specs.declared.Form.TheVariants.{Kpx}
use Rattle.afm.specs.Pairs.{lines_for}
use Rattle.afm.proofs.Answering.{import_bad, import_count, import_good, sheet_long, output_over, output_put}
use Rattle.afm.proofs.import.import_pairs.Goals as goal

pub returns-in-Some : goal.returns-in-Some
returns-in-Some c = import_bad c.args.count c.measure-found.ensures c.end_fault.ensures c.in-Some.is (ap Err c.refuse_line.ensures)

pub returns-then-count-found : goal.returns-then-count-found
returns-then-count-found c =
    import_count c.args.count c.measure-found.ensures c.end_fault.ensures c.in_default.is c.if-count-found.true (ap Err c.refuse.ensures)

pub returns-then-min-found : goal.returns-then-min-found
returns-then-min-found c =
    import_good c.args.count c.measure-found.ensures c.end_fault.ensures c.in_default.is c.if-count-found.false (output_over (lines_for Kpx c.args.lines.now) c.measure-found.result.bytes (sheet_long c.measure-found.ensures) (omega (arith, c.min.ensures, c.if-min-found.true)) (ap Err c.refuse-then-min-found.ensures))

pub put_lines-requires : goal.put_lines-requires
put_lines-requires c = omega (arith, sheet_long c.measure-found.ensures, c.min.ensures, c.if-min-found.false)

pub returns : goal.returns
returns c =
    import_good c.args.count c.measure-found.ensures c.end_fault.ensures c.in_default.is c.if-count-found.false (output_put c.measure-found.result.bytes (sheet_long c.measure-found.ensures) (omega (arith, c.min.ensures, c.if-min-found.false)) c.put_lines.ensures)
