-- `afm::pair_lines::measure` meets its contract: each line that is passed is counted. Assumes nothing.
use mathlib.Core.Path.{refl}
use native.Mathlib.Omega.{arith}
use Rattle.fields.specs.Lines.{reads_pair}
use Rattle.afm.proofs.Measuring.{measuring_start, line_short, later_shorter, measuring_more, measured}
use Rattle.afm.proofs.pair_lines.measure.Goals as goal

pub loop-line-init : goal.loop-line-init
loop-line-init c = measuring_start c.args.form c.args.text.now

pub sheet_length-bytes-requires : goal.sheet_length-bytes-requires
sheet_length-bytes-requires c = omega (arith, line_short c.loop-line.invariant (reads_pair c.in-Some.ensures), c.well_formed)

pub overflow_add-bytes : goal.overflow_add-bytes
overflow_add-bytes c = omega (arith, line_short c.loop-line.invariant (reads_pair c.in-Some.ensures), c.sheet_length-bytes.ensures, c.well_formed)

pub loop-line-smaller : goal.loop-line-smaller
loop-line-smaller c = later_shorter c.loop-line.invariant (reads_pair c.in-Some.ensures)

pub loop-line-preserved : goal.loop-line-preserved
loop-line-preserved c =
    measuring_more c.loop-line.invariant (reads_pair c.in-Some.ensures) c.sheet_length-bytes.result c.sheet_length-bytes.ensures

pub returns : goal.returns
returns c = measured c.loop-line.invariant _ refl refl refl c.in_default.ensures
