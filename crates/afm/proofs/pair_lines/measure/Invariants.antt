-- `afm::pair_lines::measure` meets its contract: each line that is passed is counted. Assumes nothing.
use lib.ListN.{length}
use Rattle.afm.proofs.Measuring.{Measuring}
use Rattle.afm.proofs.pair_lines.measure.Given as goal

abbrev pub invariant-loop-line : goal.invariant-loop-line
invariant-loop-line l = Measuring l.form l.text l.rest l.count l.bytes

abbrev pub decreases-loop-line : goal.decreases-loop-line
decreases-loop-line l = length l.rest
