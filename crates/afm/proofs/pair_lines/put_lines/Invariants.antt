-- `afm::pair_lines::put_lines` meets its contract: what is put so far is the front of what is to be put. Assumes nothing.
use lib.ListN.{length}
use Rattle.afm.proofs.Putting.{Putting}
use Rattle.afm.proofs.pair_lines.put_lines.Given as goal

abbrev pub invariant-loop-line : goal.invariant-loop-line
invariant-loop-line l = Putting l.form l.text l.at l.initial.out l.rest l.next l.out

abbrev pub decreases-loop-line : goal.decreases-loop-line
decreases-loop-line l = length l.rest
