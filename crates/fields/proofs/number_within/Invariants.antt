-- `fields::number_within` meets its contract: the digits from a place on are still to come. Assumes nothing.
use Rattle.fields.proofs.Scanning.{Counts}
use Rattle.fields.proofs.number_within.Given as goal

abbrev pub invariant-loop-digit : goal.invariant-loop-digit
invariant-loop-digit l = Counts l.limit l.digits l.digit-index l.number
