-- `chosen::sheet_of_parts` meets its contract: what is written, with the sheets still to come, is all. Assumes nothing.
use mathlib.Core.Path.{◌≡◌}
use lib.ListN.{length}
use Rattle.chosen.proofs.Gathering.{Gathered}
use Rattle.chosen.proofs.sheet_of_parts.Given as goal

abbrev pub invariant-loop-number : goal.invariant-loop-number
invariant-loop-number l = Gathered l.bytes l.source l.choice l.out l.n l.number-index × (length l.out ≡ length l.initial.out)
