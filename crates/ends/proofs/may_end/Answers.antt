-- `ends::may_end` meets its contract. Assumes nothing.
use Rattle.ends.specs.Places.{flagged}
use Rattle.ends.proofs.may_end.Goals as goal

pub returns-then-place : goal.returns-then-place
unfolding flagged
returns-then-place c = rw c.if-place.true
