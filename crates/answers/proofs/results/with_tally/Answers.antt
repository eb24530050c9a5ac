-- `answers::results::with_tally` meets its contract. Assumes nothing.
use native.Mathlib.Omega.{arith}
use Rattle.answers.specs.Replies.{with_tally}
use Rattle.answers.proofs.results.with_tally.Goals as goal

pub returns : goal.returns
unfolding with_tally
returns c = grind arith
