-- `automaton::alike` meets its contract: the two numbers are compared. Assumes nothing.
use Rattle.automaton.specs.Rows.{alike_in}
use mathlib.Core.Path.{refl}
use Rattle.automaton.proofs.alike.Goals as goal

pub returns : goal.returns
unfolding alike_in
returns c = refl
