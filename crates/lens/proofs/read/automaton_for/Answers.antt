-- `lens::read::automaton_for` meets its contract. Assumes nothing.
use Rattle.lens.proofs.read.automaton_for.Goals as goal

pub returns : goal.returns
returns c = rw (← c.side.ensures) c.automaton_of.ensures
