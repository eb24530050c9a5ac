-- `automaton::class_at` meets its contract: two sets make a class. Assumes nothing.
use Rattle.automaton.proofs.class_at.Goals as goal

pub returns : goal.returns
returns c = rw (c.set_at.ensures, c.set_at-2.ensures)
