use Rattle.automaton.specs.Rows.{automaton_at}
use Rattle.automaton.proofs.automaton_of.Goals as goal

pub returns : goal.returns
unfolding automaton_at
returns c = rw (c.set_at.ensures, c.set_at-2.ensures, c.side_index-s.ensures.0)
