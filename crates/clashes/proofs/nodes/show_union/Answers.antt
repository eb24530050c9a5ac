-- `clashes::nodes::show_union` meets its contract, by the automata of the arms. Assumes nothing.
use Rattle.clashes.proofs.nodes.show_union.Goals as goal

pub show_overlap-requires : goal.show_overlap-requires
show_overlap-requires c = rw (c.automaton_of-a.ensures, c.automaton_of-b.ensures) record { room = (c.requires.stands.0.room _, c.requires.stands.1.room _); arm_asked = c.requires.arm_asked }

pub returns : goal.returns
returns c = λ r s about. c.show_overlap.ensures r s (rw (c.automaton_of-a.ensures, c.automaton_of-b.ensures) about)
