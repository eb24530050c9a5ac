-- `clashes::nodes::show_join` meets its contract, by the automata of the node and of its halves. Assumes nothing.
use Rattle.clashes.proofs.nodes.show_join.Goals as goal

pub show_cut-requires : goal.show_cut-requires
show_cut-requires c = rw (c.automaton_of-part.ensures, c.automaton_of-whole.ensures, c.automaton_of-rest.ensures) record { room = (c.requires.stands.0.room _, c.requires.stands.2.room _, c.requires.stands.1.room _); cut_asked = c.requires.cut_asked }

pub returns : goal.returns
returns c = λ rule n about. c.show_cut.ensures rule n (rw (c.automaton_of-part.ensures, c.automaton_of-whole.ensures, c.automaton_of-rest.ensures) about)
