-- `typing::round::cut_twice` meets its contract. Assumes nothing.
use Rattle.laws.specs.Decided.{two_cuts_iff}
use Rattle.typing.proofs.Faults.{same_answer, read_room, read_speaks}
use Rattle.typing.proofs.round.cut_twice.Goals as goal

pub two_cuts-requires : goal.two_cuts-requires
two_cuts-requires c = record { room = read_room c.automaton_of-a.ensures (c.requires.stands.room c.args.side); room_2 = read_room c.automaton_of-b.ensures (c.requires.stands_2.room c.args.side) }

pub returns : goal.returns
returns c r s p q = same_answer _ _ (c.two_cuts.ensures r s (read_speaks c.automaton_of-a.ensures p) (read_speaks c.automaton_of-b.ensures q)) (two_cuts_iff r s)
