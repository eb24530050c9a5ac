-- `answers::results::root_path` meets its contract: the root's automaton is that of its language. Assumes nothing.
use Rattle.paths.specs.Finding.{short_marks}
use Rattle.answers.proofs.Giving.{root_words, root_room, path_of_root}
use Rattle.answers.proofs.results.root_path.Goals as goal

pub automaton_of-a-requires : goal.automaton_of-a-requires
automaton_of-a-requires c = root_words c.requires.ready c.root_of-root.ensures

pub find_path-requires : goal.find_path-requires
find_path-requires c = record { room = root_room c.requires.ready c.root_of-root.ensures c.args.side c.automaton_of-a.ensures; marks_room = short_marks c.requires.text_len_bound.0; path_len = c.requires.text_len_bound.1 }

pub returns : goal.returns
returns c = path_of_root c.requires.ready c.root_of-root.ensures c.automaton_of-a.ensures c.find_path.ensures
