-- `steps::refit` meets its contract: a sheet that belongs has a path. Assumes nothing.
use Rattle.paths.specs.Finding.{short_marks}
use Rattle.steps.proofs.Answers.{not_fitted, is_fitted}
use Rattle.steps.proofs.refit.Goals as goal

pub belongs-requires : goal.belongs-requires
belongs-requires c =
    rw c.automaton_of-a.ensures c.requires.prepared.room

pub returns-then-not-belongs : goal.returns-then-not-belongs
returns-then-not-belongs c =
    not_fitted c.automaton_of-a.ensures c.belongs.ensures (c.if-not-belongs.true)

pub find_path-requires : goal.find_path-requires
find_path-requires c = record { room = rw c.automaton_of-a.ensures c.requires.prepared.room; marks_room = short_marks c.requires.len_bound.0; path_len = c.requires.len_bound.1 }

pub returns : goal.returns
returns c =
    is_fitted c.automaton_of-a.ensures c.belongs.ensures (c.if-not-belongs.false) c.find_path.ensures
