-- `readings::reading::get_with` meets its contract. Assumes nothing.
use Rattle.std.proofs.Common.{refl}
use Rattle.semantics.specs.Calls.{get_call}
use Rattle.automaton.specs.Rows.{side_of}
use Rattle.lens.specs.Reading.{mode_side, reading}
use Rattle.readings.specs.Reading.{read_call}
use Rattle.readings.proofs.reading.get_with.Goals as goal

pub read_with-requires : goal.read_with-requires
unfolding mode_side side_of
read_with-requires c = record { ready = c.requires; side_value = refl; mode_value = refl }

pub returns : goal.returns
unfolding get_call read_call mode_side reading
returns c = c.read_with.ensures
