-- `builder::program::repeat_of` meets its contract. Assumes nothing.
use mathlib.Core.Path.{refl}
use Rattle.builder.proofs.program.repeat_of.Goals as goal

pub build_star-requires : goal.build_star-requires
build_star-requires c = rw c.automaton_of-part.ensures (record { space = c.requires.space; below = c.requires.part.below })

pub returns : goal.returns
returns c = record { made = rw c.automaton_of-part.ensures at c.build_star.ensures; next_is = rw c.automaton_of-part.ensures refl }
