-- `builder::program::same_as` meets its contract. Assumes nothing.
use mathlib.Core.Path.{refl}
use Rattle.builder.proofs.program.same_as.Goals as goal

pub returns : goal.returns
returns c = record { made = rw c.automaton_of-automaton.ensures at c.alias.ensures; next_is = refl }
