-- `builder::program::two_of` meets its contract. Assumes nothing.
use native.Mathlib.Omega.{arith}
use Rattle.builder.specs.Program.{pair_of}
use Rattle.builder.proofs.Turns.{pair_made}
use Rattle.builder.proofs.program.two_of.Goals as goal
use Rattle.builder.proofs.program.two_of.Goals.{in-Join, in-Union}

pub build_concat-requires : goal.build_concat-requires
build_concat-requires c = rw (c.automaton_of-left.ensures, c.automaton_of-right.ensures) (record { space = c.requires.space; below = c.requires.left.below; below_2 = c.requires.right.below })

pub build_alt-requires : goal.build_alt-requires
build_alt-requires c = rw (c.automaton_of-left.ensures, c.automaton_of-right.ensures) (record { space = c.requires.space; below = c.requires.left.below; below_2 = c.requires.right.below })

pub overflow_add-result : goal.overflow_add-result
overflow_add-result c = rw (c.automaton_of-left.ensures, c.automaton_of-right.ensures) (omega (arith, c.requires.space.few))

pub returns : goal.returns
unfolding pair_of
returns c =
    elim c.match-pair.branch [
      | in-Join w ↦ rw (w.in-Join.is, w.prepared-is) (pair_made c.automaton_of-left.ensures c.automaton_of-right.ensures w.build_concat.ensures)
      | in-Union w ↦ rw (w.in-Union.is, w.prepared-is) (pair_made c.automaton_of-left.ensures c.automaton_of-right.ensures w.build_alt.ensures)
    ]
