use native.Mathlib.Omega.{arith}
use Rattle.answers.proofs.Giving.{root_inside}
use Rattle.answers.proofs.Verdicts.{accepted_sizes}
use Rattle.dealing.proofs.Rooms.{filled_length}
use Rattle.sources.proofs.write_source.Goals as goal

pub overflow_add-nodes : goal.overflow_add-nodes
overflow_add-nodes c = let right = accepted_sizes c.requires.ready.accepted in omega (arith, right, c.root_of-nodes.ensures)

pub fill_below-requires : goal.fill_below-requires
fill_below-requires c = record { all_sized = (c.requires.ready.built.sized, omega (arith, c.root_of-nodes.ensures, root_inside c.requires.ready c.root_of-nodes.ensures)); in_bounds = omega (arith, filled_length {n = 384} c.filled-below.ensures) }

pub write_small-requires : goal.write_small-requires
write_small-requires c = let known = c.requires in record { ready = (known.ready, c.fill_below.ensures); text_ready = known.text_ready; book_ready = known.book_ready }
