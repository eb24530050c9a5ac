-- `clashes::shown_texts::with_ends` meets its contract: there is a flag for each place of the text. Assumes nothing.
use native.Mathlib.Omega.{arith}
use mathlib.Core.Path.{refl}
use Prim.Native.Nat.{ℕ}
use lib.ListN.{length-replicate}
use Rattle.clashes.proofs.shown_texts.with_ends.Goals as goal

pub ends_of-ends-requires : goal.ends_of-ends-requires
ends_of-ends-requires c = record { room = c.requires.0; room_2 = c.requires.1; text_in_bounds = rw (c.filled-flags.ensures, length-replicate {A = ℕ}) (omega (arith, c.requires.2)) }

pub returns : goal.returns
returns c = λ r s of_part of_rest twice. let (first_is, second_is) = c.ends_of-ends.ensures r s of_part of_rest twice in (refl, first_is, second_is)
