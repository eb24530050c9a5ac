-- `ends::two_ends` meets its contract. Assumes nothing.
use native.Mathlib.Omega.{arith}
use Rattle.ends.proofs.Forward.{read_begins, both_places}
use Rattle.ends.proofs.two_ends.Goals as goal

pub next_end-place-requires : goal.next_end-place-requires
next_end-place-requires c = record { room = c.requires.room; text_in_bounds = c.requires.text_in_bounds; read_to = read_begins c.requires.room }

pub returns-then-text-first : goal.returns-then-text-first
returns-then-text-first c = record { first_is = c.next_end-place.ensures.1; second_is = λ l. absurd (omega (arith, c.if-text-first.true)) }

pub returns : goal.returns
returns c = both_places c.next_end-place.ensures.1 c.pass-behind.ensures.0 c.next_end-other.ensures.1
