-- `decks::deck::put_head` meets its contract. Assumes nothing.
use native.Mathlib.Omega.{arith}
use lib.ListN.{length-set}
use Rattle.decks.proofs.deck.put_head.Goals as goal

pub bounds-deck-j : goal.bounds-deck-j
bounds-deck-j c = simp length-set (omega arith)

pub bounds-deck-j-2 : goal.bounds-deck-j-2
bounds-deck-j-2 c = simp length-set (omega arith)

pub bounds-deck-j-3 : goal.bounds-deck-j-3
bounds-deck-j-3 c = simp length-set (omega arith)
