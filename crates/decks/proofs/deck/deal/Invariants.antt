-- `decks::deck::deal` meets its contract. The loop's invariant: the deck has the old source, its path, and the cards of the entries before i, in front of `at`. Assumes nothing.
use mathlib.Core.Path.{◌≡◌}
use lib.ListN.{length}
use Rattle.decks.specs.Dealing.{DealtTo}
use Rattle.decks.proofs.Dealing.{SameRoom}
use Rattle.decks.proofs.deck.deal.Given as goal

abbrev pub invariant-loop-i : goal.invariant-loop-i
invariant-loop-i l = SameRoom l.initial.marks l.initial.path l.initial.card l.marks l.path l.card × (length l.deck ≡ length l.initial.deck) × DealtTo l.bytes l.source l.trail l.book l.deck (record { entries = l.i; at = l.at })
