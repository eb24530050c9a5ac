-- `decks::deck::move_deck` meets its contract. Assumes nothing.
use Rattle.decks.proofs.Dealing.{dealt_copied}
use Rattle.decks.proofs.deck.move_deck.Goals as goal

pub returns : goal.returns
returns c = λ bytes source trail b. record { moved = λ dealt. dealt_copied c.requires.1 c.requires.2 c.write_text.ensures dealt }
