-- `decks::deck::begin_deck` meets its contract. Assumes nothing.
use Rattle.decks.proofs.Dealing.{dealt_none}
use Rattle.decks.proofs.deck.begin_deck.Goals as goal

pub returns : goal.returns
returns c = record { begun = λ bytes b. dealt_none c.write_text.ensures c.write_text-2.ensures c.requires.0 c.requires.1 c.requires.2 }
