-- `books::lookups::has_card` meets its contract. Assumes nothing.
use native.Mathlib.Omega.{arith}
use Rattle.books.proofs.Finding.{card_compared}
use Rattle.books.proofs.lookups.has_card.Goals as goal

pub returns-then-at-deck : goal.returns-then-at-deck
returns-then-at-deck c = card_compared c.args.deck.now c.args.card.now c.args.i c.card_place-at.ensures c.starts_with.ensures.value

pub returns-else-at-deck : goal.returns-else-at-deck
returns-else-at-deck c = record { has = λ h. absurd (omega (arith, h, c.card_place-at.ensures, c.if-at-deck.false)) }
