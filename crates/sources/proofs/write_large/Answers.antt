use native.Mathlib.Omega.{arith}
use Rattle.dealing.proofs.Rooms.{filled_length, none_left, large_deals_all}
use Rattle.sources.proofs.write_large.Goals as goal

pub deal_at-all-requires : goal.deal_at-all-requires
deal_at-all-requires c = let known = c.requires in record { ready = known.ready; book_ready = known.book_ready; dealt_to = ((c.move_deck.ensures _ _ _ _).moved known.dealt_to.0, omega (arith, filled_length {n = 570752} c.filled-deck.ensures)) }

pub returns-then-all-book : goal.returns-then-all-book
returns-then-all-book c = large_deals_all c.deal_at-all.ensures (omega (arith, filled_length {n = 570752} c.filled-deck.ensures)) c.if-all-book.true

pub write_from-requires : goal.write_from-requires
write_from-requires c = let known = c.requires in record { ready = known.ready; text_ready = known.text_ready; book_ready = known.book_ready; dealt = (none_left c.deal_at-all.ensures c.if-all-book.false, omega (arith, filled_length {n = 570752} c.filled-deck.ensures)) }
