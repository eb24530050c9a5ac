-- `dealing::deal_at` meets its contract: where a sheet has too little room for its path, the rest is dealt with room for any. Assumes nothing.
use Rattle.dealing.proofs.Rooms.{dealt_all}
use Rattle.dealing.proofs.deal_at.Goals as goal

pub deal_short-more-requires : goal.deal_short-more-requires
deal_short-more-requires c = let p = c.requires in record { ready = p.ready; book_ready = p.book_ready; dealt_to = p.dealt_to }

pub returns-then-more-book : goal.returns-then-more-book
returns-then-more-book c = dealt_all c.deal_short-more.ensures c.if-more-book.true
