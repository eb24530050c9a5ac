-- `sources::write_small` meets its contract: a small deck that has not every card leads to the large one. Assumes nothing.
use native.Mathlib.Omega.{arith}
use Rattle.lens.specs.Parsed.{parsed_length}
use Rattle.dealing.proofs.Rooms.{filled_length, none_left}
use Rattle.sources.proofs.write_small.Goals as goal

pub begin_deck-begun-requires : goal.begin_deck-begun-requires
begin_deck-begun-requires c =
    let old = c.requires.book_ready.old_ready in
    (old.short, parsed_length old.parsed, omega (arith, filled_length {n = 18432} c.filled-deck.ensures))

pub deal_short-dealt-requires : goal.deal_short-dealt-requires
deal_short-dealt-requires c =
    let known = c.requires in
    record { ready = known.ready; book_ready = known.book_ready; dealt_to = (c.begin_deck-begun.ensures.begun _ _, omega (arith, filled_length {n = 18432} c.filled-deck.ensures)) }

pub write_large-requires : goal.write_large-requires
write_large-requires c =
    let known = c.requires in
    record { ready = known.ready; text_ready = known.text_ready; book_ready = known.book_ready; dealt_to = (c.deal_short-dealt.ensures.dealt, omega (arith, filled_length {n = 18432} c.filled-deck.ensures)) }

pub write_from-requires : goal.write_from-requires
write_from-requires c =
    let known = c.requires in
    record { ready = known.ready; text_ready = known.text_ready; book_ready = known.book_ready; dealt = (none_left c.deal_short-dealt.ensures c.if-dealt-book.false, omega (arith, filled_length {n = 18432} c.filled-deck.ensures)) }
