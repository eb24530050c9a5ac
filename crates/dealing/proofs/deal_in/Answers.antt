-- `dealing::deal_in` meets its contract. Assumes nothing.
use Rattle.lens.specs.Parsed.{parsed_length}
use Rattle.dealing.proofs.Rooms.{filled_length, paths_room}
use Rattle.dealing.proofs.deal_in.Goals as goal

pub deal-requires : goal.deal-requires
deal-requires g c =
    let known = c.requires in
    let book = known.book_ready in
    record {
      built = (known.ready.0.built, known.ready.1);
      book_over = (book.over, book.in_order);
      entries_parsed = book.entries_parsed;
      source_len_bound = (book.old_ready.short, parsed_length book.old_ready.parsed);
      path_room = (paths_room c.filled-marks.ensures c.filled-path.ensures known.rooms, filled_length c.filled-card.ensures);
      dealt_to = known.dealt_to;
    }

pub returns : goal.returns
returns g c = rw (filled_length c.filled-path.ensures) at c.deal.ensures
