use Rattle.matches.proofs.Ready.{may_take, entry_found}
use Rattle.matches.proofs.find_entry.Goals as goal

pub card_of-made-requires : goal.card_of-made-requires
card_of-made-requires c = record { lens_node = c.requires.lens_node; parsed = c.requires.new_given.parsed; text_len_bound = (c.requires.new_given.new_short, c.requires.looks_in.1) }

pub take-requires : goal.take-requires
take-requires c = let p = may_take c.requires.lens_node c.requires.looks_in.0 in record { book_over = p.0; in_bounds = p.1 }

pub returns : goal.returns
returns c = entry_found c.requires.new_given.new_short c.requires.looks_in.0 c.card_of-made.ensures c.take.ensures
