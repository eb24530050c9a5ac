-- `cards::card_of` meets its contract. Assumes nothing.
use Rattle.lens.specs.Reading.{mode_side}
use Rattle.cards.proofs.Sealing.{card_long, emits_behind, card_made}
use borrow.Author.Rules.{rules}
use Rattle.cards.proofs.card_of.Goals as goal

pub emit-wrote-requires : goal.emit-wrote-requires
unfolding mode_side
emit-wrote-requires c = record { lens_node = c.requires.lens_node; parsed = c.requires.parsed }

pub seal-requires : goal.seal-requires
seal-requires c = record { card_len = card_long c.args.card.now c.emit-wrote.new.out c.requires.text_len_bound.1 (search rules); key_behind = emits_behind c.args.card.now c.requires.lens_node c.requires.text_len_bound.1 (search rules) c.emit-wrote.ensures }

pub returns : goal.returns
returns c = card_made c.args.card.now c.requires.lens_node c.requires.text_len_bound.1 (search rules) c.emit-wrote.ensures c.requires.text_len_bound.0 (search rules) c.seal.ensures
