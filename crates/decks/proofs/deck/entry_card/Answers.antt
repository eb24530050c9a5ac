-- `decks::deck::entry_card` meets its contract. Assumes nothing.
use mathlib.Core.Path.{sym, ◌∙◌}
use native.Mathlib.Omega.{arith}
use lib.ListN.{take, drop}
use lib.Seq.{length-take-le}
use Rattle.lens.specs.Reading.{mode_side}
use Rattle.lens.specs.Parsed.{parsed_fits}
use Rattle.cards.proofs.Sealing.{card_long, emits_behind}
use Rattle.decks.proofs.Dealing.{source_card_made, slot_card, entry_within, tried_made}
use borrow.Author.Rules.{rules}
use Rattle.decks.proofs.deck.entry_card.Goals as goal

pub has_union-requires : goal.has_union-requires
has_union-requires c = omega (arith, c.requires.lens_node.inside, c.requires.below_is.room)

pub sheet_card-requires : goal.sheet_card-requires
sheet_card-requires c = record { lens_node = c.requires.lens_node; parsed = c.requires.parsed; text_len_bound = c.requires.text_len_bound; path_room = c.requires.path_room }

pub emit-key-requires : goal.emit-key-requires
unfolding mode_side
emit-key-requires c = record { lens_node = c.requires.lens_node; parsed = c.requires.parsed }

pub seal-requires : goal.seal-requires
seal-requires c = record { card_len = card_long (take 4098 c.args.room.now) c.emit-key.new.out (length-take-le 4098 c.args.room.now c.requires.text_len_bound.2) (search rules); key_behind = emits_behind (take 4098 c.args.room.now) c.requires.lens_node (length-take-le 4098 c.args.room.now c.requires.text_len_bound.2) (search rules) c.emit-key.ensures }

pub returns : goal.returns
returns c = let made = source_card_made (take 4098 c.args.room.now) c.requires.below_is c.requires.lens_node.inside (sym c.has_union.ensures ∙ c.if-has_union.false) (parsed_fits c.requires.parsed) (length-take-le 4098 c.args.room.now c.requires.text_len_bound.2) (search rules) c.emit-key.ensures (search rules) c.seal.ensures in tried_made (slot_card (drop 4098 c.args.room.now) (entry_within c.requires.lens_node made) made)
