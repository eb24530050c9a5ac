-- `decks::deck::deal` meets its contract. The loop's invariant: the deck has the old source, its path, and the cards of the entries before i, in front of `at`. Assumes nothing.
use mathlib.Core.Path.{refl, ◌∙◌}
use native.Mathlib.Omega.{arith}
use Rattle.lens.specs.Nodes.{sizes_are}
use Rattle.lens.specs.Parsed.{parsed_fits}
use Rattle.decks.proofs.Dealing.{dealt_lent, dealt_more, dealt_end, stopped_card, stopped_sheet, made_entry, entry_small, lent_short, lent_parsed, parsed_node, rest_long, deck_long, same_room_begins, same_room_kept, same_room_left}
use borrow.Author.Rules.{rules}
use Rattle.decks.proofs.deck.deal.Goals as goal

pub loop-i-init : goal.loop-i-init
loop-i-init c = (same_room_begins, refl, c.requires.dealt_to.0)

pub overflow_add-at : goal.overflow_add-at
overflow_add-at c = omega (arith, c.loop-i.invariant.2.within, c.loop-i.invariant.1, c.requires.dealt_to.1)

pub shape_of-marks-then-deck-at : goal.shape_of-marks-then-deck-at
shape_of-marks-then-deck-at c = c.loop-i.invariant.0.marks_same

pub shape_of-path-then-deck-at : goal.shape_of-path-then-deck-at
shape_of-path-then-deck-at c = c.loop-i.invariant.0.path_same

pub shape_of-card-then-deck-at : goal.shape_of-card-then-deck-at
shape_of-card-then-deck-at c = c.loop-i.invariant.0.card_same

pub shape_of-deck-then-deck-at : goal.shape_of-deck-then-deck-at
shape_of-deck-then-deck-at c = c.loop-i.invariant.1

pub returns-then-deck-at : goal.returns-then-deck-at
returns-then-deck-at c = record { dealt = c.loop-i.invariant.2; all = λ e. absurd (omega (arith, e, c.loop-i-test.true)); stopped = λ h paths. stopped_card c.loop-i.invariant.2 c.requires.book_over.0 c.requires.book_over.1 c.loop-i-test.true c.if-deck-at.true }

pub overflow_cast-child : goal.overflow_cast-child
overflow_cast-child c = omega (arith, (parsed_node c.requires.built.0 (lent_parsed c.requires.entries_parsed c.loop-i.i c.loop-i-test.true)).inside, (sizes_are c.requires.built.0.sized).few_nodes)

pub overflow_cast-base : goal.overflow_cast-base
overflow_cast-base c = omega (arith, (lent_parsed c.requires.entries_parsed c.loop-i.i c.loop-i-test.true).few)

pub overflow_cast-start : goal.overflow_cast-start
overflow_cast-start c = omega (arith, c.requires.book_over.0.fits.inside c.loop-i.i c.loop-i-test.true, c.requires.source_len_bound.0)

pub overflow_cast-end : goal.overflow_cast-end
overflow_cast-end c = omega (arith, c.requires.book_over.0.fits.inside c.loop-i.i c.loop-i-test.true, c.requires.source_len_bound.0)

pub overflow_add-end : goal.overflow_add-end
overflow_add-end c = omega (arith, c.requires.book_over.0.fits.inside c.loop-i.i c.loop-i-test.true, c.requires.source_len_bound.0)

pub slice_bounds-text-end : goal.slice_bounds-text-end
slice_bounds-text-end c = c.requires.book_over.0.fits.inside c.loop-i.i c.loop-i-test.true

pub slice_bounds-track-end : goal.slice_bounds-track-end
slice_bounds-track-end c = omega (arith, c.requires.book_over.0.fits.inside c.loop-i.i c.loop-i-test.true, c.requires.source_len_bound.1)

pub entry_card-requires : goal.entry_card-requires
entry_card-requires c = let parsed = (lent_parsed c.requires.entries_parsed c.loop-i.i c.loop-i-test.true) in record { lens_node = parsed_node c.requires.built.0 parsed; parsed = parsed; below_is = c.requires.built.1; text_len_bound = (lent_short c.args.source.now c.args.book c.loop-i.i c.requires.source_len_bound.0, c.loop-i.invariant.0.card_same ∙ c.requires.path_room.1, omega (arith, rest_long c.loop-i.deck c.loop-i.at, c.if-deck-at.false)); path_room = same_room_left c.loop-i.invariant.0 c.requires.path_room.0 }

pub shape_of-marks-in_default : goal.shape_of-marks-in_default
shape_of-marks-in_default c = (search rules) ∙ c.loop-i.invariant.0.marks_same

pub shape_of-path-in_default : goal.shape_of-path-in_default
shape_of-path-in_default c = (search rules) ∙ c.loop-i.invariant.0.path_same

pub shape_of-card-in_default : goal.shape_of-card-in_default
shape_of-card-in_default c = (search rules) ∙ c.loop-i.invariant.0.card_same

pub shape_of-deck-in_default : goal.shape_of-deck-in_default
shape_of-deck-in_default c = deck_long c.loop-i.deck c.loop-i.at c.loop-i.invariant.2.within c.entry_card.new.room (search rules) ∙ c.loop-i.invariant.1

pub returns-in_default : goal.returns-in_default
returns-in_default c = record { dealt = dealt_lent c.loop-i.invariant.2 c.entry_card.new.room (search rules); all = λ e. absurd (omega (arith, e, c.loop-i-test.true)); stopped = λ h paths. omega (arith, deck_long c.loop-i.deck c.loop-i.at c.loop-i.invariant.2.within c.entry_card.new.room (search rules), stopped_sheet c.loop-i.invariant.2 c.requires.book_over.0 c.requires.book_over.1 c.loop-i-test.true (omega (arith, c.entry_card.ensures.too_long_lem c.in_default.is (omega (arith, paths, c.loop-i.invariant.0.path_same)), c.entry_card.auto.room, rest_long c.loop-i.deck c.loop-i.at))) }

pub put_head-requires : goal.put_head-requires
put_head-requires c = record { i_bound = (omega (arith, c.loop-i-test.true, c.requires.book_over.0.fits.few), omega (arith, deck_long c.loop-i.deck c.loop-i.at c.loop-i.invariant.2.within c.entry_card.new.room (search rules), c.loop-i.invariant.2.behind_heads, c.loop-i.invariant.2.within)); at_bound = omega (arith, c.loop-i.invariant.2.within, c.loop-i.invariant.1, c.requires.dealt_to.1) }

pub overflow_add-at-in-loop-i : goal.overflow_add-at-in-loop-i
overflow_add-at-in-loop-i c = omega (arith, entry_small (parsed_node c.requires.built.0 (lent_parsed c.requires.entries_parsed c.loop-i.i c.loop-i-test.true)) (made_entry c.entry_card.ensures c.in-Some.is), c.loop-i.invariant.2.within, c.loop-i.invariant.1, c.requires.dealt_to.1)

pub loop-i-preserved : goal.loop-i-preserved
loop-i-preserved c = (same_room_kept c.loop-i.invariant.0 (search rules) (search rules) (search rules), (search rules) ∙ deck_long c.loop-i.deck c.loop-i.at c.loop-i.invariant.2.within c.entry_card.new.room (search rules) ∙ c.loop-i.invariant.1, dealt_more c.loop-i.invariant.2 c.entry_card.new.room c.requires.book_over.0 c.requires.book_over.1 c.loop-i-test.true (parsed_node c.requires.built.0 (lent_parsed c.requires.entries_parsed c.loop-i.i c.loop-i-test.true)) (parsed_fits (lent_parsed c.requires.entries_parsed c.loop-i.i c.loop-i-test.true)) (search rules) (made_entry c.entry_card.ensures c.in-Some.is) c.put_head.ensures)

pub shape_of-marks : goal.shape_of-marks
shape_of-marks c = c.loop-i.invariant.0.marks_same

pub shape_of-path : goal.shape_of-path
shape_of-path c = c.loop-i.invariant.0.path_same

pub shape_of-card : goal.shape_of-card
shape_of-card c = c.loop-i.invariant.0.card_same

pub shape_of-deck : goal.shape_of-deck
shape_of-deck c = c.loop-i.invariant.1

pub returns : goal.returns
returns c = dealt_end c.loop-i.invariant.2 c.requires.entries_parsed c.requires.book_over.0 c.loop-i-test.false
