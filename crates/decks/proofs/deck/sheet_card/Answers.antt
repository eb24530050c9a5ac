-- `decks::deck::sheet_card` meets its contract. Assumes nothing.
use mathlib.Core.Path.{refl}
use mathlib.Core.List.{◌++◌}
use Prim.Native.Nat.{ℕ, ◌-◌, ◌≤◌}
use native.Mathlib.Omega.{arith}
use lib.ListN.{length, take, drop, length-take}
use Rattle.paths.specs.Finding.{less_marks}
use Rattle.lens.specs.Reading.{mode_side}
use Rattle.lens.specs.Parsed.{parsed_fits}
use Rattle.cards.proofs.Sealing.{card_long, emits_behind}
use Rattle.decks.proofs.Dealing.{sheet_over, sheet_within, sheet_ends, sheet_back, sheet_belongs, sheet_card_made, copied_card, entry_within, entry_small, tried_made, tried_long}
use borrow.Author.Rules.{rules}
use Rattle.decks.proofs.deck.sheet_card.Goals as goal

pub emit-requires : goal.emit-requires
unfolding mode_side
emit-requires c = record { lens_node = c.requires.lens_node; parsed = c.requires.parsed }

pub slice_bounds-made-end : goal.slice_bounds-made-end
slice_bounds-made-end c = sheet_ends c.requires.lens_node (drop (c.min-most.result - 0) c.args.room.now) (rw c.in_ok-n.was at c.emit.ensures)

pub read_text-key-requires : goal.read_text-key-requires
unfolding mode_side
read_text-key-requires c = let room = c.requires.path_room in let n : ℕ = c.in_ok-n.n in let front : n ≤ length c.args.path.now = omega (arith, sheet_within c.requires.lens_node (rw c.in_ok-n.was at c.emit.ensures), c.emit.auto.out, length-take (c.min-most.result - 0) c.args.room.now, c.min-most.ensures) in let short : length (take (n - 0) (c.emit.new.out ++ (drop (c.min-most.result - 0) c.args.room.now))) ≤ length c.args.path.now = simp length-take (omega (arith, front)) in record { lens_node = c.requires.lens_node; fits = sheet_belongs (drop (c.min-most.result - 0) c.args.room.now) (parsed_fits c.requires.parsed) (rw c.in_ok-n.was at c.emit.ensures); text_in_bounds = (short, less_marks short refl room.marks_room) }

pub seal-sealed-requires : goal.seal-sealed-requires
seal-sealed-requires c = record { card_len = card_long c.args.card.now c.read_text-key.new.out c.requires.text_len_bound.1 (search rules); key_behind = emits_behind c.args.card.now c.requires.lens_node c.requires.text_len_bound.1 (search rules) c.read_text-key.ensures }

pub slice_bounds-write_text-end : goal.slice_bounds-write_text-end
slice_bounds-write_text-end c = entry_within c.requires.lens_node (sheet_card_made c.args.card.now (drop (c.min-most.result - 0) c.args.room.now) c.requires.text_len_bound.1 (search rules) (rw c.in_ok-n.was at c.emit.ensures) c.read_text-key.ensures (search rules) c.seal-sealed.ensures)

pub returns : goal.returns
returns c = let made = sheet_card_made c.args.card.now (drop (c.min-most.result - 0) c.args.room.now) c.requires.text_len_bound.1 (search rules) (rw c.in_ok-n.was at c.emit.ensures) c.read_text-key.ensures (search rules) c.seal-sealed.ensures in tried_made (copied_card (entry_within c.requires.lens_node made) (omega (arith, entry_small c.requires.lens_node made, sheet_back c.args.path.now c.args.room.now c.emit.new.out c.min-most.ensures (search rules), c.requires.text_len_bound.2)) c.write_text.ensures made)

pub returns-in_err-n : goal.returns-in_err-n
returns-in_err-n c = rw c.from_residual.ensures (tried_long (λ paths. omega (arith, sheet_back c.args.path.now c.args.room.now c.emit.new.out c.min-most.ensures (search rules), sheet_over c.requires.lens_node c.args.path.now c.args.room.now (parsed_fits c.requires.parsed) c.requires.text_len_bound.0 c.min-most.ensures (rw c.in_err-n.was at c.emit.ensures) paths)))
