-- The proof of the cycle of calls {put, put_join, put_parts, write}: the node falls. `put` at a node has the measure 3 * node + 1, and `write` there, which
-- calls it, one more; between it and the measures of lower nodes lie those of the join of two of them, and of the repeat that the node is. In the loop of
-- the repeat, what is written so far is what the parts so far put, and the rest of the sheet and of the old text is parsed. Assumes nothing.
use borrow.Author.Rules.{rules}
use native.Mathlib.Omega.{arith}
use Prim.Native.Nat.{ℕ, suc, ◌+◌, ◌*◌, ◌≤◌, ◌<◌, max}
use native.Mathlib.Nat.{le-max_left, le-max_right, max-le, suc-max-suc}
use mathlib.Core.Path.{sym, ◌∙◌}
use mathlib.Core.Logic.{inl, inr}
use Rattle.automaton.specs.declared.Side.TheVariants.{Source, Sheet}
use Rattle.lens.specs.Reading.{mode_side}
use Rattle.texts.specs.Cutting.{part_length_lem}
use Rattle.lens.specs.Nodes.{
  no_pattern,
  shown_join,
  shown_union,
  shown_repeat,
  shown_match,
  node_prepared,
  node_words,
  lens_below,
  child_below,
  left_below,
  right_below,
}
use Rattle.lens.specs.Parsed.{parsed_length, parsed_match}
use Rattle.books.specs.Looking.{old_text}
use Rattle.steps.specs.Stepping.{place_inside, old_inside, cut_inside}
use Rattle.bookless.proofs.Putting.{puts_at, puts_nothing, puts_created, puts_copy, puts_const, puts_key, puts_join, puts_match, puts_union, arm_given, join_given, join_inside, near_node, far_node, near_given, near_within, far_given, join_full, join_fits, join_next}
use Rattle.bookless.proofs.Parts.{parts_begin, parts_put, parts_room, parts_length, part_moves, part_within, part_given, parts_full, parts_next_put}
use Rattle.bookless.proofs.+put_put_join_put_parts_write.Goals as goal

-- the measure falls from a join to its halves, and from a node to the join of two lower ones
left-falls : (a b : ℕ) → 3 * a + 1 < 3 * max a b + 2
left-falls a b = omega (arith, le-max_left a b)

right-falls : (a b : ℕ) → 3 * b + 1 < 3 * max a b + 2
right-falls a b = omega (arith, le-max_right a b)

join-falls : {a b node : ℕ} → a < node → b < node → 3 * max a b + 2 < 3 * node + 1
join-falls {a} {b} {node} h k = let both : max (suc a) (suc b) ≤ node = max-le h k in omega (arith, rw suc-max-suc at both)

pub put-put_join-requires : goal.put-put_join-requires
put-put_join-requires t c =
    let known = c.requires.lens_node in
    let s = shown_join c.node-read.ensures c.in-LensJoin.is in
    let lower = join-falls s.left_lower s.right_lower in (omega (arith, lower, c.decreases), ((left_below known s, right_below known s), join_given c.requires.given s))

pub put-choose-choice-requires : goal.put-choose-choice-requires
put-choose-choice-requires t c =
    let known = c.requires.lens_node in
    let given = c.requires.given in
    let s = shown_union c.node-read.ensures c.in-LensUnion.is in
    let sheets = given.sheet_given in record { prepared = (node_prepared (left_below known s) Source, node_prepared (left_below known s) Sheet, node_prepared (right_below known s) Sheet); base_bound = (omega (arith, sheets.parsed.few), place_inside given.old_parsed, sheets.deck_room); len_bound = (sheets.new_short, parsed_length sheets.parsed) }

pub put-write-requires : goal.put-write-requires
put-write-requires t c =
    let known = c.requires.lens_node in
    let given = c.requires.given in
    let s = shown_union c.node-read.ensures c.in-LensUnion.is in
    let chosen =
    c.choose-choice.ensures.choice_is _ _ (left_below known s) (right_below known s) s given.sheet_given.parsed given.old_parsed
    in
    let arm = chosen.is_arm in (omega (arith, arm.lower, c.decreases), (lens_below known arm.arm arm.lower arm.arm_is, arm_given given chosen))

pub put-put_parts-requires : goal.put-put_parts-requires
put-put_parts-requires t c = (omega (arith, c.decreases), (c.requires.lens_node, (shown_repeat c.node-read.ensures c.in-LensRepeat.is, c.requires.given)))

pub put-emit-requires : goal.put-emit-requires
unfolding mode_side
put-emit-requires t c =
    let s = shown_match c.node-read.ensures c.in-Match.is in record { lens_node = child_below c.requires.lens_node s; parsed = parsed_match c.requires.given.sheet_given.parsed s }

pub put-returns-in-Word : goal.put-returns-in-Word
put-returns-in-Word t c =
    no_pattern c.requires.lens_node c.node-read.ensures c.in-Word.is

pub put-returns-in-Copy : goal.put-returns-in-Copy
put-returns-in-Copy t c =
    elim c.in-Copy.is [
      | inl w ↦ puts_copy c.node-read.ensures w.1 c.write_text.ensures
      | inr w ↦ puts_key c.node-read.ensures w.1 c.write_text.ensures
    ]

pub put-returns-in-Const : goal.put-returns-in-Const
put-returns-in-Const t c =
    puts_const c.node-read.ensures c.args.place c.args.deck.now c.in-Const.is c.write_text-in-Const.ensures

pub put-returns-in-LensJoin : goal.put-returns-in-LensJoin
put-returns-in-LensJoin t c =
    puts_join c.node-read.ensures c.in-LensJoin.is c.put_join.ensures

pub put-returns-in-LensUnion : goal.put-returns-in-LensUnion
put-returns-in-LensUnion t c =
    let known = c.requires.lens_node in
    let given = c.requires.given in
    let s = shown_union c.node-read.ensures c.in-LensUnion.is in
    let chosen =
    c.choose-choice.ensures.choice_is _ _ (left_below known s) (right_below known s) s given.sheet_given.parsed given.old_parsed
    in
    puts_union s chosen.is_arm c.write.ensures

pub put-returns-in-Match : goal.put-returns-in-Match
put-returns-in-Match t c =
    puts_match c.node-read.ensures c.in-Match.is c.emit.ensures

pub put_join-cut_sheet-cut-requires : goal.put_join-cut_sheet-cut-requires
put_join-cut_sheet-cut-requires t c =
    let known = c.requires.lens_node.0 in
    let given = c.requires.given_join in
    (node_prepared known Sheet, omega (arith, given.parsed.few))

pub put_join-halves_of-halves-requires : goal.put_join-halves_of-halves-requires
put_join-halves_of-halves-requires t c =
    let known = c.requires.lens_node.0 in
    let given = c.requires.given_join in record { prepared = (node_prepared known Source, join_inside given); in_bounds = given.deck_room }

pub put_join-slice_bounds-put-end : goal.put_join-slice_bounds-put-end
put_join-slice_bounds-put-end t c =
    let known = c.requires.lens_node.0 in
    let given = c.requires.given_join in
    let inside = cut_inside known given.parsed c.cut_sheet-cut.ensures in
    inside.0

pub put_join-slice_bounds-put-end-2 : goal.put_join-slice_bounds-put-end-2
put_join-slice_bounds-put-end-2 t c =
    let known = c.requires.lens_node.0 in
    let given = c.requires.given_join in
    let inside = cut_inside known given.parsed c.cut_sheet-cut.ensures in
    inside.1

pub put_join-put-requires : goal.put_join-put-requires
put_join-put-requires t c =
    let known = c.requires.lens_node.0 in
    let given = c.requires.given_join in
    let p = c.args.place in
    let deck = c.args.deck.now in
    let cut_is = c.cut_sheet-cut.ensures in
    let halves_are = c.halves_of-halves.ensures in
    let near = near_node p deck known given cut_is halves_are in
    let falls = left-falls c.args.left c.args.right in (omega (arith, near, falls, c.decreases), (rw near known, near_given p deck known given cut_is halves_are))

pub put_join-slice_bounds-put-count-3 : goal.put_join-slice_bounds-put-count-3
put_join-slice_bounds-put-count-3 t c =
    let known = c.requires.lens_node.0 in
    let given = c.requires.given_join in
    let inside = cut_inside known given.parsed c.cut_sheet-cut.ensures in
    inside.0

pub put_join-slice_bounds-put-start-3 : goal.put_join-slice_bounds-put-start-3
put_join-slice_bounds-put-start-3 t c =
    let known = c.requires.lens_node.0 in
    let given = c.requires.given_join in
    let inside = cut_inside known given.parsed c.cut_sheet-cut.ensures in
    inside.0

pub put_join-slice_bounds-put-count-5 : goal.put_join-slice_bounds-put-count-5
put_join-slice_bounds-put-count-5 t c =
    let known = c.requires.lens_node.0 in
    let given = c.requires.given_join in
    let p = c.args.place in
    let deck = c.args.deck.now in
    let cut_is = c.cut_sheet-cut.ensures in
    let halves_are = c.halves_of-halves.ensures in
    near_within p deck known given cut_is halves_are c.put.ensures c.in_ok-n.was

pub put_join-slice_bounds-put-start-5 : goal.put_join-slice_bounds-put-start-5
put_join-slice_bounds-put-start-5 t c =
    let known = c.requires.lens_node.0 in
    let given = c.requires.given_join in
    let p = c.args.place in
    let deck = c.args.deck.now in
    let cut_is = c.cut_sheet-cut.ensures in
    let halves_are = c.halves_of-halves.ensures in
    near_within p deck known given cut_is halves_are c.put.ensures c.in_ok-n.was

pub put_join-slice_bounds-put-count-4 : goal.put_join-slice_bounds-put-count-4
put_join-slice_bounds-put-count-4 t c =
    let known = c.requires.lens_node.0 in
    let given = c.requires.given_join in
    let inside = cut_inside known given.parsed c.cut_sheet-cut.ensures in
    let same = part_length_lem c.args.path.now c.put.new.path 0 _ (omega arith) inside.1 (search rules) in
    omega (arith, same, inside.1)

pub put_join-slice_bounds-put-start-4 : goal.put_join-slice_bounds-put-start-4
put_join-slice_bounds-put-start-4 t c =
    let known = c.requires.lens_node.0 in
    let given = c.requires.given_join in
    let inside = cut_inside known given.parsed c.cut_sheet-cut.ensures in
    let same = part_length_lem c.args.path.now c.put.new.path 0 _ (omega arith) inside.1 (search rules) in
    omega (arith, same, inside.1)

pub put_join-put-requires-2 : goal.put_join-put-requires-2
put_join-put-requires-2 t c =
    let known = c.requires.lens_node.0 in
    let given = c.requires.given_join in
    let p = c.args.place in
    let deck = c.args.deck.now in
    let cut_is = c.cut_sheet-cut.ensures in
    let halves_are = c.halves_of-halves.ensures in
    let far = far_node p deck known given cut_is halves_are in
    let falls = right-falls c.args.left c.args.right in (omega (arith, far, falls, c.decreases), (rw far c.requires.lens_node.1, far_given p deck known given cut_is halves_are c.put.new.path (search rules)))

pub put_join-returns : goal.put_join-returns
put_join-returns t c =
    let known = c.requires.lens_node.0 in
    let given = c.requires.given_join in
    let p = c.args.place in
    let deck = c.args.deck.now in
    let cut_is = c.cut_sheet-cut.ensures in
    let halves_are = c.halves_of-halves.ensures in
    rw c.in_ok-m.was at (join_next p deck known given cut_is halves_are c.put.ensures c.in_ok-n.was c.put-2.ensures)

pub put_parts-ends_of-ends-requires : goal.put_parts-ends_of-ends-requires
put_parts-ends_of-ends-requires t c =
    node_words (child_below c.requires.lens_node c.requires.one_lens)

pub put_parts-ends_of-olds-requires : goal.put_parts-ends_of-olds-requires
put_parts-ends_of-olds-requires t c =
    node_words (child_below c.requires.lens_node c.requires.one_lens)

pub put_parts-loop-o-init : goal.put_parts-loop-o-init
put_parts-loop-o-init t c =
    parts_begin c.requires.lens_node c.requires.one_lens c.requires.given c.ends_of-ends.ensures c.ends_of-olds.ensures

pub put_parts-overflow_add-e : goal.put_parts-overflow_add-e
put_parts-overflow_add-e t c =
    let inv = c.loop-o.invariant in
    let more = c.loop-o-test.true in
    let found = c.first_loop.ensures in
    omega (arith, (part_within inv more found).0, inv.new_short)

pub put_parts-next_old-next-requires : goal.put_parts-next_old-next-requires
put_parts-next_old-next-requires t c =
    let inv = c.loop-o.invariant in
    (old_inside inv.left_fits, inv.deck_room)

pub put_parts-slice_bounds-write-end : goal.put_parts-slice_bounds-write-end
put_parts-slice_bounds-write-end t c =
    let inv = c.loop-o.invariant in
    let more = c.loop-o-test.true in
    let found = c.first_loop.ensures in
    (part_within inv more found).0

pub put_parts-slice_bounds-write-end-in-loop-o : goal.put_parts-slice_bounds-write-end-in-loop-o
put_parts-slice_bounds-write-end-in-loop-o t c =
    let inv = c.loop-o.invariant in
    let more = c.loop-o-test.true in
    let found = c.first_loop.ensures in
    (part_within inv more found).1

pub put_parts-slice_bounds-write-count-in-loop-o-2 : goal.put_parts-slice_bounds-write-count-in-loop-o-2
put_parts-slice_bounds-write-count-in-loop-o-2 t c =
    parts_room c.loop-o.invariant

pub put_parts-slice_bounds-write-start-in-loop-o-2 : goal.put_parts-slice_bounds-write-start-in-loop-o-2
put_parts-slice_bounds-write-start-in-loop-o-2 t c =
    parts_room c.loop-o.invariant

pub put_parts-write-requires : goal.put_parts-write-requires
put_parts-write-requires t c =
    let inv = c.loop-o.invariant in
    let more = c.loop-o-test.true in
    let found = c.first_loop.ensures in (omega (arith, inv.part.lower, c.decreases), (inv.known, part_given inv more found c.next_old-next.ensures))

pub put_parts-overflow_add-n : goal.put_parts-overflow_add-n
put_parts-overflow_add-n t c =
    let inv = c.loop-o.invariant in
    let more = c.loop-o-test.true in
    let found = c.first_loop.ensures in
    let next = parts_next_put inv more found c.next_old-next.ensures c.write.ensures c.write.new.path c.in_ok-m.was (search rules) in
    let room = parts_room next in
    let long = parts_length next in
    omega (arith, room, long, c.well_formed)

pub put_parts-loop-o-smaller : goal.put_parts-loop-o-smaller
put_parts-loop-o-smaller t c =
    let inv = c.loop-o.invariant in
    let more = c.loop-o-test.true in
    let found = c.first_loop.ensures in
    omega (arith, part_moves inv more found, more)

pub put_parts-loop-o-preserved : goal.put_parts-loop-o-preserved
put_parts-loop-o-preserved t c =
    let inv = c.loop-o.invariant in
    let more = c.loop-o-test.true in
    let found = c.first_loop.ensures in
    parts_next_put inv more found c.next_old-next.ensures c.write.ensures c.write.new.path c.in_ok-m.was (search rules)

pub put_parts-shape_of-path : goal.put_parts-shape_of-path
put_parts-shape_of-path t c =
    c.loop-o.invariant.as_long ∙ sym (parsed_length c.requires.given.sheet_given.parsed)

pub put_parts-returns : goal.put_parts-returns
unfolding old_text
put_parts-returns t c =
    parts_put c.loop-o.invariant c.loop-o-test.false

pub write-put-requires : goal.write-put-requires
write-put-requires t c =
    let given = c.requires.given_old in (omega (arith, c.decreases), (c.requires.lens_node, record { sheet_given = given.sheet_given; old_parsed = given.old_fits.fits c.in-Some.place c.in-Some.is }))

pub write-emit-requires : goal.write-emit-requires
unfolding mode_side
write-emit-requires t c = record { lens_node = c.requires.lens_node; parsed = c.requires.given_old.sheet_given.parsed }

pub write-returns-in-Some : goal.write-returns-in-Some
write-returns-in-Some t c =
    puts_at c.in-Some.place c.args.deck.now c.in-Some.is c.put.ensures

pub write-returns-in-None : goal.write-returns-in-None
write-returns-in-None t c =
    puts_nothing c.args.deck.now c.in-None.is (puts_created c.emit.ensures)

pub put_join-returns-in_err-n : goal.put_join-returns-in_err-n
put_join-returns-in_err-n t c =
    let known = c.requires.lens_node.0 in
    let given = c.requires.given_join in
    let p = c.args.place in
    let deck = c.args.deck.now in
    let cut_is = c.cut_sheet-cut.ensures in
    let halves_are = c.halves_of-halves.ensures in
    rw c.from_residual.ensures (join_full p deck known given cut_is halves_are c.put.ensures c.in_err-n.was)

pub put_join-returns-in_err-m : goal.put_join-returns-in_err-m
put_join-returns-in_err-m t c =
    let known = c.requires.lens_node.0 in
    let given = c.requires.given_join in
    let p = c.args.place in
    let deck = c.args.deck.now in
    let cut_is = c.cut_sheet-cut.ensures in
    let halves_are = c.halves_of-halves.ensures in
    rw c.from_residual-in_err-m.ensures
    (rw c.in_err-m.was at (join_next p deck known given cut_is halves_are c.put.ensures c.in_ok-n.was c.put-2.ensures))

pub put_join-overflow_add-result : goal.put_join-overflow_add-result
put_join-overflow_add-result t c =
    let known = c.requires.lens_node.0 in
    let given = c.requires.given_join in
    let p = c.args.place in
    let deck = c.args.deck.now in
    let cut_is = c.cut_sheet-cut.ensures in
    let halves_are = c.halves_of-halves.ensures in
    let fits = join_fits p deck known given cut_is halves_are c.put.ensures c.in_ok-n.was c.put-2.ensures (omega (arith, c.well_formed)) in
    omega (arith, fits.fits c.in_ok-m.m c.in_ok-m.was)

pub put_parts-returns-in_err-m : goal.put_parts-returns-in_err-m
unfolding old_text
put_parts-returns-in_err-m t c =
    let inv = c.loop-o.invariant in
    let more = c.loop-o-test.true in
    let found = c.first_loop.ensures in
    rw c.from_residual.ensures (parts_full inv more found c.next_old-next.ensures c.write.ensures c.in_err-m.was)

pub put_parts-shape_of-path-in_err-m : goal.put_parts-shape_of-path-in_err-m
put_parts-shape_of-path-in_err-m t c =
    let inv = c.loop-o.invariant in
    let more = c.loop-o-test.true in
    let found = c.first_loop.ensures in
    let kept = part_length_lem c.loop-o.path c.write.new.path c.loop-o.o _ (omega arith) (part_within inv more found).1 (search rules) in
    kept ∙ inv.as_long ∙ sym (parsed_length c.requires.given.sheet_given.parsed)
