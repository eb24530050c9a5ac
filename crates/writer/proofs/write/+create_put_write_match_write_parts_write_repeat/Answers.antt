use Rattle.matches.proofs.Ready.{found_ready, found_given, ready_below, ready_left, below_room, arm_ready}
use Rattle.plains.proofs.Given.{given_none, given_onto, given_at, arm_given, new_arm, choice_arm, choice_given, given_match}
use Rattle.plains.proofs.Parts.{parting_begins, more_path, more_lent, part_inside, part_given, part_old, part_back, parting_next, parting_ends}
use Rattle.plains.proofs.Halves.{halves_lower, near_known, far_known, at_inside, near_given, left_back, far_given, near_old, far_old, join_created, join_put}
use Rattle.matches.proofs.Matching.{match_writes}
use Rattle.plains.proofs.ByKind.{union_writes}
use Rattle.plains.proofs.Unasked.{leaf_asks_none, inner_flat, inner_met}
use Rattle.plains.proofs.Behind.{behind_left, at_node, old_put, old_created}
use Rattle.steps.specs.Stepping.{place_inside, old_inside, old_ends}
use Rattle.books.specs.Looking.{old_text}
use Rattle.lens.specs.Parsed.{parsed_length}
use Rattle.lens.specs.Nodes.{shown_join, shown_union, shown_repeat, shown_match, child_below, left_below, right_below, node_words, node_prepared}
use Rattle.automaton.specs.declared.Side.TheVariants.{Source, Sheet}
use Rattle.semantics.specs.Lens.{match}
use Rattle.std.proofs.Common.{refl, ◌∙◌, arith, rules}
use Rattle.writer.proofs.write.+create_put_write_match_write_parts_write_repeat.Goals as goal

pub create-asks_none-requires : goal.create-asks_none-requires
create-asks_none-requires t c = below_room c.requires.ready

pub create-plain_behind-requires : goal.create-plain_behind-requires
create-plain_behind-requires t c = record { ready = c.requires.ready; given_old = given_none c.requires.new_given; within_buffer = (c.requires.within_buffer.0, record { none_shared = c.asks_none.ensures.0 c.if-asks_none.true }) }

pub create-returns-then-asks_none : goal.create-returns-then-asks_none
unfolding old_text
create-returns-then-asks_none t c = c.plain_behind.ensures

pub create-node-read-requires : goal.create-node-read-requires
create-node-read-requires t c = record { all_sized = c.requires.ready.lens_node.built.sized; k_bound = c.requires.ready.lens_node.inside }

pub create-cut_sheet-cut-requires : goal.create-cut_sheet-cut-requires
create-cut_sheet-cut-requires t c =
    let known = c.requires.ready.lens_node in
    let s = shown_join c.node-read.ensures c.in-LensJoin.is in
    (node_prepared (left_below known s) Sheet, omega (arith, c.requires.new_given.parsed.few))

pub create-slice_bounds-front-count : goal.create-slice_bounds-front-count
create-slice_bounds-front-count t c =
    let known = c.requires.ready.lens_node in
    let s = shown_join c.node-read.ensures c.in-LensJoin.is in
    omega (arith, at_inside known s c.requires.new_given c.cut_sheet-cut.ensures)

pub create-slice_bounds-front-start : goal.create-slice_bounds-front-start
create-slice_bounds-front-start t c =
    let known = c.requires.ready.lens_node in
    let s = shown_join c.node-read.ensures c.in-LensJoin.is in
    omega (arith, at_inside known s c.requires.new_given c.cut_sheet-cut.ensures)

pub create-slice_bounds-front-end : goal.create-slice_bounds-front-end
create-slice_bounds-front-end t c =
    let known = c.requires.ready.lens_node in
    let s = shown_join c.node-read.ensures c.in-LensJoin.is in
    omega (arith, at_inside known s c.requires.new_given c.cut_sheet-cut.ensures)

pub create-slice_bounds-track-count : goal.create-slice_bounds-track-count
create-slice_bounds-track-count t c =
    let known = c.requires.ready.lens_node in
    let s = shown_join c.node-read.ensures c.in-LensJoin.is in
    omega (arith, at_inside known s c.requires.new_given c.cut_sheet-cut.ensures)

pub create-slice_bounds-track-start : goal.create-slice_bounds-track-start
create-slice_bounds-track-start t c =
    let known = c.requires.ready.lens_node in
    let s = shown_join c.node-read.ensures c.in-LensJoin.is in
    omega (arith, at_inside known s c.requires.new_given c.cut_sheet-cut.ensures)

pub create-slice_bounds-track-end : goal.create-slice_bounds-track-end
create-slice_bounds-track-end t c =
    let known = c.requires.ready.lens_node in
    let s = shown_join c.node-read.ensures c.in-LensJoin.is in
    omega (arith, at_inside known s c.requires.new_given c.cut_sheet-cut.ensures)

pub create-create-done-requires : goal.create-create-done-requires
create-create-done-requires t c =
    let known = c.requires.ready.lens_node in
    let s = shown_join c.node-read.ensures c.in-LensJoin.is in
    let cut_is = c.cut_sheet-cut.ensures in (omega (arith, c.decreases, halves_lower known s c.requires.new_given cut_is), (ready_below c.requires.ready (near_known known s c.requires.new_given cut_is), (near_given known s c.requires.new_given cut_is, c.requires.within_buffer)))

pub create-slice_bounds-back-count : goal.create-slice_bounds-back-count
create-slice_bounds-back-count t c =
    let known = c.requires.ready.lens_node in
    let s = shown_join c.node-read.ensures c.in-LensJoin.is in
    omega (arith, at_inside known s c.requires.new_given c.cut_sheet-cut.ensures)

pub create-slice_bounds-back-start : goal.create-slice_bounds-back-start
create-slice_bounds-back-start t c =
    let known = c.requires.ready.lens_node in
    let s = shown_join c.node-read.ensures c.in-LensJoin.is in
    omega (arith, at_inside known s c.requires.new_given c.cut_sheet-cut.ensures)

pub create-slice_bounds-back-end : goal.create-slice_bounds-back-end
create-slice_bounds-back-end t c =
    let known = c.requires.ready.lens_node in
    let s = shown_join c.node-read.ensures c.in-LensJoin.is in
    omega (arith, at_inside known s c.requires.new_given c.cut_sheet-cut.ensures)

pub create-slice_bounds-track-count-in-LensJoin : goal.create-slice_bounds-track-count-in-LensJoin
create-slice_bounds-track-count-in-LensJoin t c =
    let known = c.requires.ready.lens_node in
    let s = shown_join c.node-read.ensures c.in-LensJoin.is in
    let cut_is = c.cut_sheet-cut.ensures in
    omega (arith, at_inside known s c.requires.new_given cut_is, left_back known s c.requires.new_given cut_is c.create-done.new.path (search rules))

pub create-slice_bounds-track-start-in-LensJoin : goal.create-slice_bounds-track-start-in-LensJoin
create-slice_bounds-track-start-in-LensJoin t c =
    let known = c.requires.ready.lens_node in
    let s = shown_join c.node-read.ensures c.in-LensJoin.is in
    let cut_is = c.cut_sheet-cut.ensures in
    omega (arith, at_inside known s c.requires.new_given cut_is, left_back known s c.requires.new_given cut_is c.create-done.new.path (search rules))

pub create-slice_bounds-track-end-in-LensJoin : goal.create-slice_bounds-track-end-in-LensJoin
create-slice_bounds-track-end-in-LensJoin t c =
    let known = c.requires.ready.lens_node in
    let s = shown_join c.node-read.ensures c.in-LensJoin.is in
    let cut_is = c.cut_sheet-cut.ensures in
    omega (arith, at_inside known s c.requires.new_given cut_is, left_back known s c.requires.new_given cut_is c.create-done.new.path (search rules))

pub create-create-requires : goal.create-create-requires
create-create-requires t c =
    let known = c.requires.ready.lens_node in
    let s = shown_join c.node-read.ensures c.in-LensJoin.is in
    let cut_is = c.cut_sheet-cut.ensures in
    let near = near_known known s c.requires.new_given cut_is in
    let left = behind_left c.requires.ready.looks_in.over c.requires.within_buffer.0 (c.create-done.ensures.writes near.tree near.tree_is) in (omega (arith, c.decreases, halves_lower known s c.requires.new_given cut_is), (ready_left c.requires.ready (far_known known s c.requires.new_given cut_is) left.over left.same_entries, (far_given known s c.requires.new_given cut_is c.create-done.new.path (search rules), (left.within, (search rules) ∙ c.requires.within_buffer.1))))

pub create-choose_new-arm-requires : goal.create-choose_new-arm-requires
create-choose_new-arm-requires t c =
    let known = c.requires.ready.lens_node in
    let s = shown_union c.node-read.ensures c.in-LensUnion.is in
    (node_prepared (left_below known s) Sheet, omega (arith, c.requires.new_given.parsed.few))

pub create-create-requires-in-LensUnion : goal.create-create-requires-in-LensUnion
create-create-requires-in-LensUnion t c =
    let s = shown_union c.node-read.ensures c.in-LensUnion.is in
    let arm = new_arm c.requires.ready.lens_node s c.requires.new_given c.choose_new-arm.ensures in (omega (arith, c.decreases, arm.lower), (arm_ready arm c.requires.ready, (arm_given arm c.requires.new_given, c.requires.within_buffer)))

pub create-write_repeat-requires : goal.create-write_repeat-requires
create-write_repeat-requires t c = (omega (arith, c.decreases), (c.requires.ready, (shown_repeat c.node-read.ensures c.in-LensRepeat.is, (given_none c.requires.new_given, c.requires.within_buffer))))

pub create-write_match-requires : goal.create-write_match-requires
create-write_match-requires t c =
    let s = shown_match c.node-read.ensures c.in-Match.is in (omega (arith, c.decreases, s.lower), (ready_below c.requires.ready (child_below c.requires.ready.lens_node s), ((given_match c.requires.new_given s, inner_flat c.requires.ready.lens_node s), c.requires.within_buffer)))

pub create-plain_behind-requires-in_default : goal.create-plain_behind-requires-in_default
create-plain_behind-requires-in_default t c = record { ready = c.requires.ready; given_old = given_none c.requires.new_given; within_buffer = (c.requires.within_buffer.0, leaf_asks_none c.requires.ready.lens_node c.node-read.ensures c.requires.ready.below_is (record { not_join = c.in_default.not-LensJoin; not_union = c.in_default.not-LensUnion; not_repeat = c.in_default.not-LensRepeat; not_match = c.in_default.not-Match })) }

pub create-returns-in-LensJoin : goal.create-returns-in-LensJoin
create-returns-in-LensJoin t c =
    let known = c.requires.ready.lens_node in
    let s = shown_join c.node-read.ensures c.in-LensJoin.is in
    let cut_is = c.cut_sheet-cut.ensures in
    join_created known s c.requires.new_given cut_is c.create-done.ensures c.create.ensures

pub create-returns-in-LensUnion : goal.create-returns-in-LensUnion
create-returns-in-LensUnion t c =
    let s = shown_union c.node-read.ensures c.in-LensUnion.is in
    union_writes s (new_arm c.requires.ready.lens_node s c.requires.new_given c.choose_new-arm.ensures) c.create-in-LensUnion.ensures

pub create-returns-in-LensRepeat : goal.create-returns-in-LensRepeat
unfolding old_text
create-returns-in-LensRepeat t c = c.write_repeat.ensures

pub create-returns-in-Match : goal.create-returns-in-Match
create-returns-in-Match t c =
    let s = shown_match c.node-read.ensures c.in-Match.is in
    at_node (match _ s.child) s.tree_is (c.write_match.ensures.writes s.child s.at_child _)

pub create-returns-in_default : goal.create-returns-in_default
unfolding old_text
create-returns-in_default t c = c.plain_behind-in_default.ensures

pub put-asks_none-requires : goal.put-asks_none-requires
put-asks_none-requires t c = below_room c.requires.ready

pub put-plain_behind-requires : goal.put-plain_behind-requires
put-plain_behind-requires t c = record { ready = c.requires.ready; given_old = given_onto c.requires.given; within_buffer = (c.requires.within_buffer.0, record { none_shared = c.asks_none.ensures.0 c.if-asks_none.true }) }

pub put-returns-then-asks_none : goal.put-returns-then-asks_none
unfolding old_text
put-returns-then-asks_none t c = c.plain_behind.ensures

pub put-node-read-requires : goal.put-node-read-requires
put-node-read-requires t c = record { all_sized = c.requires.ready.lens_node.built.sized; k_bound = c.requires.ready.lens_node.inside }

pub put-cut_sheet-cut-requires : goal.put-cut_sheet-cut-requires
put-cut_sheet-cut-requires t c =
    let known = c.requires.ready.lens_node in
    let s = shown_join c.node-read.ensures c.in-LensJoin.is in
    (node_prepared (left_below known s) Sheet, omega (arith, c.requires.given.sheet_given.parsed.few))

pub put-halves_of-halves-requires : goal.put-halves_of-halves-requires
put-halves_of-halves-requires t c =
    let known = c.requires.ready.lens_node in
    let s = shown_join c.node-read.ensures c.in-LensJoin.is in record { prepared = (node_prepared (left_below known s) Source, place_inside c.requires.given.old_parsed); in_bounds = omega (arith, c.requires.given.sheet_given.deck_room) }

pub put-slice_bounds-front-count : goal.put-slice_bounds-front-count
put-slice_bounds-front-count t c =
    let known = c.requires.ready.lens_node in
    let s = shown_join c.node-read.ensures c.in-LensJoin.is in
    omega (arith, at_inside known s c.requires.given.sheet_given c.cut_sheet-cut.ensures)

pub put-slice_bounds-front-start : goal.put-slice_bounds-front-start
put-slice_bounds-front-start t c =
    let known = c.requires.ready.lens_node in
    let s = shown_join c.node-read.ensures c.in-LensJoin.is in
    omega (arith, at_inside known s c.requires.given.sheet_given c.cut_sheet-cut.ensures)

pub put-slice_bounds-front-end : goal.put-slice_bounds-front-end
put-slice_bounds-front-end t c =
    let known = c.requires.ready.lens_node in
    let s = shown_join c.node-read.ensures c.in-LensJoin.is in
    omega (arith, at_inside known s c.requires.given.sheet_given c.cut_sheet-cut.ensures)

pub put-slice_bounds-track-count : goal.put-slice_bounds-track-count
put-slice_bounds-track-count t c =
    let known = c.requires.ready.lens_node in
    let s = shown_join c.node-read.ensures c.in-LensJoin.is in
    omega (arith, at_inside known s c.requires.given.sheet_given c.cut_sheet-cut.ensures)

pub put-slice_bounds-track-start : goal.put-slice_bounds-track-start
put-slice_bounds-track-start t c =
    let known = c.requires.ready.lens_node in
    let s = shown_join c.node-read.ensures c.in-LensJoin.is in
    omega (arith, at_inside known s c.requires.given.sheet_given c.cut_sheet-cut.ensures)

pub put-slice_bounds-track-end : goal.put-slice_bounds-track-end
put-slice_bounds-track-end t c =
    let known = c.requires.ready.lens_node in
    let s = shown_join c.node-read.ensures c.in-LensJoin.is in
    omega (arith, at_inside known s c.requires.given.sheet_given c.cut_sheet-cut.ensures)

pub put-put-done-requires : goal.put-put-done-requires
put-put-done-requires t c =
    let known = c.requires.ready.lens_node in
    let s = shown_join c.node-read.ensures c.in-LensJoin.is in
    let cut_is = c.cut_sheet-cut.ensures in (omega (arith, c.decreases, halves_lower known s c.requires.given.sheet_given cut_is), (ready_below c.requires.ready (near_known known s c.requires.given.sheet_given cut_is), (record { sheet_given = near_given known s c.requires.given.sheet_given cut_is; old_parsed = near_old known s c.requires.given.sheet_given cut_is c.requires.given.old_parsed c.halves_of-halves.ensures }, c.requires.within_buffer)))

pub put-slice_bounds-back-count : goal.put-slice_bounds-back-count
put-slice_bounds-back-count t c =
    let known = c.requires.ready.lens_node in
    let s = shown_join c.node-read.ensures c.in-LensJoin.is in
    omega (arith, at_inside known s c.requires.given.sheet_given c.cut_sheet-cut.ensures)

pub put-slice_bounds-back-start : goal.put-slice_bounds-back-start
put-slice_bounds-back-start t c =
    let known = c.requires.ready.lens_node in
    let s = shown_join c.node-read.ensures c.in-LensJoin.is in
    omega (arith, at_inside known s c.requires.given.sheet_given c.cut_sheet-cut.ensures)

pub put-slice_bounds-back-end : goal.put-slice_bounds-back-end
put-slice_bounds-back-end t c =
    let known = c.requires.ready.lens_node in
    let s = shown_join c.node-read.ensures c.in-LensJoin.is in
    omega (arith, at_inside known s c.requires.given.sheet_given c.cut_sheet-cut.ensures)

pub put-slice_bounds-track-count-in-LensJoin : goal.put-slice_bounds-track-count-in-LensJoin
put-slice_bounds-track-count-in-LensJoin t c =
    let known = c.requires.ready.lens_node in
    let s = shown_join c.node-read.ensures c.in-LensJoin.is in
    let cut_is = c.cut_sheet-cut.ensures in
    omega (arith, at_inside known s c.requires.given.sheet_given cut_is, left_back known s c.requires.given.sheet_given cut_is c.put-done.new.path (search rules))

pub put-slice_bounds-track-start-in-LensJoin : goal.put-slice_bounds-track-start-in-LensJoin
put-slice_bounds-track-start-in-LensJoin t c =
    let known = c.requires.ready.lens_node in
    let s = shown_join c.node-read.ensures c.in-LensJoin.is in
    let cut_is = c.cut_sheet-cut.ensures in
    omega (arith, at_inside known s c.requires.given.sheet_given cut_is, left_back known s c.requires.given.sheet_given cut_is c.put-done.new.path (search rules))

pub put-slice_bounds-track-end-in-LensJoin : goal.put-slice_bounds-track-end-in-LensJoin
put-slice_bounds-track-end-in-LensJoin t c =
    let known = c.requires.ready.lens_node in
    let s = shown_join c.node-read.ensures c.in-LensJoin.is in
    let cut_is = c.cut_sheet-cut.ensures in
    omega (arith, at_inside known s c.requires.given.sheet_given cut_is, left_back known s c.requires.given.sheet_given cut_is c.put-done.new.path (search rules))

pub put-put-requires : goal.put-put-requires
put-put-requires t c =
    let known = c.requires.ready.lens_node in
    let s = shown_join c.node-read.ensures c.in-LensJoin.is in
    let cut_is = c.cut_sheet-cut.ensures in
    let near = near_known known s c.requires.given.sheet_given cut_is in
    let left = behind_left c.requires.ready.looks_in.over c.requires.within_buffer.0 (c.put-done.ensures.writes near.tree near.tree_is) in (omega (arith, c.decreases, halves_lower known s c.requires.given.sheet_given cut_is), (ready_left c.requires.ready (far_known known s c.requires.given.sheet_given cut_is) left.over left.same_entries, (record { sheet_given = far_given known s c.requires.given.sheet_given cut_is c.put-done.new.path (search rules); old_parsed = far_old known s c.requires.given.sheet_given cut_is c.requires.given.old_parsed c.halves_of-halves.ensures }, (left.within, (search rules) ∙ c.requires.within_buffer.1))))

pub put-choose-choice-requires : goal.put-choose-choice-requires
put-choose-choice-requires t c =
    let known = c.requires.ready.lens_node in
    let s = shown_union c.node-read.ensures c.in-LensUnion.is in record { prepared = (node_prepared (left_below known s) Source, node_prepared (left_below known s) Sheet, node_prepared (right_below known s) Sheet); base_bound = (omega (arith, c.requires.given.sheet_given.parsed.few), place_inside c.requires.given.old_parsed, c.requires.given.sheet_given.deck_room); len_bound = (c.requires.given.sheet_given.new_short, parsed_length c.requires.given.sheet_given.parsed) }

pub put-put-requires-in-Some : goal.put-put-requires-in-Some
put-put-requires-in-Some t c =
    let s = shown_union c.node-read.ensures c.in-LensUnion.is in
    let arm = choice_arm c.requires.ready.lens_node s c.requires.given c.choose-choice.ensures in
    let given = choice_given c.requires.ready.lens_node s c.requires.given c.choose-choice.ensures in (omega (arith, c.decreases, arm.lower), (arm_ready arm c.requires.ready, (given_at given c.in-Some.is, c.requires.within_buffer)))

pub put-create-requires : goal.put-create-requires
put-create-requires t c =
    let s = shown_union c.node-read.ensures c.in-LensUnion.is in
    let arm = choice_arm c.requires.ready.lens_node s c.requires.given c.choose-choice.ensures in (omega (arith, c.decreases, arm.lower), (arm_ready arm c.requires.ready, (arm_given arm c.requires.given.sheet_given, c.requires.within_buffer)))

pub put-write_repeat-requires : goal.put-write_repeat-requires
put-write_repeat-requires t c = (omega (arith, c.decreases), (c.requires.ready, (shown_repeat c.node-read.ensures c.in-LensRepeat.is, (given_onto c.requires.given, c.requires.within_buffer))))

pub put-write_match-requires : goal.put-write_match-requires
put-write_match-requires t c =
    let s = shown_match c.node-read.ensures c.in-Match.is in (omega (arith, c.decreases, s.lower), (ready_below c.requires.ready (child_below c.requires.ready.lens_node s), ((given_match c.requires.given.sheet_given s, inner_flat c.requires.ready.lens_node s), c.requires.within_buffer)))

pub put-plain_behind-requires-in_default : goal.put-plain_behind-requires-in_default
put-plain_behind-requires-in_default t c = record { ready = c.requires.ready; given_old = given_onto c.requires.given; within_buffer = (c.requires.within_buffer.0, leaf_asks_none c.requires.ready.lens_node c.node-read.ensures c.requires.ready.below_is (record { not_join = c.in_default.not-LensJoin; not_union = c.in_default.not-LensUnion; not_repeat = c.in_default.not-LensRepeat; not_match = c.in_default.not-Match })) }

pub put-returns-in-LensJoin : goal.put-returns-in-LensJoin
put-returns-in-LensJoin t c =
    let known = c.requires.ready.lens_node in
    let s = shown_join c.node-read.ensures c.in-LensJoin.is in
    let cut_is = c.cut_sheet-cut.ensures in
    join_put known s c.requires.given.sheet_given cut_is c.requires.given.old_parsed c.halves_of-halves.ensures c.put-done.ensures c.put.ensures

pub put-returns-in-Some : goal.put-returns-in-Some
put-returns-in-Some t c =
    let s = shown_union c.node-read.ensures c.in-LensUnion.is in
    union_writes s (choice_arm c.requires.ready.lens_node s c.requires.given c.choose-choice.ensures) (old_put c.in-Some.is c.put-in-Some.ensures)

pub put-returns-in-None : goal.put-returns-in-None
put-returns-in-None t c =
    let s = shown_union c.node-read.ensures c.in-LensUnion.is in
    union_writes s (choice_arm c.requires.ready.lens_node s c.requires.given c.choose-choice.ensures) (old_created c.in-None.is c.create.ensures)

pub put-returns-in-LensRepeat : goal.put-returns-in-LensRepeat
unfolding old_text
put-returns-in-LensRepeat t c = c.write_repeat.ensures

pub put-returns-in-Match : goal.put-returns-in-Match
put-returns-in-Match t c =
    let s = shown_match c.node-read.ensures c.in-Match.is in
    at_node (match _ s.child) s.tree_is (c.write_match.ensures.writes s.child s.at_child _)

pub put-returns-in_default : goal.put-returns-in_default
unfolding old_text
put-returns-in_default t c = c.plain_behind-in_default.ensures

pub write_match-find_entry-lookup-requires : goal.write_match-find_entry-lookup-requires
write_match-find_entry-lookup-requires t c = record { lens_node = c.requires.ready.lens_node; new_given = c.requires.new_given.0; looks_in = (c.requires.ready.looks_in, c.requires.within_buffer.1) }

pub write_match-put-requires : goal.write_match-put-requires
write_match-put-requires t c = (omega (arith, c.decreases), (found_ready c.requires.ready c.find_entry-lookup.ensures, (given_at (found_given c.requires.ready c.find_entry-lookup.ensures c.requires.new_given.0) c.in-Some.is, (c.requires.within_buffer.0, (search rules) ∙ c.requires.within_buffer.1))))

pub write_match-create-requires : goal.write_match-create-requires
write_match-create-requires t c = (omega (arith, c.decreases), (found_ready c.requires.ready c.find_entry-lookup.ensures, (c.requires.new_given.0, (c.requires.within_buffer.0, (search rules) ∙ c.requires.within_buffer.1))))

pub write_match-returns-in-Some : goal.write_match-returns-in-Some
write_match-returns-in-Some t c = match_writes c.find_entry-lookup.ensures c.wrapping_add_usize.ensures.value (inner_met _ _ c.requires.new_given.1) (old_put c.in-Some.is c.put.ensures)

pub write_match-returns-in-None : goal.write_match-returns-in-None
write_match-returns-in-None t c = match_writes c.find_entry-lookup.ensures c.wrapping_add_usize.ensures.value (inner_met _ _ c.requires.new_given.1) (old_created c.in-None.is c.create.ensures)

pub write_parts-ends_of-olds-requires : goal.write_parts-ends_of-olds-requires
write_parts-ends_of-olds-requires t c = node_words (child_below c.requires.ready.lens_node c.requires.one_lens)

pub write_parts-loop-o-init : goal.write_parts-loop-o-init
write_parts-loop-o-init t c =
    let given = c.requires.given_old in (
      parting_begins
          c.requires.ready.lens_node
          c.requires.one_lens
          given.sheet_given.parsed
          c.requires.ends_are
          given.old_fits
          (old_ends (rw c.old_base.ensures at c.ends_of-olds.ensures))
          c.requires.ready.looks_in.over
          c.requires.within_buffer.0,
      refl,
      refl,
      refl,
    )

pub write_parts-slice_bounds-first_loop-count : goal.write_parts-slice_bounds-first_loop-count
write_parts-slice_bounds-first_loop-count t c = omega (arith, more_path c.loop-o.invariant.0 c.loop-o-test.true)

pub write_parts-slice_bounds-first_loop-start : goal.write_parts-slice_bounds-first_loop-start
write_parts-slice_bounds-first_loop-start t c = omega (arith, more_path c.loop-o.invariant.0 c.loop-o-test.true)

pub write_parts-slice_bounds-first_loop-end : goal.write_parts-slice_bounds-first_loop-end
write_parts-slice_bounds-first_loop-end t c = omega (arith, more_path c.loop-o.invariant.0 c.loop-o-test.true)

pub write_parts-first_loop-requires : goal.write_parts-first_loop-requires
write_parts-first_loop-requires t c = more_lent c.loop-o.invariant.0 c.loop-o-test.true

pub write_parts-overflow_add-e : goal.write_parts-overflow_add-e
write_parts-overflow_add-e t c = omega (arith, part_inside c.loop-o.invariant.0 c.loop-o-test.true c.first_loop.ensures, c.requires.given_old.sheet_given.new_short)

pub write_parts-next_old-next-requires : goal.write_parts-next_old-next-requires
write_parts-next_old-next-requires t c = (old_inside c.loop-o.invariant.0.left_fits, omega (arith, c.requires.ready.looks_in.deck_room))

pub write_parts-slice_bounds-piece-count : goal.write_parts-slice_bounds-piece-count
write_parts-slice_bounds-piece-count t c = omega (arith, part_inside c.loop-o.invariant.0 c.loop-o-test.true c.first_loop.ensures)

pub write_parts-slice_bounds-piece-start : goal.write_parts-slice_bounds-piece-start
write_parts-slice_bounds-piece-start t c = omega (arith, part_inside c.loop-o.invariant.0 c.loop-o-test.true c.first_loop.ensures)

pub write_parts-slice_bounds-piece-end : goal.write_parts-slice_bounds-piece-end
write_parts-slice_bounds-piece-end t c = omega (arith, part_inside c.loop-o.invariant.0 c.loop-o-test.true c.first_loop.ensures)

pub write_parts-slice_bounds-track-count : goal.write_parts-slice_bounds-track-count
write_parts-slice_bounds-track-count t c = omega (arith, part_inside c.loop-o.invariant.0 c.loop-o-test.true c.first_loop.ensures)

pub write_parts-slice_bounds-track-start : goal.write_parts-slice_bounds-track-start
write_parts-slice_bounds-track-start t c = omega (arith, part_inside c.loop-o.invariant.0 c.loop-o-test.true c.first_loop.ensures)

pub write_parts-slice_bounds-track-end : goal.write_parts-slice_bounds-track-end
write_parts-slice_bounds-track-end t c = omega (arith, part_inside c.loop-o.invariant.0 c.loop-o-test.true c.first_loop.ensures)

pub write_parts-put-done-requires : goal.write_parts-put-done-requires
write_parts-put-done-requires t c =
    let parting = c.loop-o.invariant.0 in
    let one = c.requires.one_lens in
    let given = c.requires.given_old.sheet_given in
    let sheet = part_given parting c.loop-o-test.true c.first_loop.ensures given in (omega (arith, c.decreases, one.lower), (ready_left c.requires.ready (child_below c.requires.ready.lens_node one) parting.kept.over parting.kept.same_entries, (given_at (record { sheet_given = sheet; old_fits = part_old parting given.deck_room c.next_old-next.ensures }) c.in-Some.is, (parting.kept.within, c.loop-o.invariant.2 ∙ c.requires.within_buffer.1))))

pub write_parts-create-done-requires : goal.write_parts-create-done-requires
write_parts-create-done-requires t c =
    let parting = c.loop-o.invariant.0 in
    let one = c.requires.one_lens in
    let given = c.requires.given_old.sheet_given in
    let sheet = part_given parting c.loop-o-test.true c.first_loop.ensures given in (omega (arith, c.decreases, one.lower), (ready_left c.requires.ready (child_below c.requires.ready.lens_node one) parting.kept.over parting.kept.same_entries, (sheet, (parting.kept.within, c.loop-o.invariant.2 ∙ c.requires.within_buffer.1))))

pub write_parts-loop-o-smaller-in-Some : goal.write_parts-loop-o-smaller-in-Some
write_parts-loop-o-smaller-in-Some t c = omega (arith, part_inside c.loop-o.invariant.0 c.loop-o-test.true c.first_loop.ensures)

pub write_parts-loop-o-preserved-in-Some : goal.write_parts-loop-o-preserved-in-Some
write_parts-loop-o-preserved-in-Some t c =
    let parting = c.loop-o.invariant.0 in
    let more = c.loop-o-test.true in
    let part = c.put-done.new.path in (
      parting_next parting part c.requires.given_old.sheet_given.deck_room more c.first_loop.ensures c.next_old-next.ensures (old_put c.in-Some.is c.put-done.ensures) (search rules),
      part_back parting more c.first_loop.ensures part (search rules) ∙ c.loop-o.invariant.1,
      (search rules) ∙ c.loop-o.invariant.2,
      (search rules) ∙ c.loop-o.invariant.3,
    )

pub write_parts-loop-o-smaller : goal.write_parts-loop-o-smaller
write_parts-loop-o-smaller t c = omega (arith, part_inside c.loop-o.invariant.0 c.loop-o-test.true c.first_loop.ensures)

pub write_parts-loop-o-preserved : goal.write_parts-loop-o-preserved
write_parts-loop-o-preserved t c =
    let parting = c.loop-o.invariant.0 in
    let more = c.loop-o-test.true in
    let part = c.create-done.new.path in (
      parting_next parting part c.requires.given_old.sheet_given.deck_room more c.first_loop.ensures c.next_old-next.ensures (old_created c.in-None.is c.create-done.ensures) (search rules),
      part_back parting more c.first_loop.ensures part (search rules) ∙ c.loop-o.invariant.1,
      (search rules) ∙ c.loop-o.invariant.2,
      (search rules) ∙ c.loop-o.invariant.3,
    )

pub write_parts-shape_of-path : goal.write_parts-shape_of-path
write_parts-shape_of-path t c = c.loop-o.invariant.1

pub write_parts-returns : goal.write_parts-returns
write_parts-returns t c = parting_ends c.loop-o.invariant.0 c.requires.one_lens (omega (arith, c.loop-o-test.false))

pub write_repeat-ends_of-ends-requires : goal.write_repeat-ends_of-ends-requires
write_repeat-ends_of-ends-requires t c = node_words (child_below c.requires.ready.lens_node c.requires.one_lens)

pub write_repeat-node-read-requires : goal.write_repeat-node-read-requires
write_repeat-node-read-requires t c =
    let known = child_below c.requires.ready.lens_node c.requires.one_lens in record { all_sized = known.built.sized; k_bound = known.inside }

pub write_repeat-write_matches-requires : goal.write_repeat-write_matches-requires
write_repeat-write_matches-requires t c = record { ready = c.requires.ready; one_lens = c.requires.one_lens; one_lens_2 = (shown_match c.node-read.ensures c.in-Match.is, refl); ends_are = c.ends_of-ends.ensures; new_given = c.requires.given_old.sheet_given; within_buffer = c.requires.within_buffer }

pub write_repeat-returns-in-Match : goal.write_repeat-returns-in-Match
write_repeat-returns-in-Match t c = c.write_matches.ensures.writes _

pub write_repeat-write_parts-requires : goal.write_repeat-write_parts-requires
write_repeat-write_parts-requires t c = (omega (arith, c.decreases), (c.requires.ready, (c.requires.one_lens, (c.ends_of-ends.ensures, (c.requires.given_old, c.requires.within_buffer)))))

pub write_repeat-returns : goal.write_repeat-returns
write_repeat-returns t c = c.write_parts.ensures
