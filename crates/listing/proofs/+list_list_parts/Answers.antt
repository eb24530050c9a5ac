-- `listing::list` and `list_parts` meet their contracts: a cycle of calls, whose measure is twice the node's number. Arms, cuts
-- and parts are read off the least path of the text. The loop's invariant: the entries of the parts passed are listed, and what is left of
-- the text, from o on, is parsed as the repeat itself. Assumes nothing.
use mathlib.Core.Path.{refl}
use Prim.Native.Nat.{◌+◌}
use native.Mathlib.Omega.{arith}
use native.Mathlib.Nat.{lt_trans}
use lib.ListN.{length}
use borrow.Author.Tests.{not-true}
use Rattle.lens.specs.Nodes.{shown_match, shown_union, shown_join, shown_repeat}
use Rattle.lens.specs.Parsed.{parsed_join}
use Rattle.listing.specs.Listing.{to_list_part, lists_as, lists_some, lists_many, lists_none}
use Rattle.listing.proofs.NodeEntries.{node_small, node_words, no_match, leaf_entries, match_entries, repeat_entries_lem}
use Rattle.listing.proofs.Pieces.{arms_few, arm_left, arm_right, halves_few, join_halves, join_over, join_next}
use Rattle.listing.proofs.RepeatEntries.{repeated_begin, path_reaches, path_left, turn, repeated_next, repeated_over, repeated_ends}
use Rattle.listing.proofs.+list_list_parts.Goals as goal

pub list-returns-then-not-read : goal.list-returns-then-not-read
list-returns-then-not-read t c =
    let none = no_match c.node-read.ensures c.args.text.now (not-true c.node-read.result.holds_match c.if-not-read.true) in
    lists_as none (lists_some (lists_none _ _ _ _ _ c.requires.to_list.sized c.requires.to_list.few))

pub list-list_match-requires : goal.list-list_match-requires
list-list_match-requires t c =
    let lower = (shown_match c.node-read.ensures c.in-Match.is).lower in
    let small = node_small c.requires.to_list.built c.requires.node_bound in record { child_bound = (omega (arith, lower, small), omega (arith, c.requires.parsed.few), c.requires.to_list.place_small); sized = (c.requires.to_list.sized, c.requires.to_list.few) }

pub list-automaton_of-a-requires : goal.list-automaton_of-a-requires
list-automaton_of-a-requires t c =
    let shown = shown_union c.node-read.ensures c.in-LensUnion.is in
    node_words c.requires.to_list.built (lt_trans shown.left_lower c.requires.node_bound)

pub list-overflow_add-mid : goal.list-overflow_add-mid
list-overflow_add-mid t c =
    let shown = shown_union c.node-read.ensures c.in-LensUnion.is in
    omega (arith, arms_few c.requires.to_list.built c.requires.node_bound c.requires.parsed shown c.automaton_of-a.ensures)

pub list-list-requires : goal.list-list-requires
list-list-requires t c =
    let shown = shown_union c.node-read.ensures c.in-LensUnion.is in
    let arm = arm_left c.requires.to_list.built c.requires.node_bound c.requires.parsed shown c.automaton_of-a.ensures c.goes_left.ensures c.if-goes_left.true in (omega (arith, shown.left_lower, c.decreases), (c.requires.to_list, (lt_trans shown.left_lower c.requires.node_bound, arm.parsed)))

pub list-returns-then-goes_left : goal.list-returns-then-goes_left
list-returns-then-goes_left t c =
    let shown = shown_union c.node-read.ensures c.in-LensUnion.is in
    let arm = arm_left c.requires.to_list.built c.requires.node_bound c.requires.parsed shown c.automaton_of-a.ensures c.goes_left.ensures c.if-goes_left.true in
    lists_as arm.entries_are c.list.ensures

pub list-list-requires-in-LensUnion : goal.list-list-requires-in-LensUnion
list-list-requires-in-LensUnion t c =
    let shown = shown_union c.node-read.ensures c.in-LensUnion.is in
    let arm = arm_right c.requires.to_list.built c.requires.node_bound c.requires.parsed shown c.automaton_of-a.ensures c.goes_left.ensures c.if-goes_left.false in (omega (arith, shown.right_lower, c.decreases), (c.requires.to_list, (lt_trans shown.right_lower c.requires.node_bound, arm.parsed)))

pub list-automaton_of-a-requires-in-LensJoin : goal.list-automaton_of-a-requires-in-LensJoin
list-automaton_of-a-requires-in-LensJoin t c =
    let shown = shown_join c.node-read.ensures c.in-LensJoin.is in
    node_words c.requires.to_list.built (lt_trans shown.left_lower c.requires.node_bound)

pub list-overflow_add-mid-in-LensJoin : goal.list-overflow_add-mid-in-LensJoin
list-overflow_add-mid-in-LensJoin t c =
    let shown = shown_join c.node-read.ensures c.in-LensJoin.is in
    omega (arith, halves_few c.requires.to_list.built c.requires.node_bound (parsed_join c.requires.parsed shown) shown c.automaton_of-a-in-LensJoin.ensures)

pub list-slice_bounds-front-end : goal.list-slice_bounds-front-end
list-slice_bounds-front-end t c = (join_halves c.requires.to_list.built c.requires.node_bound c.requires.parsed c.node-read.ensures c.in-LensJoin.is c.automaton_of-a-in-LensJoin.ensures c.border-i.ensures).within

pub list-slice_bounds-list-end : goal.list-slice_bounds-list-end
list-slice_bounds-list-end t c = (join_halves c.requires.to_list.built c.requires.node_bound c.requires.parsed c.node-read.ensures c.in-LensJoin.is c.automaton_of-a-in-LensJoin.ensures c.border-i.ensures).path_within

pub list-list-requires-in-LensJoin : goal.list-list-requires-in-LensJoin
list-list-requires-in-LensJoin t c =
    let shown = shown_join c.node-read.ensures c.in-LensJoin.is in
    let halves = join_halves c.requires.to_list.built c.requires.node_bound c.requires.parsed c.node-read.ensures c.in-LensJoin.is c.automaton_of-a-in-LensJoin.ensures c.border-i.ensures in
    let i = c.border-i.result in
    let part = to_list_part c.requires.to_list 0 i c.args.at (omega arith) halves.within (omega arith) c.requires.to_list.sized c.requires.to_list.few in (omega (arith, shown.left_lower, c.decreases), (part, (lt_trans shown.left_lower c.requires.node_bound, halves.parsed_left)))

pub list-slice_bounds-back-count : goal.list-slice_bounds-back-count
list-slice_bounds-back-count t c = (join_halves c.requires.to_list.built c.requires.node_bound c.requires.parsed c.node-read.ensures c.in-LensJoin.is c.automaton_of-a-in-LensJoin.ensures c.border-i.ensures).within

pub list-slice_bounds-back-start : goal.list-slice_bounds-back-start
list-slice_bounds-back-start t c = (join_halves c.requires.to_list.built c.requires.node_bound c.requires.parsed c.node-read.ensures c.in-LensJoin.is c.automaton_of-a-in-LensJoin.ensures c.border-i.ensures).within

pub list-slice_bounds-list-count-in-LensJoin : goal.list-slice_bounds-list-count-in-LensJoin
list-slice_bounds-list-count-in-LensJoin t c = (join_halves c.requires.to_list.built c.requires.node_bound c.requires.parsed c.node-read.ensures c.in-LensJoin.is c.automaton_of-a-in-LensJoin.ensures c.border-i.ensures).path_within

pub list-slice_bounds-list-start-in-LensJoin : goal.list-slice_bounds-list-start-in-LensJoin
list-slice_bounds-list-start-in-LensJoin t c = (join_halves c.requires.to_list.built c.requires.node_bound c.requires.parsed c.node-read.ensures c.in-LensJoin.is c.automaton_of-a-in-LensJoin.ensures c.border-i.ensures).path_within

pub list-overflow_add-at : goal.list-overflow_add-at
list-overflow_add-at t c =
    omega (arith, c.requires.to_list.place_small, (join_halves c.requires.to_list.built c.requires.node_bound c.requires.parsed c.node-read.ensures c.in-LensJoin.is c.automaton_of-a-in-LensJoin.ensures c.border-i.ensures).within)

pub list-list-requires-in-LensJoin-2 : goal.list-list-requires-in-LensJoin-2
list-list-requires-in-LensJoin-2 t c =
    let shown = shown_join c.node-read.ensures c.in-LensJoin.is in
    let halves = join_halves c.requires.to_list.built c.requires.node_bound c.requires.parsed c.node-read.ensures c.in-LensJoin.is c.automaton_of-a-in-LensJoin.ensures c.border-i.ensures in
    let i = c.border-i.result in
    let first = c.list-in-LensJoin.ensures.listed_into _ c.in_ok-more-in-LensJoin.was in
    let part = to_list_part c.requires.to_list i (length c.args.text.now) (c.args.at + i) halves.within (omega arith) refl first.sized first.few in (omega (arith, shown.right_lower, c.decreases), (part, (lt_trans shown.right_lower c.requires.node_bound, halves.parsed_right)))

pub list-list_parts-requires : goal.list-list_parts-requires
list-list_parts-requires t c =
    let shown = shown_repeat c.node-read.ensures c.in-LensRepeat.is in (omega (arith, c.decreases), (c.requires.to_list, ((shown.lower, c.requires.node_bound), (shown, c.requires.parsed))))

pub list-returns-in-Match : goal.list-returns-in-Match
list-returns-in-Match t c =
    match_entries (shown_match c.node-read.ensures c.in-Match.is) c.requires.parsed c.list_match.ensures

pub list-returns-else-goes_left : goal.list-returns-else-goes_left
list-returns-else-goes_left t c =
    let shown = shown_union c.node-read.ensures c.in-LensUnion.is in
    let arm = arm_right c.requires.to_list.built c.requires.node_bound c.requires.parsed shown c.automaton_of-a.ensures c.goes_left.ensures c.if-goes_left.false in
    lists_as arm.entries_are c.list-in-LensUnion.ensures

pub list-returns-in-LensRepeat : goal.list-returns-in-LensRepeat
list-returns-in-LensRepeat t c =
    lists_as (repeat_entries_lem c.node-read.ensures c.args.text.now c.in-LensRepeat.is) c.list_parts.ensures

pub list-returns-in_default : goal.list-returns-in_default
list-returns-in_default t c =
    let none = leaf_entries c.node-read.ensures c.args.text.now c.in_default.not-LensJoin c.in_default.not-LensUnion c.in_default.not-LensRepeat c.in_default.not-Match in
    lists_as none (lists_some (lists_none _ _ _ _ _ c.requires.to_list.sized c.requires.to_list.few))

pub list_parts-list_matches-requires : goal.list_parts-list_matches-requires
list_parts-list_matches-requires t c = record { to_list = c.requires.to_list; child_lt_node = c.requires.child_lt_node; one_lens = c.requires.one_lens; one_lens_2 = shown_match c.node-read.ensures c.in-Match.is; parsed = c.requires.parsed }

pub list_parts-returns-in-Match : goal.list_parts-returns-in-Match
list_parts-returns-in-Match t c = c.list_matches.ensures

pub list_parts-automaton_of-part-requires : goal.list_parts-automaton_of-part-requires
list_parts-automaton_of-part-requires t c =
    node_words c.requires.to_list.built (lt_trans c.requires.child_lt_node.0 c.requires.child_lt_node.1)

pub list_parts-loop-o-init : goal.list_parts-loop-o-init
list_parts-loop-o-init t c =
    repeated_begin c.requires.to_list c.requires.child_lt_node.1 c.requires.parsed c.requires.one_lens c.automaton_of-part.ensures c.ends_of-ends.ensures

pub list_parts-slice_bounds-first_loop-count : goal.list_parts-slice_bounds-first_loop-count
list_parts-slice_bounds-first_loop-count t c = path_reaches c.loop-o.invariant

pub list_parts-slice_bounds-first_loop-start : goal.list_parts-slice_bounds-first_loop-start
list_parts-slice_bounds-first_loop-start t c = path_reaches c.loop-o.invariant

pub list_parts-first_loop-requires : goal.list_parts-first_loop-requires
list_parts-first_loop-requires t c = path_left c.loop-o.invariant c.loop-o-test.true

pub list_parts-overflow_add-e : goal.list_parts-overflow_add-e
list_parts-overflow_add-e t c =
    omega (arith, (turn c.loop-o.invariant c.requires.one_lens c.loop-o-test.true c.first_loop.ensures).within, c.requires.to_list.place_small)

pub list_parts-slice_bounds-cut-end : goal.list_parts-slice_bounds-cut-end
list_parts-slice_bounds-cut-end t c = (turn c.loop-o.invariant c.requires.one_lens c.loop-o-test.true c.first_loop.ensures).within

pub list_parts-slice_bounds-list-end : goal.list_parts-slice_bounds-list-end
list_parts-slice_bounds-list-end t c = (turn c.loop-o.invariant c.requires.one_lens c.loop-o-test.true c.first_loop.ensures).on_path

pub list_parts-overflow_add-at : goal.list_parts-overflow_add-at
list_parts-overflow_add-at t c =
    omega (arith, c.requires.to_list.place_small, (turn c.loop-o.invariant c.requires.one_lens c.loop-o-test.true c.first_loop.ensures).within)

pub list_parts-list-requires : goal.list_parts-list-requires
list_parts-list-requires t c =
    let found = turn c.loop-o.invariant c.requires.one_lens c.loop-o-test.true c.first_loop.ensures in
    let known = c.loop-o.invariant.lists_done in
    let end = c.loop-o.o + c.first_loop.result in
    let part = to_list_part c.requires.to_list c.loop-o.o end (c.args.at + c.loop-o.o) (omega arith) found.within refl known.sized known.few in
    let lower = c.requires.child_lt_node in (omega (arith, c.decreases, lower.0), (part, (lt_trans lower.0 lower.1, found.parsed)))

pub list_parts-loop-o-smaller : goal.list_parts-loop-o-smaller
list_parts-loop-o-smaller t c =
    let found = turn c.loop-o.invariant c.requires.one_lens c.loop-o-test.true c.first_loop.ensures in
    omega (arith, found.moves, found.within)

pub list_parts-loop-o-preserved : goal.list_parts-loop-o-preserved
list_parts-loop-o-preserved t c = repeated_next c.loop-o.invariant c.requires.one_lens c.loop-o-test.true c.first_loop.ensures c.list.ensures c.in_ok-book.was

pub list_parts-returns : goal.list_parts-returns
list_parts-returns t c = lists_some (repeated_ends c.loop-o.invariant c.loop-o-test.false)

pub list_parts-returns-in_err-book : goal.list_parts-returns-in_err-book
list_parts-returns-in_err-book t c = rw c.from_residual.ensures (repeated_over c.loop-o.invariant c.requires.one_lens c.loop-o-test.true c.first_loop.ensures c.list.ensures c.in_err-book.was)

pub list-returns-in_ok-more-in-LensJoin : goal.list-returns-in_ok-more-in-LensJoin
list-returns-in_ok-more-in-LensJoin t c =
    join_next (join_halves c.requires.to_list.built c.requires.node_bound c.requires.parsed c.node-read.ensures c.in-LensJoin.is c.automaton_of-a-in-LensJoin.ensures c.border-i.ensures) (c.list-in-LensJoin.ensures.listed_into _ c.in_ok-more-in-LensJoin.was) c.list-in-LensJoin-2.ensures

pub list-returns-in_err-more-in-LensJoin : goal.list-returns-in_err-more-in-LensJoin
list-returns-in_err-more-in-LensJoin t c =
    rw c.from_residual.ensures (lists_many (join_over (join_halves c.requires.to_list.built c.requires.node_bound c.requires.parsed c.node-read.ensures c.in-LensJoin.is c.automaton_of-a-in-LensJoin.ensures c.border-i.ensures) (c.list-in-LensJoin.ensures.over c.in_err-more-in-LensJoin.was)))
