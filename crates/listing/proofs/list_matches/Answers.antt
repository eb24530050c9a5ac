-- `listing::list_matches` meets its contract. The loop's invariant: the entries of the parts passed are listed, and what is left of the text, from o on, is parsed as the repeat itself. Assumes nothing.
use mathlib.Core.Path.{refl}
use Prim.Native.Nat.{◌<◌}
use native.Mathlib.Nat.{lt_trans}
use native.Mathlib.Omega.{arith}
use Rattle.listing.specs.Listing.{lists_some}
use Rattle.listing.proofs.NodeEntries.{node_small, node_words}
use Rattle.listing.proofs.RepeatEntries.{repeated_begin, path_reaches, path_left, turn, repeated_next, repeated_over, repeated_ends, part_added, part_full}
use Rattle.listing.proofs.list_matches.Goals as goal

pub automaton_of-part-requires : goal.automaton_of-part-requires
automaton_of-part-requires c =
    node_words c.requires.to_list.built (lt_trans c.requires.child_lt_node.0 c.requires.child_lt_node.1)

pub loop-o-init : goal.loop-o-init
loop-o-init c =
    repeated_begin c.requires.to_list c.requires.child_lt_node.1 c.requires.parsed c.requires.one_lens c.automaton_of-part.ensures c.ends_of-ends.ensures

pub slice_bounds-first_loop-count : goal.slice_bounds-first_loop-count
slice_bounds-first_loop-count c = path_reaches c.loop-o.invariant

pub slice_bounds-first_loop-start : goal.slice_bounds-first_loop-start
slice_bounds-first_loop-start c = path_reaches c.loop-o.invariant

pub first_loop-requires : goal.first_loop-requires
first_loop-requires c = path_left c.loop-o.invariant c.loop-o-test.true

pub overflow_add-e : goal.overflow_add-e
overflow_add-e c =
    let known = c.loop-o.invariant in
    let found = turn known c.requires.one_lens c.loop-o-test.true c.first_loop.ensures in
    omega (arith, found.within, c.requires.to_list.place_small)

pub returns-then-book-eq-ENTRIES : goal.returns-then-book-eq-ENTRIES
returns-then-book-eq-ENTRIES c =
    let known = c.loop-o.invariant in
    let found = turn known c.requires.one_lens c.loop-o-test.true c.first_loop.ensures in
    let full = part_full c.requires.one_lens_2 found known.lists_done.sized c.args.at c.if-book-eq-ENTRIES.true in
    repeated_over known c.requires.one_lens c.loop-o-test.true c.first_loop.ensures full refl

pub overflow_add-book : goal.overflow_add-book
overflow_add-book c =
    let known = c.loop-o.invariant in
    let found = turn known c.requires.one_lens c.loop-o-test.true c.first_loop.ensures in
    omega (arith, found.within, c.requires.to_list.place_small)

pub overflow_cast-book : goal.overflow_cast-book
overflow_cast-book c =
    let known = c.loop-o.invariant in
    let found = turn known c.requires.one_lens c.loop-o-test.true c.first_loop.ensures in
    omega (arith, found.within, c.requires.to_list.place_small)

pub offset_bounds-book-i : goal.offset_bounds-book-i
offset_bounds-book-i c = omega (arith, c.loop-o.invariant.lists_done.few)

pub bounds-book-i : goal.bounds-book-i
bounds-book-i c = omega (arith, c.loop-o.invariant.lists_done.few, c.if-book-eq-ENTRIES.false)

pub overflow_cast-book-in-loop-o : goal.overflow_cast-book-in-loop-o
overflow_cast-book-in-loop-o c =
    let known = c.loop-o.invariant in
    let found = turn known c.requires.one_lens c.loop-o-test.true c.first_loop.ensures in
    omega (arith, found.within, c.requires.to_list.place_small)

pub offset_bounds-book-i-in-loop-o : goal.offset_bounds-book-i-in-loop-o
offset_bounds-book-i-in-loop-o c = omega (arith, c.loop-o.invariant.lists_done.few)

pub bounds-book-i-in-loop-o : goal.bounds-book-i-in-loop-o
bounds-book-i-in-loop-o c = omega (arith, c.loop-o.invariant.lists_done.few, c.if-book-eq-ENTRIES.false)

pub overflow_cast-book-in-loop-o-2 : goal.overflow_cast-book-in-loop-o-2
overflow_cast-book-in-loop-o-2 c = omega (arith, c.requires.parsed.few)

pub bounds-book-i-in-loop-o-2 : goal.bounds-book-i-in-loop-o-2
bounds-book-i-in-loop-o-2 c = omega (arith, c.loop-o.invariant.lists_done.few, c.if-book-eq-ENTRIES.false)

pub overflow_cast-book-in-loop-o-3 : goal.overflow_cast-book-in-loop-o-3
overflow_cast-book-in-loop-o-3 c =
    let small = node_small c.requires.to_list.built c.requires.child_lt_node.1 in
    omega (arith, c.requires.one_lens_2.lower, c.requires.child_lt_node.0, small)

pub bounds-book-i-in-loop-o-3 : goal.bounds-book-i-in-loop-o-3
bounds-book-i-in-loop-o-3 c = omega (arith, c.loop-o.invariant.lists_done.few, c.if-book-eq-ENTRIES.false)

pub bounds-book-i-in-loop-o-4 : goal.bounds-book-i-in-loop-o-4
bounds-book-i-in-loop-o-4 c = omega (arith, c.loop-o.invariant.lists_done.few, c.if-book-eq-ENTRIES.false)

pub with-book-requires : goal.with-book-requires
with-book-requires c =
    let small = node_small c.requires.to_list.built c.requires.child_lt_node.1 in
    omega (arith, c.requires.one_lens_2.lower, c.requires.child_lt_node.0, small)

pub overflow_add-book-in-loop-o : goal.overflow_add-book-in-loop-o
overflow_add-book-in-loop-o c = omega (arith, c.loop-o.invariant.lists_done.few)

pub loop-o-smaller : goal.loop-o-smaller
loop-o-smaller c =
    let known = c.loop-o.invariant in
    let found = turn known c.requires.one_lens c.loop-o-test.true c.first_loop.ensures in
    omega (arith, found.moves, found.within)

pub loop-o-preserved : goal.loop-o-preserved
loop-o-preserved c =
    let known = c.loop-o.invariant in
    let found = turn known c.requires.one_lens c.loop-o-test.true c.first_loop.ensures in
    let few : c.loop-o.book.count < 256 = omega (arith, known.lists_done.few, c.if-book-eq-ENTRIES.false) in
    let more = part_added c.requires.one_lens_2 found known.lists_done.sized c.args.at c.with-book.result few c.with-book.ensures in
    repeated_next known c.requires.one_lens c.loop-o-test.true c.first_loop.ensures more refl

pub returns : goal.returns
returns c = lists_some (repeated_ends c.loop-o.invariant c.loop-o-test.false)
