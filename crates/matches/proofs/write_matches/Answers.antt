use Rattle.matches.proofs.Ready.{looks_left, found_fits, may_take, entry_found}
use Rattle.plains.proofs.Given.{given_match}
use Rattle.matches.proofs.Matching.{match_plain, none_ends, matches_written}
use Rattle.plains.proofs.Parts.{parting_begins, more_path, more_lent, part_inside, part_given, part_back, parting_next, parting_ends}
use Rattle.plains.proofs.Unasked.{inner_flat, inner_unasked}
use Rattle.plains.proofs.Behind.{at_node}
use Rattle.steps.specs.Stepping.{old_none}
use Rattle.lens.specs.Nodes.{child_below}
use Rattle.semantics.specs.Lens.{match}
use Rattle.std.proofs.Common.{refl, ◌∙◌, arith, rules}
use Rattle.matches.proofs.write_matches.Goals as goal

pub loop-o-init : goal.loop-o-init
loop-o-init c =
    let ready = c.requires.ready in
    let given = c.requires.new_given in (
      rw c.requires.one_lens_2.1 (parting_begins ready.lens_node c.requires.one_lens given.parsed c.requires.ends_are old_none none_ends ready.looks_in.over c.requires.within_buffer.0),
      refl,
      refl,
      refl,
    )

pub slice_bounds-first_loop-count : goal.slice_bounds-first_loop-count
slice_bounds-first_loop-count c = omega (arith, more_path c.loop-o.invariant.0 c.loop-o-test.true)

pub slice_bounds-first_loop-start : goal.slice_bounds-first_loop-start
slice_bounds-first_loop-start c = omega (arith, more_path c.loop-o.invariant.0 c.loop-o-test.true)

pub slice_bounds-first_loop-end : goal.slice_bounds-first_loop-end
slice_bounds-first_loop-end c = omega (arith, more_path c.loop-o.invariant.0 c.loop-o-test.true)

pub first_loop-requires : goal.first_loop-requires
first_loop-requires c = more_lent c.loop-o.invariant.0 c.loop-o-test.true

pub overflow_add-e : goal.overflow_add-e
overflow_add-e c = omega (arith, part_inside c.loop-o.invariant.0 c.loop-o-test.true c.first_loop.ensures, c.requires.new_given.new_short)

pub slice_bounds-piece-count : goal.slice_bounds-piece-count
slice_bounds-piece-count c = omega (arith, part_inside c.loop-o.invariant.0 c.loop-o-test.true c.first_loop.ensures)

pub slice_bounds-piece-start : goal.slice_bounds-piece-start
slice_bounds-piece-start c = omega (arith, part_inside c.loop-o.invariant.0 c.loop-o-test.true c.first_loop.ensures)

pub slice_bounds-piece-end : goal.slice_bounds-piece-end
slice_bounds-piece-end c = omega (arith, part_inside c.loop-o.invariant.0 c.loop-o-test.true c.first_loop.ensures)

pub slice_bounds-track-count : goal.slice_bounds-track-count
slice_bounds-track-count c = omega (arith, part_inside c.loop-o.invariant.0 c.loop-o-test.true c.first_loop.ensures)

pub slice_bounds-track-start : goal.slice_bounds-track-start
slice_bounds-track-start c = omega (arith, part_inside c.loop-o.invariant.0 c.loop-o-test.true c.first_loop.ensures)

pub slice_bounds-track-end : goal.slice_bounds-track-end
slice_bounds-track-end c = omega (arith, part_inside c.loop-o.invariant.0 c.loop-o-test.true c.first_loop.ensures)

pub card_of-made-requires : goal.card_of-made-requires
card_of-made-requires c =
    let inner = c.requires.one_lens_2.0 in
    let given = given_match (part_given c.loop-o.invariant.0 c.loop-o-test.true c.first_loop.ensures c.requires.new_given) inner in record { lens_node = child_below (child_below c.requires.ready.lens_node c.requires.one_lens) inner; parsed = given.parsed; text_len_bound = (given.new_short, c.loop-o.invariant.2 ∙ c.requires.within_buffer.1) }

pub slice_bounds-take-end : goal.slice_bounds-take-end
slice_bounds-take-end c = c.card_of-made.ensures.within

pub take-lookup-requires : goal.take-lookup-requires
take-lookup-requires c =
    let known = child_below (child_below c.requires.ready.lens_node c.requires.one_lens) c.requires.one_lens_2.0 in let p = may_take known (looks_left c.requires.ready.looks_in c.loop-o.invariant.0.kept.over c.loop-o.invariant.0.kept.same_entries) in record { book_over = p.0; in_bounds = p.1 }

pub next_plain-wrote-requires : goal.next_plain-wrote-requires
next_plain-wrote-requires c =
    let parting = c.loop-o.invariant.0 in
    let inner = c.requires.one_lens_2.0 in
    let given = part_given parting c.loop-o-test.true c.first_loop.ensures c.requires.new_given in
    let known = child_below (child_below c.requires.ready.lens_node c.requires.one_lens) inner in
    let looks = looks_left c.requires.ready.looks_in parting.kept.over parting.kept.same_entries in
    let entry = entry_found given.new_short looks c.card_of-made.ensures c.take-lookup.ensures in
    let looked = entry.found inner.child inner.at_child in record { lens_node = known; given_old = record { sheet_given = given_match given inner; old_fits = found_fits looks looked }; fitted = parting.kept.within }

pub loop-o-smaller : goal.loop-o-smaller
loop-o-smaller c = omega (arith, part_inside c.loop-o.invariant.0 c.loop-o-test.true c.first_loop.ensures)

pub loop-o-preserved : goal.loop-o-preserved
loop-o-preserved c =
    let parting = c.loop-o.invariant.0 in
    let inner = c.requires.one_lens_2.0 in
    let more = c.loop-o-test.true in
    let known = child_below c.requires.ready.lens_node c.requires.one_lens in
    let given = part_given parting more c.first_loop.ensures c.requires.new_given in
    let looks = looks_left c.requires.ready.looks_in parting.kept.over parting.kept.same_entries in
    let entry = entry_found given.new_short looks c.card_of-made.ensures c.take-lookup.ensures in
    let written = (match_plain (inner_unasked (inner_flat known inner)) entry c.wrapping_add_usize-met.ensures.value c.next_plain-wrote.ensures).writes inner.child inner.at_child _ in (
      parting_next
          parting
          c.next_plain-wrote.new.path
          (omega (arith, c.requires.ready.looks_in.deck_room))
          more
          c.first_loop.ensures
          refl
          (at_node (match _ inner.child) inner.tree_is written)
          (search rules),
      part_back parting more c.first_loop.ensures c.next_plain-wrote.new.path (search rules) ∙ c.loop-o.invariant.1,
      (search rules) ∙ c.loop-o.invariant.2,
      (search rules) ∙ c.loop-o.invariant.3,
    )

pub shape_of-path : goal.shape_of-path
shape_of-path c = c.loop-o.invariant.1

pub shape_of-card : goal.shape_of-card
shape_of-card c = c.loop-o.invariant.2

pub shape_of-out : goal.shape_of-out
shape_of-out c = c.loop-o.invariant.3

pub returns : goal.returns
returns c = matches_written _ c.requires.one_lens c.requires.one_lens_2.0 (parting_ends c.loop-o.invariant.0 c.requires.one_lens (omega (arith, c.loop-o-test.false)))
