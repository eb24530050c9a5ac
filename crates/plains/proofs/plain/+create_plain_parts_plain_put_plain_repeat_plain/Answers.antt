-- The proof of the cycle of calls {create_plain, parts_plain, put_plain, repeat_plain}: the node falls. In the loop of the parts, what is written so far is what the parts so far put, with
-- whatever book is asked nothing. Assumes nothing.
use Rattle.plains.proofs.Given.{given_none, given_onto, given_at, arm_given, new_arm, choice_arm, choice_given}
use Rattle.plains.proofs.Parts.{parting_begins, more_path, more_lent, part_inside, part_given, part_old, part_back, parting_next, parting_ends}
use Rattle.plains.proofs.Halves.{near_is, far_is, halves_lower, near_known, far_known, at_inside, near_given, left_back, far_given, near_old, far_old, join_created, join_put}
use Rattle.plains.proofs.ByKind.{union_writes}
use Rattle.plains.proofs.Unasked.{leaf_met}
use Rattle.plains.proofs.Counting.{product_small, count_met, repeat_counted}
use Rattle.plains.proofs.Plainly.{no_book, no_over, no_asks, plain_below, plain_room, join_asks, arm_asks, child_asks, match_met, next_plainly, plain_within}
use Rattle.plains.proofs.Behind.{old_put, old_created}
use Rattle.steps.specs.Stepping.{place_inside, old_inside, old_ends}
use Rattle.books.specs.Looking.{old_text}
use Rattle.lens.specs.Parsed.{parsed_length}
use Rattle.lens.specs.Nodes.{shown_join, shown_union, shown_repeat, shown_match, child_below, left_below, right_below, lens_below, node_words, node_prepared}
use Rattle.automaton.specs.declared.Side.TheVariants.{Source, Sheet}
use native.Mathlib.Omega.{arith}
use mathlib.Core.Path.{refl, ◌∙◌}
use borrow.Author.Rules.{rules}
use Rattle.plains.proofs.plain.+create_plain_parts_plain_put_plain_repeat_plain.Goals as goal

pub create_plain-even_count-requires : goal.create_plain-even_count-requires
create_plain-even_count-requires t c = plain_room c.requires.plain_ready

pub create_plain-next_counted-requires : goal.create_plain-next_counted-requires
create_plain-next_counted-requires t c = record { lens_node = c.requires.plain_ready.lens_node; given_old = given_none c.requires.new_given; fitted = (c.requires.fitted, count_met _ _ c.requires.plain_ready.lens_node c.requires.plain_ready.below_is c.in-Some.ensures) }

pub create_plain-returns-in-Some : goal.create_plain-returns-in-Some
unfolding old_text
create_plain-returns-in-Some t c = next_plainly c.requires.plain_ready _ (count_met _ _ c.requires.plain_ready.lens_node c.requires.plain_ready.below_is c.in-Some.ensures) c.next_counted.ensures

pub create_plain-node-read-requires : goal.create_plain-node-read-requires
create_plain-node-read-requires t c = record { all_sized = c.requires.plain_ready.lens_node.built.sized; k_bound = c.requires.plain_ready.lens_node.inside }

pub create_plain-cut_sheet-cut-requires : goal.create_plain-cut_sheet-cut-requires
create_plain-cut_sheet-cut-requires t c =
    let known = c.requires.plain_ready.lens_node in
    let s = shown_join c.node-read.ensures c.in-LensJoin.is in
    (node_prepared (left_below known s) Sheet, omega (arith, c.requires.new_given.parsed.few))

pub create_plain-slice_bounds-front-count : goal.create_plain-slice_bounds-front-count
create_plain-slice_bounds-front-count t c =
    let known = c.requires.plain_ready.lens_node in
    let s = shown_join c.node-read.ensures c.in-LensJoin.is in
    omega (arith, at_inside known s c.requires.new_given c.cut_sheet-cut.ensures)

pub create_plain-slice_bounds-front-start : goal.create_plain-slice_bounds-front-start
create_plain-slice_bounds-front-start t c =
    let known = c.requires.plain_ready.lens_node in
    let s = shown_join c.node-read.ensures c.in-LensJoin.is in
    omega (arith, at_inside known s c.requires.new_given c.cut_sheet-cut.ensures)

pub create_plain-slice_bounds-front-end : goal.create_plain-slice_bounds-front-end
create_plain-slice_bounds-front-end t c =
    let known = c.requires.plain_ready.lens_node in
    let s = shown_join c.node-read.ensures c.in-LensJoin.is in
    omega (arith, at_inside known s c.requires.new_given c.cut_sheet-cut.ensures)

pub create_plain-slice_bounds-track-count : goal.create_plain-slice_bounds-track-count
create_plain-slice_bounds-track-count t c =
    let known = c.requires.plain_ready.lens_node in
    let s = shown_join c.node-read.ensures c.in-LensJoin.is in
    omega (arith, at_inside known s c.requires.new_given c.cut_sheet-cut.ensures)

pub create_plain-slice_bounds-track-start : goal.create_plain-slice_bounds-track-start
create_plain-slice_bounds-track-start t c =
    let known = c.requires.plain_ready.lens_node in
    let s = shown_join c.node-read.ensures c.in-LensJoin.is in
    omega (arith, at_inside known s c.requires.new_given c.cut_sheet-cut.ensures)

pub create_plain-slice_bounds-track-end : goal.create_plain-slice_bounds-track-end
create_plain-slice_bounds-track-end t c =
    let known = c.requires.plain_ready.lens_node in
    let s = shown_join c.node-read.ensures c.in-LensJoin.is in
    omega (arith, at_inside known s c.requires.new_given c.cut_sheet-cut.ensures)

pub create_plain-create_plain-plain-requires : goal.create_plain-create_plain-plain-requires
create_plain-create_plain-plain-requires t c =
    let known = c.requires.plain_ready.lens_node in
    let s = shown_join c.node-read.ensures c.in-LensJoin.is in
    let cut_is = c.cut_sheet-cut.ensures in (omega (arith, c.decreases, halves_lower known s c.requires.new_given cut_is), (plain_below c.requires.plain_ready (near_known known s c.requires.new_given cut_is), (near_given known s c.requires.new_given cut_is, c.requires.fitted)))

pub create_plain-slice_bounds-back-count : goal.create_plain-slice_bounds-back-count
create_plain-slice_bounds-back-count t c =
    let known = c.requires.plain_ready.lens_node in
    let s = shown_join c.node-read.ensures c.in-LensJoin.is in
    omega (arith, at_inside known s c.requires.new_given c.cut_sheet-cut.ensures)

pub create_plain-slice_bounds-back-start : goal.create_plain-slice_bounds-back-start
create_plain-slice_bounds-back-start t c =
    let known = c.requires.plain_ready.lens_node in
    let s = shown_join c.node-read.ensures c.in-LensJoin.is in
    omega (arith, at_inside known s c.requires.new_given c.cut_sheet-cut.ensures)

pub create_plain-slice_bounds-back-end : goal.create_plain-slice_bounds-back-end
create_plain-slice_bounds-back-end t c =
    let known = c.requires.plain_ready.lens_node in
    let s = shown_join c.node-read.ensures c.in-LensJoin.is in
    omega (arith, at_inside known s c.requires.new_given c.cut_sheet-cut.ensures)

pub create_plain-slice_bounds-track-count-in-LensJoin : goal.create_plain-slice_bounds-track-count-in-LensJoin
create_plain-slice_bounds-track-count-in-LensJoin t c =
    let known = c.requires.plain_ready.lens_node in
    let s = shown_join c.node-read.ensures c.in-LensJoin.is in
    let cut_is = c.cut_sheet-cut.ensures in
    omega (arith, at_inside known s c.requires.new_given cut_is, left_back known s c.requires.new_given cut_is c.create_plain-plain.new.path (search rules))

pub create_plain-slice_bounds-track-start-in-LensJoin : goal.create_plain-slice_bounds-track-start-in-LensJoin
create_plain-slice_bounds-track-start-in-LensJoin t c =
    let known = c.requires.plain_ready.lens_node in
    let s = shown_join c.node-read.ensures c.in-LensJoin.is in
    let cut_is = c.cut_sheet-cut.ensures in
    omega (arith, at_inside known s c.requires.new_given cut_is, left_back known s c.requires.new_given cut_is c.create_plain-plain.new.path (search rules))

pub create_plain-slice_bounds-track-end-in-LensJoin : goal.create_plain-slice_bounds-track-end-in-LensJoin
create_plain-slice_bounds-track-end-in-LensJoin t c =
    let known = c.requires.plain_ready.lens_node in
    let s = shown_join c.node-read.ensures c.in-LensJoin.is in
    let cut_is = c.cut_sheet-cut.ensures in
    omega (arith, at_inside known s c.requires.new_given cut_is, left_back known s c.requires.new_given cut_is c.create_plain-plain.new.path (search rules))

pub create_plain-create_plain-requires : goal.create_plain-create_plain-requires
create_plain-create_plain-requires t c =
    let known = c.requires.plain_ready.lens_node in
    let s = shown_join c.node-read.ensures c.in-LensJoin.is in
    let cut_is = c.cut_sheet-cut.ensures in
    let within = plain_within (plain_below c.requires.plain_ready (near_known known s c.requires.new_given cut_is)) c.requires.fitted c.create_plain-plain.ensures in (omega (arith, c.decreases, halves_lower known s c.requires.new_given cut_is), (plain_below c.requires.plain_ready (far_known known s c.requires.new_given cut_is), (far_given known s c.requires.new_given cut_is c.create_plain-plain.new.path (search rules), within)))

pub create_plain-choose_new-arm-requires : goal.create_plain-choose_new-arm-requires
create_plain-choose_new-arm-requires t c =
    let known = c.requires.plain_ready.lens_node in
    let s = shown_union c.node-read.ensures c.in-LensUnion.is in
    (node_prepared (left_below known s) Sheet, omega (arith, c.requires.new_given.parsed.few))

pub create_plain-create_plain-requires-in-LensUnion : goal.create_plain-create_plain-requires-in-LensUnion
create_plain-create_plain-requires-in-LensUnion t c =
    let s = shown_union c.node-read.ensures c.in-LensUnion.is in
    let arm = new_arm c.requires.plain_ready.lens_node s c.requires.new_given c.choose_new-arm.ensures in (omega (arith, c.decreases, arm.lower), (plain_below c.requires.plain_ready (lens_below c.requires.plain_ready.lens_node arm.arm arm.lower arm.arm_is), (arm_given arm c.requires.new_given, c.requires.fitted)))

pub create_plain-repeat_plain-requires : goal.create_plain-repeat_plain-requires
create_plain-repeat_plain-requires t c = (omega (arith, c.decreases), (c.requires.plain_ready, (shown_repeat c.node-read.ensures c.in-LensRepeat.is, (given_none c.requires.new_given, c.requires.fitted))))

pub create_plain-next_counted-requires-in-Match : goal.create_plain-next_counted-requires-in-Match
create_plain-next_counted-requires-in-Match t c = record { lens_node = c.requires.plain_ready.lens_node; given_old = given_none c.requires.new_given; fitted = (c.requires.fitted, match_met (shown_match c.node-read.ensures c.in-Match.is) _ _) }

pub create_plain-next_counted-requires-in_default-kind : goal.create_plain-next_counted-requires-in_default-kind
create_plain-next_counted-requires-in_default-kind t c = record { lens_node = c.requires.plain_ready.lens_node; given_old = given_none c.requires.new_given; fitted = (c.requires.fitted, leaf_met c.requires.plain_ready.lens_node c.node-read.ensures _ _ (record { not_join = c.in_default-kind.not-LensJoin; not_union = c.in_default-kind.not-LensUnion; not_repeat = c.in_default-kind.not-LensRepeat; not_match = c.in_default-kind.not-Match })) }

pub create_plain-returns-in-LensJoin : goal.create_plain-returns-in-LensJoin
create_plain-returns-in-LensJoin t c =
    let known = c.requires.plain_ready.lens_node in
    let s = shown_join c.node-read.ensures c.in-LensJoin.is in
    let cut_is = c.cut_sheet-cut.ensures in
    record {
      writes = λ b over quiet.
          let (near, far) = join_asks c.requires.plain_ready s quiet in
          join_created known s c.requires.new_given cut_is
          (c.create_plain-plain.ensures.writes b over (rw (near_is known s c.requires.new_given cut_is) near))
          (c.create_plain.ensures.writes b over (rw (far_is known s c.requires.new_given cut_is) far));
    }

pub create_plain-returns-in-LensUnion : goal.create_plain-returns-in-LensUnion
create_plain-returns-in-LensUnion t c =
    let s = shown_union c.node-read.ensures c.in-LensUnion.is in
    let arm = new_arm c.requires.plain_ready.lens_node s c.requires.new_given c.choose_new-arm.ensures in
    record { writes = λ b over quiet. union_writes s arm (c.create_plain-in-LensUnion.ensures.writes b over (arm_asks c.requires.plain_ready s arm (lens_below c.requires.plain_ready.lens_node arm.arm arm.lower arm.arm_is) quiet)) }

pub create_plain-returns-in-LensRepeat : goal.create_plain-returns-in-LensRepeat
unfolding old_text
create_plain-returns-in-LensRepeat t c = c.repeat_plain.ensures

pub create_plain-returns-in-Match : goal.create_plain-returns-in-Match
unfolding old_text
create_plain-returns-in-Match t c = next_plainly c.requires.plain_ready _ (match_met (shown_match c.node-read.ensures c.in-Match.is) _ _) c.next_counted-in-Match.ensures

pub create_plain-returns-in_default-kind : goal.create_plain-returns-in_default-kind
unfolding old_text
create_plain-returns-in_default-kind t c = next_plainly c.requires.plain_ready _ (leaf_met c.requires.plain_ready.lens_node c.node-read.ensures _ _ (record { not_join = c.in_default-kind.not-LensJoin; not_union = c.in_default-kind.not-LensUnion; not_repeat = c.in_default-kind.not-LensRepeat; not_match = c.in_default-kind.not-Match })) c.next_counted-in_default-kind.ensures

pub parts_plain-ends_of-olds-requires : goal.parts_plain-ends_of-olds-requires
parts_plain-ends_of-olds-requires t c = node_words (child_below c.requires.plain_ready.lens_node c.requires.one_lens)

pub parts_plain-loop-o-init : goal.parts_plain-loop-o-init
parts_plain-loop-o-init t c =
    let given = c.requires.given_old in (
      λ b over quiet.
          parting_begins
          c.requires.plain_ready.lens_node
          c.requires.one_lens
          given.sheet_given.parsed
          c.requires.ends_are
          given.old_fits
          (old_ends (rw c.old_base.ensures at c.ends_of-olds.ensures))
          over
          c.requires.fitted,
      refl,
      refl,
    )

pub parts_plain-slice_bounds-first_loop-count : goal.parts_plain-slice_bounds-first_loop-count
parts_plain-slice_bounds-first_loop-count t c = omega (arith, more_path (c.loop-o.invariant.0 no_book no_over (no_asks _ _)) c.loop-o-test.true)

pub parts_plain-slice_bounds-first_loop-start : goal.parts_plain-slice_bounds-first_loop-start
parts_plain-slice_bounds-first_loop-start t c = omega (arith, more_path (c.loop-o.invariant.0 no_book no_over (no_asks _ _)) c.loop-o-test.true)

pub parts_plain-slice_bounds-first_loop-end : goal.parts_plain-slice_bounds-first_loop-end
parts_plain-slice_bounds-first_loop-end t c = omega (arith, more_path (c.loop-o.invariant.0 no_book no_over (no_asks _ _)) c.loop-o-test.true)

pub parts_plain-first_loop-requires : goal.parts_plain-first_loop-requires
parts_plain-first_loop-requires t c = more_lent (c.loop-o.invariant.0 no_book no_over (no_asks _ _)) c.loop-o-test.true

pub parts_plain-overflow_add-e : goal.parts_plain-overflow_add-e
parts_plain-overflow_add-e t c = omega (arith, part_inside (c.loop-o.invariant.0 no_book no_over (no_asks _ _)) c.loop-o-test.true c.first_loop.ensures, c.requires.given_old.sheet_given.new_short)

pub parts_plain-next_old-next-requires : goal.parts_plain-next_old-next-requires
parts_plain-next_old-next-requires t c = (old_inside (c.loop-o.invariant.0 no_book no_over (no_asks _ _)).left_fits, omega (arith, c.requires.given_old.sheet_given.deck_room))

pub parts_plain-slice_bounds-piece-count : goal.parts_plain-slice_bounds-piece-count
parts_plain-slice_bounds-piece-count t c = omega (arith, part_inside (c.loop-o.invariant.0 no_book no_over (no_asks _ _)) c.loop-o-test.true c.first_loop.ensures)

pub parts_plain-slice_bounds-piece-start : goal.parts_plain-slice_bounds-piece-start
parts_plain-slice_bounds-piece-start t c = omega (arith, part_inside (c.loop-o.invariant.0 no_book no_over (no_asks _ _)) c.loop-o-test.true c.first_loop.ensures)

pub parts_plain-slice_bounds-piece-end : goal.parts_plain-slice_bounds-piece-end
parts_plain-slice_bounds-piece-end t c = omega (arith, part_inside (c.loop-o.invariant.0 no_book no_over (no_asks _ _)) c.loop-o-test.true c.first_loop.ensures)

pub parts_plain-slice_bounds-track-count : goal.parts_plain-slice_bounds-track-count
parts_plain-slice_bounds-track-count t c = omega (arith, part_inside (c.loop-o.invariant.0 no_book no_over (no_asks _ _)) c.loop-o-test.true c.first_loop.ensures)

pub parts_plain-slice_bounds-track-start : goal.parts_plain-slice_bounds-track-start
parts_plain-slice_bounds-track-start t c = omega (arith, part_inside (c.loop-o.invariant.0 no_book no_over (no_asks _ _)) c.loop-o-test.true c.first_loop.ensures)

pub parts_plain-slice_bounds-track-end : goal.parts_plain-slice_bounds-track-end
parts_plain-slice_bounds-track-end t c = omega (arith, part_inside (c.loop-o.invariant.0 no_book no_over (no_asks _ _)) c.loop-o-test.true c.first_loop.ensures)

pub parts_plain-put_plain-plain-requires : goal.parts_plain-put_plain-plain-requires
parts_plain-put_plain-plain-requires t c =
    let parting = (c.loop-o.invariant.0 no_book no_over (no_asks _ _)) in
    let one = c.requires.one_lens in
    let given = c.requires.given_old.sheet_given in
    let sheet = part_given parting c.loop-o-test.true c.first_loop.ensures given in (omega (arith, c.decreases, one.lower), (plain_below c.requires.plain_ready (child_below c.requires.plain_ready.lens_node one), (given_at (record { sheet_given = sheet; old_fits = part_old parting given.deck_room c.next_old-next.ensures }) c.in-Some.is, parting.kept.within)))

pub parts_plain-create_plain-plain-requires : goal.parts_plain-create_plain-plain-requires
parts_plain-create_plain-plain-requires t c =
    let parting = (c.loop-o.invariant.0 no_book no_over (no_asks _ _)) in
    let one = c.requires.one_lens in
    let given = c.requires.given_old.sheet_given in
    let sheet = part_given parting c.loop-o-test.true c.first_loop.ensures given in (omega (arith, c.decreases, one.lower), (plain_below c.requires.plain_ready (child_below c.requires.plain_ready.lens_node one), (sheet, parting.kept.within)))

pub parts_plain-loop-o-smaller-in-Some : goal.parts_plain-loop-o-smaller-in-Some
parts_plain-loop-o-smaller-in-Some t c = omega (arith, part_inside (c.loop-o.invariant.0 no_book no_over (no_asks _ _)) c.loop-o-test.true c.first_loop.ensures)

pub parts_plain-loop-o-preserved-in-Some : goal.parts_plain-loop-o-preserved-in-Some
parts_plain-loop-o-preserved-in-Some t c =
    let parting = c.loop-o.invariant.0 in
    let more = c.loop-o-test.true in
    let part = c.put_plain-plain.new.path in (
      λ b over quiet.
          parting_next
          (parting b over quiet)
          part
          c.requires.given_old.sheet_given.deck_room
          more
          c.first_loop.ensures
          c.next_old-next.ensures
          (old_put c.in-Some.is (c.put_plain-plain.ensures.writes b over quiet))
          (search rules),
      part_back (parting no_book no_over (no_asks _ _)) more c.first_loop.ensures part (search rules) ∙ c.loop-o.invariant.1,
      (search rules) ∙ c.loop-o.invariant.2,
    )

pub parts_plain-loop-o-smaller : goal.parts_plain-loop-o-smaller
parts_plain-loop-o-smaller t c = omega (arith, part_inside (c.loop-o.invariant.0 no_book no_over (no_asks _ _)) c.loop-o-test.true c.first_loop.ensures)

pub parts_plain-loop-o-preserved : goal.parts_plain-loop-o-preserved
parts_plain-loop-o-preserved t c =
    let parting = c.loop-o.invariant.0 in
    let more = c.loop-o-test.true in
    let part = c.create_plain-plain.new.path in (
      λ b over quiet.
          parting_next
          (parting b over quiet)
          part
          c.requires.given_old.sheet_given.deck_room
          more
          c.first_loop.ensures
          c.next_old-next.ensures
          (old_created c.in-None.is (c.create_plain-plain.ensures.writes b over quiet))
          (search rules),
      part_back (parting no_book no_over (no_asks _ _)) more c.first_loop.ensures part (search rules) ∙ c.loop-o.invariant.1,
      (search rules) ∙ c.loop-o.invariant.2,
    )

pub parts_plain-shape_of-path : goal.parts_plain-shape_of-path
parts_plain-shape_of-path t c = c.loop-o.invariant.1

pub parts_plain-returns : goal.parts_plain-returns
parts_plain-returns t c =
    let one = c.requires.one_lens in
    record { writes = λ b over quiet. parting_ends (c.loop-o.invariant.0 b over (child_asks c.requires.plain_ready one quiet)) one (omega (arith, c.loop-o-test.false)) }

pub put_plain-even_count-requires : goal.put_plain-even_count-requires
put_plain-even_count-requires t c = plain_room c.requires.plain_ready

pub put_plain-next_counted-requires : goal.put_plain-next_counted-requires
put_plain-next_counted-requires t c = record { lens_node = c.requires.plain_ready.lens_node; given_old = given_onto c.requires.given; fitted = (c.requires.fitted, count_met _ _ c.requires.plain_ready.lens_node c.requires.plain_ready.below_is c.in-Some.ensures) }

pub put_plain-returns-in-Some : goal.put_plain-returns-in-Some
unfolding old_text
put_plain-returns-in-Some t c = next_plainly c.requires.plain_ready _ (count_met _ _ c.requires.plain_ready.lens_node c.requires.plain_ready.below_is c.in-Some.ensures) c.next_counted.ensures

pub put_plain-node-read-requires : goal.put_plain-node-read-requires
put_plain-node-read-requires t c = record { all_sized = c.requires.plain_ready.lens_node.built.sized; k_bound = c.requires.plain_ready.lens_node.inside }

pub put_plain-cut_sheet-cut-requires : goal.put_plain-cut_sheet-cut-requires
put_plain-cut_sheet-cut-requires t c =
    let known = c.requires.plain_ready.lens_node in
    let s = shown_join c.node-read.ensures c.in-LensJoin.is in
    (node_prepared (left_below known s) Sheet, omega (arith, c.requires.given.sheet_given.parsed.few))

pub put_plain-halves_of-halves-requires : goal.put_plain-halves_of-halves-requires
put_plain-halves_of-halves-requires t c =
    let known = c.requires.plain_ready.lens_node in
    let s = shown_join c.node-read.ensures c.in-LensJoin.is in record { prepared = (node_prepared (left_below known s) Source, place_inside c.requires.given.old_parsed); in_bounds = omega (arith, c.requires.given.sheet_given.deck_room) }

pub put_plain-slice_bounds-front-count : goal.put_plain-slice_bounds-front-count
put_plain-slice_bounds-front-count t c =
    let known = c.requires.plain_ready.lens_node in
    let s = shown_join c.node-read.ensures c.in-LensJoin.is in
    omega (arith, at_inside known s c.requires.given.sheet_given c.cut_sheet-cut.ensures)

pub put_plain-slice_bounds-front-start : goal.put_plain-slice_bounds-front-start
put_plain-slice_bounds-front-start t c =
    let known = c.requires.plain_ready.lens_node in
    let s = shown_join c.node-read.ensures c.in-LensJoin.is in
    omega (arith, at_inside known s c.requires.given.sheet_given c.cut_sheet-cut.ensures)

pub put_plain-slice_bounds-front-end : goal.put_plain-slice_bounds-front-end
put_plain-slice_bounds-front-end t c =
    let known = c.requires.plain_ready.lens_node in
    let s = shown_join c.node-read.ensures c.in-LensJoin.is in
    omega (arith, at_inside known s c.requires.given.sheet_given c.cut_sheet-cut.ensures)

pub put_plain-slice_bounds-track-count : goal.put_plain-slice_bounds-track-count
put_plain-slice_bounds-track-count t c =
    let known = c.requires.plain_ready.lens_node in
    let s = shown_join c.node-read.ensures c.in-LensJoin.is in
    omega (arith, at_inside known s c.requires.given.sheet_given c.cut_sheet-cut.ensures)

pub put_plain-slice_bounds-track-start : goal.put_plain-slice_bounds-track-start
put_plain-slice_bounds-track-start t c =
    let known = c.requires.plain_ready.lens_node in
    let s = shown_join c.node-read.ensures c.in-LensJoin.is in
    omega (arith, at_inside known s c.requires.given.sheet_given c.cut_sheet-cut.ensures)

pub put_plain-slice_bounds-track-end : goal.put_plain-slice_bounds-track-end
put_plain-slice_bounds-track-end t c =
    let known = c.requires.plain_ready.lens_node in
    let s = shown_join c.node-read.ensures c.in-LensJoin.is in
    omega (arith, at_inside known s c.requires.given.sheet_given c.cut_sheet-cut.ensures)

pub put_plain-put_plain-plain-requires : goal.put_plain-put_plain-plain-requires
put_plain-put_plain-plain-requires t c =
    let known = c.requires.plain_ready.lens_node in
    let s = shown_join c.node-read.ensures c.in-LensJoin.is in
    let cut_is = c.cut_sheet-cut.ensures in (omega (arith, c.decreases, halves_lower known s c.requires.given.sheet_given cut_is), (plain_below c.requires.plain_ready (near_known known s c.requires.given.sheet_given cut_is), (record { sheet_given = near_given known s c.requires.given.sheet_given cut_is; old_parsed = near_old known s c.requires.given.sheet_given cut_is c.requires.given.old_parsed c.halves_of-halves.ensures }, c.requires.fitted)))

pub put_plain-slice_bounds-back-count : goal.put_plain-slice_bounds-back-count
put_plain-slice_bounds-back-count t c =
    let known = c.requires.plain_ready.lens_node in
    let s = shown_join c.node-read.ensures c.in-LensJoin.is in
    omega (arith, at_inside known s c.requires.given.sheet_given c.cut_sheet-cut.ensures)

pub put_plain-slice_bounds-back-start : goal.put_plain-slice_bounds-back-start
put_plain-slice_bounds-back-start t c =
    let known = c.requires.plain_ready.lens_node in
    let s = shown_join c.node-read.ensures c.in-LensJoin.is in
    omega (arith, at_inside known s c.requires.given.sheet_given c.cut_sheet-cut.ensures)

pub put_plain-slice_bounds-back-end : goal.put_plain-slice_bounds-back-end
put_plain-slice_bounds-back-end t c =
    let known = c.requires.plain_ready.lens_node in
    let s = shown_join c.node-read.ensures c.in-LensJoin.is in
    omega (arith, at_inside known s c.requires.given.sheet_given c.cut_sheet-cut.ensures)

pub put_plain-slice_bounds-track-count-in-LensJoin : goal.put_plain-slice_bounds-track-count-in-LensJoin
put_plain-slice_bounds-track-count-in-LensJoin t c =
    let known = c.requires.plain_ready.lens_node in
    let s = shown_join c.node-read.ensures c.in-LensJoin.is in
    let cut_is = c.cut_sheet-cut.ensures in
    omega (arith, at_inside known s c.requires.given.sheet_given cut_is, left_back known s c.requires.given.sheet_given cut_is c.put_plain-plain.new.path (search rules))

pub put_plain-slice_bounds-track-start-in-LensJoin : goal.put_plain-slice_bounds-track-start-in-LensJoin
put_plain-slice_bounds-track-start-in-LensJoin t c =
    let known = c.requires.plain_ready.lens_node in
    let s = shown_join c.node-read.ensures c.in-LensJoin.is in
    let cut_is = c.cut_sheet-cut.ensures in
    omega (arith, at_inside known s c.requires.given.sheet_given cut_is, left_back known s c.requires.given.sheet_given cut_is c.put_plain-plain.new.path (search rules))

pub put_plain-slice_bounds-track-end-in-LensJoin : goal.put_plain-slice_bounds-track-end-in-LensJoin
put_plain-slice_bounds-track-end-in-LensJoin t c =
    let known = c.requires.plain_ready.lens_node in
    let s = shown_join c.node-read.ensures c.in-LensJoin.is in
    let cut_is = c.cut_sheet-cut.ensures in
    omega (arith, at_inside known s c.requires.given.sheet_given cut_is, left_back known s c.requires.given.sheet_given cut_is c.put_plain-plain.new.path (search rules))

pub put_plain-put_plain-requires : goal.put_plain-put_plain-requires
put_plain-put_plain-requires t c =
    let known = c.requires.plain_ready.lens_node in
    let s = shown_join c.node-read.ensures c.in-LensJoin.is in
    let cut_is = c.cut_sheet-cut.ensures in
    let within = plain_within (plain_below c.requires.plain_ready (near_known known s c.requires.given.sheet_given cut_is)) c.requires.fitted c.put_plain-plain.ensures in (omega (arith, c.decreases, halves_lower known s c.requires.given.sheet_given cut_is), (plain_below c.requires.plain_ready (far_known known s c.requires.given.sheet_given cut_is), (record { sheet_given = far_given known s c.requires.given.sheet_given cut_is c.put_plain-plain.new.path (search rules); old_parsed = far_old known s c.requires.given.sheet_given cut_is c.requires.given.old_parsed c.halves_of-halves.ensures }, within)))

pub put_plain-choose-choice-requires : goal.put_plain-choose-choice-requires
put_plain-choose-choice-requires t c =
    let known = c.requires.plain_ready.lens_node in
    let s = shown_union c.node-read.ensures c.in-LensUnion.is in record { prepared = (node_prepared (left_below known s) Source, node_prepared (left_below known s) Sheet, node_prepared (right_below known s) Sheet); base_bound = (omega (arith, c.requires.given.sheet_given.parsed.few), place_inside c.requires.given.old_parsed, c.requires.given.sheet_given.deck_room); len_bound = (c.requires.given.sheet_given.new_short, parsed_length c.requires.given.sheet_given.parsed) }

pub put_plain-put_plain-requires-in-Some-old : goal.put_plain-put_plain-requires-in-Some-old
put_plain-put_plain-requires-in-Some-old t c =
    let s = shown_union c.node-read.ensures c.in-LensUnion.is in
    let arm = choice_arm c.requires.plain_ready.lens_node s c.requires.given c.choose-choice.ensures in
    let given = choice_given c.requires.plain_ready.lens_node s c.requires.given c.choose-choice.ensures in (omega (arith, c.decreases, arm.lower), (plain_below c.requires.plain_ready (lens_below c.requires.plain_ready.lens_node arm.arm arm.lower arm.arm_is), (given_at given c.in-Some-old.is, c.requires.fitted)))

pub put_plain-create_plain-requires : goal.put_plain-create_plain-requires
put_plain-create_plain-requires t c =
    let s = shown_union c.node-read.ensures c.in-LensUnion.is in
    let arm = choice_arm c.requires.plain_ready.lens_node s c.requires.given c.choose-choice.ensures in (omega (arith, c.decreases, arm.lower), (plain_below c.requires.plain_ready (lens_below c.requires.plain_ready.lens_node arm.arm arm.lower arm.arm_is), (arm_given arm c.requires.given.sheet_given, c.requires.fitted)))

pub put_plain-repeat_plain-requires : goal.put_plain-repeat_plain-requires
put_plain-repeat_plain-requires t c = (omega (arith, c.decreases), (c.requires.plain_ready, (shown_repeat c.node-read.ensures c.in-LensRepeat.is, (given_onto c.requires.given, c.requires.fitted))))

pub put_plain-next_counted-requires-in-Match : goal.put_plain-next_counted-requires-in-Match
put_plain-next_counted-requires-in-Match t c = record { lens_node = c.requires.plain_ready.lens_node; given_old = given_onto c.requires.given; fitted = (c.requires.fitted, match_met (shown_match c.node-read.ensures c.in-Match.is) _ _) }

pub put_plain-next_counted-requires-in_default-kind : goal.put_plain-next_counted-requires-in_default-kind
put_plain-next_counted-requires-in_default-kind t c = record { lens_node = c.requires.plain_ready.lens_node; given_old = given_onto c.requires.given; fitted = (c.requires.fitted, leaf_met c.requires.plain_ready.lens_node c.node-read.ensures _ _ (record { not_join = c.in_default-kind.not-LensJoin; not_union = c.in_default-kind.not-LensUnion; not_repeat = c.in_default-kind.not-LensRepeat; not_match = c.in_default-kind.not-Match })) }

pub put_plain-returns-in-LensJoin : goal.put_plain-returns-in-LensJoin
put_plain-returns-in-LensJoin t c =
    let known = c.requires.plain_ready.lens_node in
    let s = shown_join c.node-read.ensures c.in-LensJoin.is in
    let cut_is = c.cut_sheet-cut.ensures in
    record {
      writes = λ b over quiet.
          let (near, far) = join_asks c.requires.plain_ready s quiet in
          join_put known s c.requires.given.sheet_given cut_is c.requires.given.old_parsed c.halves_of-halves.ensures
          (c.put_plain-plain.ensures.writes b over (rw (near_is known s c.requires.given.sheet_given cut_is) near))
          (c.put_plain.ensures.writes b over (rw (far_is known s c.requires.given.sheet_given cut_is) far));
    }

pub put_plain-returns-in-Some-old : goal.put_plain-returns-in-Some-old
put_plain-returns-in-Some-old t c =
    let s = shown_union c.node-read.ensures c.in-LensUnion.is in
    let arm = choice_arm c.requires.plain_ready.lens_node s c.requires.given c.choose-choice.ensures in
    record { writes = λ b over quiet. union_writes s arm (old_put c.in-Some-old.is (c.put_plain-in-Some-old.ensures.writes b over (arm_asks c.requires.plain_ready s arm (lens_below c.requires.plain_ready.lens_node arm.arm arm.lower arm.arm_is) quiet))) }

pub put_plain-returns-in-None : goal.put_plain-returns-in-None
put_plain-returns-in-None t c =
    let s = shown_union c.node-read.ensures c.in-LensUnion.is in
    let arm = choice_arm c.requires.plain_ready.lens_node s c.requires.given c.choose-choice.ensures in
    record { writes = λ b over quiet. union_writes s arm (old_created c.in-None.is (c.create_plain.ensures.writes b over (arm_asks c.requires.plain_ready s arm (lens_below c.requires.plain_ready.lens_node arm.arm arm.lower arm.arm_is) quiet))) }

pub put_plain-returns-in-LensRepeat : goal.put_plain-returns-in-LensRepeat
unfolding old_text
put_plain-returns-in-LensRepeat t c = c.repeat_plain.ensures

pub put_plain-returns-in-Match : goal.put_plain-returns-in-Match
unfolding old_text
put_plain-returns-in-Match t c = next_plainly c.requires.plain_ready _ (match_met (shown_match c.node-read.ensures c.in-Match.is) _ _) c.next_counted-in-Match.ensures

pub put_plain-returns-in_default-kind : goal.put_plain-returns-in_default-kind
unfolding old_text
put_plain-returns-in_default-kind t c = next_plainly c.requires.plain_ready _ (leaf_met c.requires.plain_ready.lens_node c.node-read.ensures _ _ (record { not_join = c.in_default-kind.not-LensJoin; not_union = c.in_default-kind.not-LensUnion; not_repeat = c.in_default-kind.not-LensRepeat; not_match = c.in_default-kind.not-Match })) c.next_counted-in_default-kind.ensures

pub repeat_plain-ends_of-ends-requires : goal.repeat_plain-ends_of-ends-requires
repeat_plain-ends_of-ends-requires t c = node_words (child_below c.requires.plain_ready.lens_node c.requires.one_lens)

pub repeat_plain-even_count-requires : goal.repeat_plain-even_count-requires
repeat_plain-even_count-requires t c = plain_room (plain_below c.requires.plain_ready (child_below c.requires.plain_ready.lens_node c.requires.one_lens))

pub repeat_plain-overflow_mul-matches : goal.repeat_plain-overflow_mul-matches
repeat_plain-overflow_mul-matches t c =
    let given = c.requires.given_old.sheet_given in
    omega (arith, product_small _ c.count_parts.result c.in-Some.ensures (omega (arith, c.count_parts.ensures.at_most, parsed_length given.parsed, given.new_short)))

pub repeat_plain-next_counted-requires : goal.repeat_plain-next_counted-requires
repeat_plain-next_counted-requires t c =
    let ready = c.requires.plain_ready in
    let s = c.requires.one_lens in
    let given = c.requires.given_old in
    let there = repeat_counted ready.lens_node ready.below_is s _ _ _ c.in-Some.ensures (c.count_parts.ensures.counts _ _ _ _ _ _ (child_below ready.lens_node s) s c.ends_of-ends.ensures given.sheet_given.parsed) in record { lens_node = ready.lens_node; given_old = given; fitted = (c.requires.fitted, there) }

pub repeat_plain-returns-in-Some : goal.repeat_plain-returns-in-Some
repeat_plain-returns-in-Some t c =
    let ready = c.requires.plain_ready in
    let s = c.requires.one_lens in
    let given = c.requires.given_old in
    let there = repeat_counted ready.lens_node ready.below_is s _ _ _ c.in-Some.ensures (c.count_parts.ensures.counts _ _ _ _ _ _ (child_below ready.lens_node s) s c.ends_of-ends.ensures given.sheet_given.parsed) in
    next_plainly ready _ there c.next_counted.ensures

pub repeat_plain-parts_plain-requires : goal.repeat_plain-parts_plain-requires
repeat_plain-parts_plain-requires t c = (omega (arith, c.decreases), (c.requires.plain_ready, (c.requires.one_lens, (c.ends_of-ends.ensures, (c.requires.given_old, c.requires.fitted)))))

pub repeat_plain-returns : goal.repeat_plain-returns
repeat_plain-returns t c = c.parts_plain.ensures
