-- The proof of the cycle of calls {emit, emit_join, emit_repeat}: the node falls. `emit` at a node has the measure 2 * node + 1; between it and
-- the measures of lower nodes lie those of the join of two of them, and of the repeat that the node is. In the loop of the repeat, what is
-- written so far is what the parts so far give, and the rest is parsed. Assumes nothing.
use Prim.Native.Nat.{ℕ, suc, ◌+◌, ◌*◌, ◌≤◌, ◌<◌, max}
use native.Mathlib.Nat.{le-max_left, le-max_right, max-le, suc-max-suc}
use native.Mathlib.Omega.{arith}
use mathlib.Core.Path.{◌≡◌, refl}
use Rattle.std.specs.Prelude.{Some, None}
use Rattle.lens.specs.Nodes.{
  no_pattern,
  shown_const,
  shown_join,
  shown_union,
  shown_repeat,
  shown_match,
  node_prepared,
  child_below,
  left_below,
  right_below,
  given_below,
}
use Rattle.lens.specs.Parsed.{parsed_match, parsed_join}
use Rattle.lens.proofs.Emission.{emits_copy, emits_const, emits_key, emits_join, emits_match, read_below, read_lower, read_parsed, read_emits, arm_few, left_parsed, right_parsed, emits_left, emits_right, emitted_within, sum_within, half_few, half_inside, left_half, right_half, join_full, join_next}
use Rattle.lens.proofs.Repeats.{repeat_begins, repeat_ends, repeat_room, repeat_length, path_within, path_left, part_moves, part_within, part_parsed, repeat_full, repeat_next}
use Rattle.lens.proofs.read.+emit_emit_join_emit_repeat.Goals as goal

-- the measure falls from a join to its halves, and from a node to the join of two lower ones
left-falls : (a b : ℕ) → 2 * a + 1 < 2 * max a b + 2
left-falls a b = omega (arith, le-max_left a b)

right-falls : (a b : ℕ) → 2 * b + 1 < 2 * max a b + 2
right-falls a b = omega (arith, le-max_right a b)

join-falls : {a b node : ℕ} → a < node → b < node → 2 * max a b + 2 < 2 * node + 1
join-falls {a} {b} {node} h k = let both : max (suc a) (suc b) ≤ node = max-le h k in omega (arith, rw suc-max-suc at both)

pub emit-word_of-requires : goal.emit-word_of-requires
emit-word_of-requires t c =
    let s = shown_const c.node-read.ensures c.in-Const.is in
    given_below c.requires.lens_node c.args.mode s c.given_word-given.ensures

pub emit-emit_join-requires : goal.emit-emit_join-requires
emit-emit_join-requires t c =
    let known = c.requires.lens_node in
    let s = shown_join c.node-read.ensures c.in-LensJoin.is in
    let lower = join-falls s.left_lower s.right_lower in (omega (arith, lower, c.decreases), (left_below known s, (right_below known s, parsed_join c.requires.parsed s)))

pub emit-automaton_for-a-requires : goal.emit-automaton_for-a-requires
emit-automaton_for-a-requires t c =
    node_prepared (left_below c.requires.lens_node (shown_union c.node-read.ensures c.in-LensUnion.is)) _

pub emit-overflow_add-n : goal.emit-overflow_add-n
emit-overflow_add-n t c =
    let known = c.requires.lens_node in
    let s = shown_union c.node-read.ensures c.in-LensUnion.is in
    let a-is = c.automaton_for-a.ensures in
    omega (arith, arm_few c.args.mode known s c.requires.parsed a-is)

pub emit-emit-requires : goal.emit-emit-requires
emit-emit-requires t c =
    let known = c.requires.lens_node in
    let s = shown_union c.node-read.ensures c.in-LensUnion.is in
    let a-is = c.automaton_for-a.ensures in
    let parsed = left_parsed c.args.mode known s c.requires.parsed a-is c.goes_left.ensures c.if-goes_left.true in (omega (arith, s.left_lower, c.decreases), (left_below known s, parsed))

pub emit-returns-then-goes_left : goal.emit-returns-then-goes_left
emit-returns-then-goes_left t c =
    let start = c in
    let known = start.requires.lens_node in
    let s = shown_union c.node-read.ensures c.in-LensUnion.is in
    let a-is = c.automaton_for-a.ensures in
    emits_left start.args.mode known s start.requires.parsed a-is c.goes_left.ensures c.if-goes_left.true c.emit.ensures

pub emit-emit-requires-in-LensUnion : goal.emit-emit-requires-in-LensUnion
emit-emit-requires-in-LensUnion t c =
    let known = c.requires.lens_node in
    let s = shown_union c.node-read.ensures c.in-LensUnion.is in
    let a-is = c.automaton_for-a.ensures in
    let parsed = right_parsed c.args.mode known s c.requires.parsed a-is c.goes_left.ensures c.if-goes_left.false in (omega (arith, s.right_lower, c.decreases), (right_below known s, parsed))

pub emit-emit_repeat-requires : goal.emit-emit_repeat-requires
emit-emit_repeat-requires t c = (omega (arith, c.decreases), (c.requires.lens_node, (shown_repeat c.node-read.ensures c.in-LensRepeat.is, c.requires.parsed)))

pub emit-emit-requires-in-Match : goal.emit-emit-requires-in-Match
emit-emit-requires-in-Match t c =
    let s = shown_match c.node-read.ensures c.in-Match.is in (omega (arith, s.lower, c.decreases), (child_below c.requires.lens_node s, parsed_match c.requires.parsed s))

pub emit-returns-in-Word : goal.emit-returns-in-Word
emit-returns-in-Word t c =
    no_pattern c.requires.lens_node c.node-read.ensures c.in-Word.is

pub emit-returns-in-Copy : goal.emit-returns-in-Copy
emit-returns-in-Copy t c =
    emits_copy c.node-read.ensures c.in-Copy.is c.emit_copy.ensures

pub emit-returns-in-Const : goal.emit-returns-in-Const
emit-returns-in-Const t c =
    emits_const
    c.node-read.ensures
    c.in-Const.is
    c.given_word-given.ensures
    c.word_of.ensures
    c.emit_copy-in-Const.ensures

pub emit-returns-in-Key : goal.emit-returns-in-Key
emit-returns-in-Key t c =
    emits_key c.node-read.ensures c.in-Key.is c.emit_key.ensures

pub emit-returns-in-LensJoin : goal.emit-returns-in-LensJoin
emit-returns-in-LensJoin t c =
    emits_join c.node-read.ensures c.in-LensJoin.is c.emit_join.ensures

pub emit-returns-else-goes_left : goal.emit-returns-else-goes_left
emit-returns-else-goes_left t c =
    let start = c in
    let known = start.requires.lens_node in
    let s = shown_union c.node-read.ensures c.in-LensUnion.is in
    let a-is = c.automaton_for-a.ensures in
    emits_right start.args.mode known s start.requires.parsed a-is c.goes_left.ensures c.if-goes_left.false c.emit-in-LensUnion.ensures

pub emit-returns-in-Match : goal.emit-returns-in-Match
emit-returns-in-Match t c =
    emits_match c.node-read.ensures c.in-Match.is c.emit-in-Match.ensures

pub emit_join-automaton_for-a-requires : goal.emit_join-automaton_for-a-requires
emit_join-automaton_for-a-requires t c = node_prepared c.requires.lens_node _

pub emit_join-overflow_add-mid : goal.emit_join-overflow_add-mid
emit_join-overflow_add-mid t c =
    omega (arith, half_few c.args.mode c.requires.lens_node c.requires.parsed_join c.automaton_for-a.ensures)

pub emit_join-slice_bounds-emit-end : goal.emit_join-slice_bounds-emit-end
emit_join-slice_bounds-emit-end t c =
    let known = c.requires.lens_node in
    let parsed = c.requires.parsed_join in
    let a-is = c.automaton_for-a.ensures in
    (half_inside c.args.mode known parsed a-is c.border-i.ensures).0

pub emit_join-slice_bounds-emit-end-2 : goal.emit_join-slice_bounds-emit-end-2
emit_join-slice_bounds-emit-end-2 t c =
    let known = c.requires.lens_node in
    let parsed = c.requires.parsed_join in
    let a-is = c.automaton_for-a.ensures in
    (half_inside c.args.mode known parsed a-is c.border-i.ensures).1

pub emit_join-emit-requires : goal.emit_join-emit-requires
emit_join-emit-requires t c =
    let known = c.requires.lens_node in
    let parsed = c.requires.parsed_join in
    let a-is = c.automaton_for-a.ensures in
    let lower = left-falls c.args.left c.args.right in (omega (arith, lower, c.decreases), (known, left_half c.args.mode known parsed a-is c.border-i.ensures))

pub emit_join-slice_bounds-emit-count-3 : goal.emit_join-slice_bounds-emit-count-3
emit_join-slice_bounds-emit-count-3 t c =
    let known = c.requires.lens_node in
    let parsed = c.requires.parsed_join in
    let a-is = c.automaton_for-a.ensures in
    (half_inside c.args.mode known parsed a-is c.border-i.ensures).0

pub emit_join-slice_bounds-emit-start-3 : goal.emit_join-slice_bounds-emit-start-3
emit_join-slice_bounds-emit-start-3 t c =
    let known = c.requires.lens_node in
    let parsed = c.requires.parsed_join in
    let a-is = c.automaton_for-a.ensures in
    (half_inside c.args.mode known parsed a-is c.border-i.ensures).0

pub emit_join-slice_bounds-emit-count-4 : goal.emit_join-slice_bounds-emit-count-4
emit_join-slice_bounds-emit-count-4 t c =
    let known = c.requires.lens_node in
    let parsed = c.requires.parsed_join in
    let a-is = c.automaton_for-a.ensures in
    (half_inside c.args.mode known parsed a-is c.border-i.ensures).1

pub emit_join-slice_bounds-emit-start-4 : goal.emit_join-slice_bounds-emit-start-4
emit_join-slice_bounds-emit-start-4 t c =
    let known = c.requires.lens_node in
    let parsed = c.requires.parsed_join in
    let a-is = c.automaton_for-a.ensures in
    (half_inside c.args.mode known parsed a-is c.border-i.ensures).1

pub emit_join-slice_bounds-emit-count-5 : goal.emit_join-slice_bounds-emit-count-5
emit_join-slice_bounds-emit-count-5 t c =
    emitted_within c.requires.lens_node c.emit.ensures c.in_ok-n.was

pub emit_join-slice_bounds-emit-start-5 : goal.emit_join-slice_bounds-emit-start-5
emit_join-slice_bounds-emit-start-5 t c =
    emitted_within c.requires.lens_node c.emit.ensures c.in_ok-n.was

pub emit_join-emit-requires-2 : goal.emit_join-emit-requires-2
emit_join-emit-requires-2 t c =
    let known = c.requires.lens_node in
    let parsed = c.requires.parsed_join in
    let a-is = c.automaton_for-a.ensures in
    let lower = right-falls c.args.left c.args.right in (omega (arith, lower, c.decreases), (c.requires.lens_node_2, right_half c.args.mode known parsed a-is c.border-i.ensures))

pub emit_join-returns : goal.emit_join-returns
emit_join-returns t c =
    let known = c.requires.lens_node in
    let parsed = c.requires.parsed_join in
    let a-is = c.automaton_for-a.ensures in
    let first = c.emit.ensures in
    let second = c.emit-2.ensures in
    join_next c.args.mode known parsed a-is c.border-i.ensures first c.in_ok-n.was second (Some _) c.in_ok-m.was

pub emit_repeat-automaton_for-part-requires : goal.emit_repeat-automaton_for-part-requires
emit_repeat-automaton_for-part-requires t c = node_prepared (child_below c.requires.lens_node c.requires.one_lens) _

pub emit_repeat-read_by-inner-requires : goal.emit_repeat-read_by-inner-requires
emit_repeat-read_by-inner-requires t c = child_below c.requires.lens_node c.requires.one_lens

pub emit_repeat-loop-o-init : goal.emit_repeat-loop-o-init
emit_repeat-loop-o-init t c = repeat_begins c.requires.lens_node c.requires.one_lens c.requires.parsed c.automaton_for-part.ensures c.ends_of-ends.ensures.0 c.ends_of-ends.ensures.1

pub emit_repeat-slice_bounds-first_loop-count : goal.emit_repeat-slice_bounds-first_loop-count
emit_repeat-slice_bounds-first_loop-count t c = path_within c.loop-o.invariant

pub emit_repeat-slice_bounds-first_loop-start : goal.emit_repeat-slice_bounds-first_loop-start
emit_repeat-slice_bounds-first_loop-start t c = path_within c.loop-o.invariant

pub emit_repeat-first_loop-requires : goal.emit_repeat-first_loop-requires
emit_repeat-first_loop-requires t c = path_left c.loop-o.invariant c.loop-o-test.true

pub emit_repeat-slice_bounds-emit-end : goal.emit_repeat-slice_bounds-emit-end
emit_repeat-slice_bounds-emit-end t c = (part_within c.loop-o.invariant c.loop-o-test.true c.first_loop.ensures).0

pub emit_repeat-slice_bounds-emit-end-in-loop-o : goal.emit_repeat-slice_bounds-emit-end-in-loop-o
emit_repeat-slice_bounds-emit-end-in-loop-o t c =
    (part_within c.loop-o.invariant c.loop-o-test.true c.first_loop.ensures).1

pub emit_repeat-slice_bounds-emit-count-in-loop-o-2 : goal.emit_repeat-slice_bounds-emit-count-in-loop-o-2
emit_repeat-slice_bounds-emit-count-in-loop-o-2 t c = repeat_room c.loop-o.invariant

pub emit_repeat-slice_bounds-emit-start-in-loop-o-2 : goal.emit_repeat-slice_bounds-emit-start-in-loop-o-2
emit_repeat-slice_bounds-emit-start-in-loop-o-2 t c = repeat_room c.loop-o.invariant

pub emit_repeat-emit-requires : goal.emit_repeat-emit-requires
emit_repeat-emit-requires t c =
    let by = c.read_by-inner.ensures in
    let s = c.requires.one_lens in (omega (arith, s.lower, read_lower by, c.decreases), (read_below by (child_below c.requires.lens_node s), read_parsed by (part_parsed c.loop-o.invariant c.loop-o-test.true c.first_loop.ensures)))

pub emit_repeat-loop-o-smaller : goal.emit_repeat-loop-o-smaller
emit_repeat-loop-o-smaller t c =
    let moves = part_moves c.loop-o.invariant c.loop-o-test.true c.first_loop.ensures in
    omega (arith, moves, c.loop-o-test.true)

pub emit_repeat-loop-o-preserved : goal.emit_repeat-loop-o-preserved
emit_repeat-loop-o-preserved t c = repeat_next c.loop-o.invariant c.loop-o-test.true c.first_loop.ensures (read_emits c.read_by-inner.ensures c.emit.ensures) c.in_ok-m.was

pub emit_repeat-shape_of-out : goal.emit_repeat-shape_of-out
emit_repeat-shape_of-out t c = repeat_length c.loop-o.invariant

pub emit_repeat-returns : goal.emit_repeat-returns
emit_repeat-returns t c = repeat_ends c.loop-o.invariant c.loop-o-test.false

pub emit_join-overflow_add-result : goal.emit_join-overflow_add-result
emit_join-overflow_add-result t c =
    let first = emitted_within c.requires.lens_node c.emit.ensures c.in_ok-n.was in
    let second = emitted_within c.requires.lens_node_2 c.emit-2.ensures c.in_ok-m.was in
    omega (arith, sum_within c.emit.new.out c.emit-2.new.out first second c.emit-2.auto.out, c.emit.auto)

pub emit_repeat-overflow_add-end : goal.emit_repeat-overflow_add-end
emit_repeat-overflow_add-end t c = omega (arith, part_within c.loop-o.invariant c.loop-o-test.true c.first_loop.ensures)

pub emit_repeat-overflow_add-n : goal.emit_repeat-overflow_add-n
emit_repeat-overflow_add-n t c =
    let part = emitted_within (child_below c.requires.lens_node c.requires.one_lens) (read_emits c.read_by-inner.ensures c.emit.ensures) c.in_ok-m.was in
    let sum = sum_within c.loop-o.out c.emit.new.out (repeat_room c.loop-o.invariant) part c.emit.auto.out in
    omega (arith, sum, repeat_length c.loop-o.invariant)

pub emit_join-returns-in_err-n : goal.emit_join-returns-in_err-n
emit_join-returns-in_err-n t c =
    let known = c.requires.lens_node in
    let parsed = c.requires.parsed_join in
    let a-is = c.automaton_for-a.ensures in
    rw c.from_residual.ensures (join_full c.args.mode known parsed a-is c.border-i.ensures c.emit.ensures c.in_err-n.was)

pub emit_join-returns-in_err-m : goal.emit_join-returns-in_err-m
emit_join-returns-in_err-m t c =
    let known = c.requires.lens_node in
    let parsed = c.requires.parsed_join in
    let a-is = c.automaton_for-a.ensures in
    let first = c.emit.ensures in
    let second = c.emit-2.ensures in
    rw c.from_residual-in_err-m.ensures
    (join_next c.args.mode known parsed a-is c.border-i.ensures first c.in_ok-n.was second None c.in_err-m.was)

pub emit_repeat-returns-in_err-m : goal.emit_repeat-returns-in_err-m
emit_repeat-returns-in_err-m t c =
    rw c.from_residual.ensures
    (repeat_full c.loop-o.invariant c.loop-o-test.true c.first_loop.ensures (read_emits c.read_by-inner.ensures c.emit.ensures) c.in_err-m.was)
