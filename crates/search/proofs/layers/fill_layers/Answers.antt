-- `layers::fill_layers` meets its contract. The loop's invariant: `from` and `to` bound the last layer, and the layers follow from the first one.
-- Assumes nothing.
use mathlib.Core.Path.{◌≡◌}
use mathlib.Core.Bool.{true}
use Prim.Native.Nat.{ℕ, ◌+◌, ◌≤◌}
use native.Mathlib.Omega.{arith}
use lib.ListN.{length, length-set}
use Rattle.laws.specs.Basics.{not_both}
use Rattle.search.specs.Pairs.{begins_in}
use Rattle.search.proofs.Slices.{some_of_part, part_of_some}
use Rattle.search.proofs.Queues.{queue_room}
use Rattle.search.proofs.Layering.{turn_begins, turn_more, turn_begun, turn_none, first_layer}
use Rattle.search.proofs.layers.fill_layers.Goals as goal

pub overflow_cast-starts : goal.overflow_cast-starts
overflow_cast-starts c = omega (arith, queue_room c.take_patch-to.ensures.queue)

pub loop-from-init : goal.loop-from-init
loop-from-init c = turn_begins c.args.starts.now c.take_patch-to.ensures.queue (omega arith)

pub overflow_cast-starts-in-loop-from : goal.overflow_cast-starts-in-loop-from
overflow_cast-starts-in-loop-from c = omega (arith, queue_room c.visit_layer-next.ensures.queue)

pub loop-from-preserved : goal.loop-from-preserved
loop-from-preserved c =
    let room : length c.loop-from.order + 2 ≤ length c.loop-from.starts = omega (arith, simp length-set at c.loop-from.invariant.same_starts) in
    let asked = c.some_begins in
    let begun = λ (i : ℕ). begins_in c.args.search.quest.now i ≡ true in
    turn_more c.loop-from.invariant c.requires.quest_fits room c.loop-from-test.true
    (λ begins. not_both (asked.ensures.1 (part_of_some c.loop-from.order _ _ c.loop-from.invariant.inside begun begins)) c.if-not-some_begins.true)
    c.visit_layer-next.ensures

pub returns-else-not-some_begins : goal.returns-else-not-some_begins
returns-else-not-some_begins c = λ prepared all_fresh t accepted.
    let args = c.args in
    let first = first_layer args.search.quest.now args.search.leads.now args.starts.now prepared (omega arith) c.take_patch-to.ensures all_fresh in
    let asked = c.some_begins in
    let begun = λ (i : ℕ). begins_in args.search.quest.now i ≡ true in
    turn_begun c.loop-from.invariant prepared
    (some_of_part c.loop-from.order _ _ c.loop-from.invariant.inside begun (asked.ensures.0 c.if-not-some_begins.false)) first

pub returns-after-loop-from : goal.returns-after-loop-from
returns-after-loop-from c = λ prepared all_fresh t accepted.
    let args = c.args in
    let first = first_layer args.search.quest.now args.search.leads.now args.starts.now prepared (omega arith) c.take_patch-to.ensures all_fresh in
    absurd (turn_none c.loop-from.invariant prepared c.requires.quest_fits c.loop-from-test.false first t accepted)
