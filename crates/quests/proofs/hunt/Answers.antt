-- `quests::hunt` meets its contract: the layers, then the text, in a buffer that is long enough. Assumes nothing.
use native.Mathlib.Omega.{arith}
use mathlib.Core.Path.{refl}
use Prim.Native.Nat.{◌+◌, ◌-◌}
use lib.ListN.{length-take}
use Rattle.quests.proofs.Filling.{cleared_zeros}
use Rattle.quests.proofs.Hunting.{filled_deep, none_alive, begins_fresh, some_accepted, entries_room, hunted_short, hunted_fits}
use Rattle.quests.proofs.hunt.Goals as goal

pub fill_tables-requires-clause-cleared : goal.fill_tables-requires-clause-cleared
fill_tables-requires-clause-cleared c = rw c.filled-leads.ensures (cleared_zeros 768)

pub fill_fresh-requires-clause-cleared : goal.fill_fresh-requires-clause-cleared
fill_fresh-requires-clause-cleared c = rw c.filled-fresh.ensures (cleared_zeros 512)

pub fill_layers-length-requires : goal.fill_layers-length-requires
fill_layers-length-requires c = record { quest_fits = c.requires.answerable.0; queue = (begins_fresh c.requires.rooms c.requires.answerable.0 c.fill_tables.ensures c.fill_fresh.ensures c.requires.count_in_bounds.0).queue; order_len_bound = (c.requires.count_in_bounds.1, c.requires.count_in_bounds.2) }

pub overflow_add-length : goal.overflow_add-length
overflow_add-length c = omega (arith, filled_deep (c.fill_layers-length.ensures _ (begins_fresh c.requires.rooms c.requires.answerable.0 c.fill_tables.ensures c.fill_fresh.ensures c.requires.count_in_bounds.0) _ (some_accepted c.requires.rooms c.requires.answerable.0 c.fill_tables.ensures c.requires.answerable.1)), c.requires.count_in_bounds.1)

pub returns-then-out-length : goal.returns-then-out-length
returns-then-out-length c = λ test asks. hunted_short c.requires.rooms c.requires.answerable.0 c.fill_tables.ensures (c.fill_layers-length.ensures _ (begins_fresh c.requires.rooms c.requires.answerable.0 c.fill_tables.ensures c.fill_fresh.ensures c.requires.count_in_bounds.0) _ (some_accepted c.requires.rooms c.requires.answerable.0 c.fill_tables.ensures c.requires.answerable.1)) asks _ c.if-out-length.true

pub write_text-requires : goal.write_text-requires
write_text-requires c =
    let filled = c.fill_layers-length.ensures _ (begins_fresh c.requires.rooms c.requires.answerable.0 c.fill_tables.ensures c.fill_fresh.ensures c.requires.count_in_bounds.0) _ (some_accepted c.requires.rooms c.requires.answerable.0 c.fill_tables.ensures c.requires.answerable.1) in record { quest_fits = c.requires.answerable.0; none_alive = none_alive (rw c.filled-alive.ensures (cleared_zeros 1024)); out_in_bounds = (simp length-take (omega (arith, filled_deep filled, c.if-out-length.false, c.requires.count_in_bounds.2)), entries_room c.requires.rooms c.requires.answerable.0 c.fill_tables.ensures filled _ (simp length-take (omega (arith, c.if-out-length.false)))); written_out = record { depth = c.fill_layers-length.result; one_more = simp length-take (omega (arith, c.if-out-length.false)); filled = filled } }

pub returns : goal.returns
returns c =
    λ test asks.
    hunted_fits c.requires.rooms c.requires.answerable.0 c.fill_tables.ensures (c.fill_layers-length.ensures _ (begins_fresh c.requires.rooms c.requires.answerable.0 c.fill_tables.ensures c.fill_fresh.ensures c.requires.count_in_bounds.0) _ (some_accepted c.requires.rooms c.requires.answerable.0 c.fill_tables.ensures c.requires.answerable.1)) asks _ _ _ c.write_text.ensures (let same = rw length-take at c.write_text.auto.out in omega (arith, same, c.if-out-length.false)) (omega (arith, c.if-out-length.false)) {n = c.fill_layers-length.result + 1 - 0} refl (omega arith)
