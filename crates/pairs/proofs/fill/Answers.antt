-- `pairs::fill` meets its contract. The loop's invariant: the pairs that have been led on are settled, and the next row is due, or none is. Assumes nothing.
use borrow.Author.Rules.{rules}
use Rattle.pairs.proofs.Spreads.{settled_first, led_none, led_more, filled, filled_none, spread_less}
use Rattle.pairs.proofs.fill.Goals as goal

pub clear-requires : goal.clear-requires
clear-requires c = (c.requires.room.0.few, c.requires.shares_len.2)

pub returns-then-is_empty : goal.returns-then-is_empty
returns-then-is_empty c = filled_none c.clear.ensures (c.is_empty.ensures.0 c.if-is_empty.true)

pub clear-requires-2 : goal.clear-requires-2
clear-requires-2 c = (c.requires.room.0.few, c.requires.shares_len.1)

pub share_rows-requires : goal.share_rows-requires
share_rows-requires c = record { room = c.requires.room; shares_len = c.requires.shares_len.0 }

pub pour-due-requires : goal.pour-due-requires
pour-due-requires c = (c.requires.room.0.few, c.share_rows.ensures.size, c.clear.ensures.size)

pub loop-next-init : goal.loop-next-init
loop-next-init c = (search rules, search rules, led_none, settled_first c.clear-2.ensures c.clear.ensures c.empty.ensures c.pour-due.ensures, c.next_due-next.ensures)

pub spread-due-requires : goal.spread-due-requires
spread-due-requires c =
    let due = rw c.in-Some.is at c.loop-next.invariant.4 in
    record { room = c.requires.room; shares = c.share_rows.ensures; x_lt_count = (c.loop-next.invariant.3.below c.in-Some.x due, c.loop-next.invariant.0, c.loop-next.invariant.1) }

pub loop-next-smaller : goal.loop-next-smaller
loop-next-smaller c =
    let due = rw c.in-Some.is at c.loop-next.invariant.4 in
    spread_less c.loop-next.invariant.3 due c.spread-due.ensures (search rules) (λ i. (c.type_inv.led i).fits)

pub loop-next-preserved : goal.loop-next-preserved
loop-next-preserved c = (search rules, search rules, led_more c.loop-next.invariant.2 c.spread-due.ensures.leads, c.spread-due.ensures.settles c.loop-next.invariant.3, c.next_due-next-in-Some.ensures)

pub returns : goal.returns
returns c = filled c.share_rows.ensures c.clear.ensures c.pour-due.ensures c.loop-next.invariant.2 c.loop-next.invariant.3 (rw c.in_default.is at c.loop-next.invariant.4)
