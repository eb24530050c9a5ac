-- `pairs::spread` meets its contract. Assumes nothing.
use native.Mathlib.Omega.{arith}
use Rattle.pairs.proofs.Spreads.{spread_row}
use Rattle.pairs.proofs.spread.Goals as goal

pub row-requires : goal.row-requires
row-requires c = omega (arith, c.requires.room.0.few, c.requires.x_lt_count)

pub row-requires-2 : goal.row-requires-2
row-requires-2 c = omega (arith, c.requires.room.0.few, c.requires.x_lt_count)

pub gain-requires : goal.gain-requires
gain-requires c = omega (arith, c.requires.room.0.few, c.requires.x_lt_count)

pub follow-xs-requires : goal.follow-xs-requires
follow-xs-requires c = omega (arith, c.requires.room.0.inside, c.requires.x_lt_count)

pub followers-ys-requires : goal.followers-ys-requires
followers-ys-requires c = c.requires.room.1

pub without-requires : goal.without-requires
without-requires c = omega (arith, c.requires.room.0.few, c.requires.x_lt_count.0)

pub pour-requires : goal.pour-requires
pour-requires c = (c.requires.room.0.few, c.requires.shares.size, c.requires.x_lt_count.2)

pub returns : goal.returns
returns c =
    spread_row
    (record {
      row_below = c.requires.x_lt_count.0;
      shares_are = c.requires.shares;
      less = rw (c.row.ensures, c.row-2.ensures) at c.minus-fresh.ensures;
      gain = c.gain.ensures;
      gathered = c.followers-ys.ensures;
      removed = c.without.ensures;
      poured = rw c.follow-xs.ensures at c.pour.ensures;
    })
