-- `pairs::share_rows` meets its contract. The loop's invariant: the rows before x have their shares. Assumes nothing.
use mathlib.Core.Path.{◌≡◌}
use native.Mathlib.Omega.{arith}
use Rattle.pairs.proofs.Spreads.{shares_none, shares_more}
use Rattle.pairs.proofs.share_rows.Goals as goal

pub loop-x-init : goal.loop-x-init
loop-x-init c = shares_none c.requires.shares_len

pub share_row-found-requires : goal.share_row-found-requires
share_row-found-requires c = record { x_bound = (omega (arith, c.requires.room.0.few), c.requires.room.0.rows c.loop-x.x (omega arith)); room = c.requires.room.1; shares = c.loop-x.invariant }

pub keep-requires : goal.keep-requires
keep-requires c = omega (arith, c.loop-x.invariant.size, c.requires.room.0.few)

pub loop-x-preserved : goal.loop-x-preserved
loop-x-preserved c = shares_more c.loop-x.invariant c.share_row-found.ensures c.keep.ensures

pub returns : goal.returns
returns c = let all : c.loop-x.x ≡ c.args.a.count = omega arith in rw all at c.loop-x.invariant
