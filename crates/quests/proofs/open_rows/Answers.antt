-- `quests::open_rows` meets its contract. Assumes nothing.
use mathlib.Core.Path.{◌≡◌}
use native.Mathlib.Omega.{arith}
use Rattle.quests.proofs.Filling.{opened_more}
use Rattle.quests.proofs.open_rows.Goals as goal

pub loop-x-preserved : goal.loop-x-preserved
loop-x-preserved c = opened_more c.loop-x.invariant c.sharing.ensures c.keep.ensures

pub returns : goal.returns
returns c =
    let all : c.loop-x.x ≡ c.args.a.count = omega arith in rw all at c.loop-x.invariant
