-- `table::round::store` meets its contract: a node's four words.
use Rattle.table.proofs.Measures.{stored}
use lib.ListN.{length-set}
use native.Mathlib.Omega.{arith}
use Rattle.table.proofs.round.store.Goals as goal

pub bounds-prepared-at-2 : goal.bounds-prepared-at-2
bounds-prepared-at-2 c = simp length-set (omega arith)

pub bounds-prepared-at-3 : goal.bounds-prepared-at-3
bounds-prepared-at-3 c = simp length-set (omega arith)

pub returns : goal.returns
returns c = rw c.from.ensures (stored c.args.prepared.now c.args.k c.args.node c.requires)
