-- `builder::build::last_of` meets its contract. Assumes nothing.
use Rattle.builder.proofs.Steps.{last_none, last_some}
use native.Mathlib.Omega.{arith}
use Rattle.builder.proofs.build.last_of.Goals as goal

pub returns-then-count-eq0 : goal.returns-then-count-eq0
returns-then-count-eq0 c = last_none c.args.count _ c.if-count-eq0.true c.empty.ensures

pub returns : goal.returns
returns c = last_some c.args.count _ _ (omega (arith, c.if-count-eq0.false)) c.with.ensures c.empty-2.ensures
