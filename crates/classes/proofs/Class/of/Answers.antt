-- `classes::Class::of` meets its contract. The loop's invariant: the class is that of the first i pairs. Assumes nothing.
use native.Mathlib.Omega.{arith}
use Rattle.classes.proofs.Runs.{made_none, made_more, made_all}
use Rattle.classes.proofs.Class.of.Goals as goal

pub loop-i-init : goal.loop-i-init
loop-i-init c = made_none c.empty-class.ensures

pub loop-i-preserved : goal.loop-i-preserved
loop-i-preserved c = made_more c.run-next.result c.loop-i.invariant c.run-next.ensures c.union-class.ensures

pub returns : goal.returns
returns c = made_all (omega arith) c.loop-i.invariant
