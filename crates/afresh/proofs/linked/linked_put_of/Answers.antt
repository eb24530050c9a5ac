-- `afresh::linked::linked_put_of` meets its contract: number 0 says that there is a text. Assumes nothing.
use mathlib.Core.Path.{refl}
use native.Mathlib.Omega.{arith}
use lib.ListN.{length-take}
use Rattle.afresh.proofs.Following.{linked_result, linked_refusal}
use Rattle.afresh.proofs.linked.linked_put_of.Goals as goal

pub returns-then-first-ne0 : goal.returns-then-first-ne0
returns-then-first-ne0 c = linked_refusal c.if-first-ne0.true refl refl

pub slice_bounds-noontrough_put-end : goal.slice_bounds-noontrough_put-end
slice_bounds-noontrough_put-end c = omega (arith, length-take c.args.first.length c.args.given.now, c.requires.within (omega arith))

pub returns : goal.returns
returns c = linked_result (omega arith) c.noontrough_put.ensures
