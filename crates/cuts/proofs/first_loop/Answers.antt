-- `cuts::first_loop` meets its contract. The loop's invariant: no step among the first i positions goes from a last position to a first one. Assumes nothing.
use mathlib.Core.Path.{sym, ◌∙◌}
use mathlib.Core.Bool.{and-false}
use native.Mathlib.Omega.{arith}
use Rattle.laws.specs.Basics.{and_of}
use Rattle.cuts.proofs.Readings.{unlooped_one, unlooped_more, unlooped_here, unlooped_all}
use Rattle.cuts.proofs.first_loop.Goals.{else-has-via-then-has+else-has-2, else-has-via-else-has}
use Rattle.cuts.proofs.first_loop.Goals as goal

pub loop-i-init : goal.loop-i-init
loop-i-init c = unlooped_one c.requires

pub returns-then-has-2 : goal.returns-then-has-2
returns-then-has-2 c =
    let from = rw c.from.ensures at (sym c.has.ensures ∙ c.if-has.true) in
    let to = rw c.from-then-has.ensures at (sym c.has-then-has.ensures ∙ c.if-has-2.true) in
    unlooped_here c.loop-i.invariant c.loop-i-test.true (and_of _ _ from to)

pub loop-i-preserved : goal.loop-i-preserved
loop-i-preserved c =
    unlooped_more c.loop-i.invariant c.loop-i-test.true
    (elim c.else-has.branch [
      | else-has-via-then-has+else-has-2 w ↦ rw (rw w.from-then-has.ensures at (sym w.has-then-has.ensures ∙ w.if-has-2.false)) (and-false _)
      | else-has-via-else-has w ↦ rw (rw c.from.ensures at (sym c.has.ensures ∙ w.if-has.false))
    ])

pub returns : goal.returns
returns c = unlooped_all c.loop-i.invariant (omega arith)
