-- `books::lookups::none_left` meets its contract. The loop's invariant: no unused entry before i is of the child. Assumes nothing.
use mathlib.Core.Path.{◌≡◌, sym, ◌∙◌}
use mathlib.Core.Bool.{false≢true}
use native.Mathlib.Omega.{arith}
use Rattle.books.proofs.Finding.{waits_none, waits_more}
use Rattle.books.proofs.lookups.none_left.Goals as goal

pub loop-i-init : goal.loop-i-init
loop-i-init c = waits_none

pub overflow_cast-children : goal.overflow_cast-children
overflow_cast-children c = omega (arith, c.shared_slice_known-in-loop-i-2-1.given c.loop-i.i)

pub returns-then-waits : goal.returns-then-waits
returns-then-waits c = record { none_left = λ e. absurd (false≢true e) }

pub loop-i-preserved : goal.loop-i-preserved
loop-i-preserved c = waits_more c.loop-i.invariant (sym c.waits.ensures ∙ c.if-waits.false)

pub returns : goal.returns
returns c = let ended : c.loop-i.i ≡ c.args.count = omega (arith, c.loop-i-test.false) in record { none_left = λ e. rw ended at c.loop-i.invariant }
