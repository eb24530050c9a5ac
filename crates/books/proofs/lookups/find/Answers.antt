-- `books::lookups::find` meets its contract. The loop's invariant: no entry before i answers, of those with the byte. Assumes nothing.
use mathlib.Core.Path.{sym, ◌∙◌}
use native.Mathlib.Omega.{arith}
use Rattle.books.proofs.Finding.{answers_none, answers_more}
use Rattle.books.proofs.lookups.find.Goals as goal
use Rattle.books.proofs.lookups.find.Goals.{else-deck-i-via-then-deck-i+else-answers, else-deck-i-via-else-deck-i}

pub loop-i-init : goal.loop-i-init
loop-i-init c = answers_none

pub overflow_cast-children : goal.overflow_cast-children
overflow_cast-children c = omega (arith, c.shared_slice_known-then-deck-i-2-1.given c.loop-i.i)

pub loop-i-preserved : goal.loop-i-preserved
loop-i-preserved c =
    answers_more c.loop-i.invariant
    (λ inside byte. elim c.else-deck-i.branch [
      | else-deck-i-via-then-deck-i+else-answers w ↦ sym (w.answers.ensures.tells inside) ∙ w.if-answers.false
      | else-deck-i-via-else-deck-i w ↦ absurd (w.if-deck-i.false byte)
    ])
