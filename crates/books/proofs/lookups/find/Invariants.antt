-- `books::lookups::find` meets its contract. The loop's invariant: no entry before i answers, of those with the byte. Assumes nothing.
use Rattle.books.specs.Looking.{NoneAnswers}
use Rattle.books.proofs.lookups.find.Given as goal

abbrev pub invariant-loop-i : goal.invariant-loop-i
invariant-loop-i l = NoneAnswers l.used l.children l.child l.print l.card l.deck l.i
