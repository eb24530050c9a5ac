-- `cards::fingerprint` meets its contract. The loop's invariant: the print is that of the first i bytes. Assumes nothing.
use Rattle.cards.proofs.Printing.{Printed}
use Rattle.cards.proofs.fingerprint.Given as goal

abbrev pub invariant-loop-byte : goal.invariant-loop-byte
invariant-loop-byte l = Printed l.text l.byte-index l.print
