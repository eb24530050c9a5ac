-- `cards::fingerprint` meets its contract. The loop's invariant: the print is that of the bytes so far. Assumes nothing.
use Rattle.cards.proofs.Printing.{printed_none, printed_more, printed_all}
use Rattle.cards.proofs.fingerprint.Goals as goal

pub loop-byte-init : goal.loop-byte-init
loop-byte-init c = printed_none

pub loop-byte-preserved : goal.loop-byte-preserved
loop-byte-preserved c = rw c.from.ensures (printed_more c.loop-byte.invariant c.loop-byte-test.true)

pub returns : goal.returns
returns c = printed_all c.loop-byte.invariant c.loop-byte-test.false
