-- `spelling::write_text` meets its contract. The loop's invariant: the first i bytes are written. Assumes nothing.
use Rattle.spelling.proofs.Writing.{Written}
use Rattle.spelling.proofs.write_text.Given as goal

abbrev pub invariant-loop-i : goal.invariant-loop-i
invariant-loop-i l = Written l.prepared l.search.quest.now l.search.leads.now l.order l.starts l.length l.alive l.out l.i
