-- `language::belongs` meets its contract. The loop's invariant: the run has read the bytes up to here. Assumes nothing.
use Rattle.language.proofs.Reading.{Reading}
use Rattle.language.proofs.belongs.Given as goal

abbrev pub invariant-loop-byte : goal.invariant-loop-byte
invariant-loop-byte l = Reading l.prepared l.a l.text l.byte-index l.run
