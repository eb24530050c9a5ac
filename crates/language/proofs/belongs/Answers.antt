-- `language::belongs` meets its contract. The loop's invariant: the run has read the bytes up to here. Assumes nothing.
use native.Mathlib.Omega.{arith}
use Rattle.language.proofs.Reading.{reading_begins, reading_more, reading_all, reading_none}
use Rattle.language.proofs.belongs.Goals as goal

pub loop-byte-init : goal.loop-byte-init
loop-byte-init c = reading_begins c.requires

pub returns-then-is_empty : goal.returns-then-is_empty
returns-then-is_empty c r d = reading_none c.loop-byte.invariant d (c.is_empty.ensures.0 c.if-is_empty.true) (omega arith)

pub loop-byte-preserved : goal.loop-byte-preserved
loop-byte-preserved c = reading_more (omega arith) c.loop-byte.invariant c.advance-run.ensures

pub returns : goal.returns
returns c r d = reading_all c.loop-byte.invariant d (omega arith)
