-- `builder::rows::copy_rows` meets its contract. The invariant: the rows below p are copied. Assumes nothing.
use Rattle.builder.specs.Build.{Copied}
use Rattle.builder.proofs.rows.copy_rows.Given as goal

abbrev pub invariant-loop-p : goal.invariant-loop-p
invariant-loop-p l = Copied l.from l.to l.p l.up l.last l.more l.initial.prepared l.prepared
