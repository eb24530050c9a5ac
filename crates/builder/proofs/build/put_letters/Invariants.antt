-- `builder::build::put_letters` meets its contract. The invariant: the letters below p have their rows. Assumes nothing.
use Rattle.builder.specs.Build.{Lettered}
use Rattle.builder.proofs.build.put_letters.Given as goal

abbrev pub invariant-loop-p : goal.invariant-loop-p
invariant-loop-p l = Lettered l.row l.p l.letters l.initial.prepared l.prepared
