use Rattle.texts.proofs.Copying.{Copied}
use Rattle.texts.proofs.write_text.Given as goal

abbrev pub invariant-loop-i : goal.invariant-loop-i
invariant-loop-i l = Copied l.text l.initial.out l.out l.i
