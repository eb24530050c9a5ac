-- `ends::flag_rests` meets its contract. The loop's invariant: the text was read from its end to place i, and the flags from i on are set. Assumes nothing.
use native.Mathlib.Omega.{arith}
use lib.ListN.{length-set}
use Rattle.ends.proofs.Backward.{flag_is, backed_begins, backed_more}
use Rattle.ends.proofs.flag_rests.Goals as goal

pub loop-i-init : goal.loop-i-init
loop-i-init c = backed_begins c.args.flags.now c.from.result c.requires.room c.requires.text_in_bounds (flag_is c.from.ensures)

pub loop-i-preserved : goal.loop-i-preserved
loop-i-preserved c =
    let same = simp length-set at c.loop-i.auto.flags in
    let inside = c.loop-i.invariant.within in
    backed_more c.loop-i.flags c.from-in-loop-i.result (omega arith) (omega arith) (omega (arith, same, c.requires.text_in_bounds)) c.loop-i.invariant c.retreat-run.ensures (flag_is c.from-in-loop-i.ensures)

pub returns : goal.returns
returns c = record { flag_is = λ s d j l h. c.loop-i.invariant.flags_are.flag_is s d j (omega arith) h }
