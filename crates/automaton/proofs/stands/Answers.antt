-- `automaton::stands` meets its contract: a letter is compared, and of a class one bit is asked. Assumes nothing.
use Rattle.positions.specs.Positions.{bit}
use Rattle.positions.proofs.Bits.{same_test}
use Rattle.automaton.proofs.Standing.{stands_letter, stands_class, class_bit}
use mathlib.Core.Path.{sym, ◌∙◌}
use native.Mathlib.Omega.{arith}
use Rattle.automaton.proofs.stands.Goals as goal

pub returns-then-held-lt256 : goal.returns-then-held-lt256
returns-then-held-lt256 c = same_test _ c.args.byte c.args.byte _ sym sym ∙ sym (stands_letter c.args.prepared.now c.args.row c.if-held-lt256.true c.args.byte)

pub returns : goal.returns
unfolding bit
returns c =
    sym (
    stands_class c.args.prepared.now c.args.row c.if-held-lt256.false c.args.byte
    ∙ class_bit c.args.prepared.now _ c.args.byte (omega arith)
    )
