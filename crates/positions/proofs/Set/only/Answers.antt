-- `positions::Set::only` meets its contract: one shifted has the one bit, and the other number none. Assumes nothing.
use mathlib.Core.Path.{sym, ◌∙◌}
use Prim.Native.Nat.{◌-◌}
use native.Mathlib.Omega.{arith}
use borrow.Author.Tests.{ne_eqb}
use Rattle.positions.proofs.Bits.{bit_zero, bit_shifted, holds_by, same_test}
use Rattle.positions.proofs.Set.only.Goals as goal

pub returns-then-p-ge64 : goal.returns-then-p-ge64
returns-then-p-ge64 c q =
    let p = c.args.p in
    holds_by _ q
    (λ h. bit_zero q ∙ sym (ne_eqb q p (omega arith)))
    (λ h l. bit_shifted (p - 64) (q - 64) (omega arith) ∙ same_test (q - 64) (p - 64) q p (omega arith) (omega arith))
    (λ h. ne_eqb q p (omega arith))

pub returns-else-p-ge64 : goal.returns-else-p-ge64
returns-else-p-ge64 c q =
    let p = c.args.p in
    holds_by _ q
    (λ h. bit_shifted p q (omega arith))
    (λ h l. bit_zero (q - 64) ∙ sym (ne_eqb q p (omega arith)))
    (λ h. ne_eqb q p (omega arith))
