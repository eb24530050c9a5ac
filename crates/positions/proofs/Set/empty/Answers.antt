-- `positions::Set::empty` meets its contract: zero has no bit. Assumes nothing.
use mathlib.Core.Path.{refl}
use Prim.Native.Nat.{◌-◌}
use Rattle.positions.proofs.Bits.{bit_zero, holds_by}
use Rattle.positions.proofs.Set.empty.Goals as goal

pub returns : goal.returns
returns c p = holds_by _ p (λ h. bit_zero p) (λ h l. bit_zero (p - 64)) (λ h. refl)
