-- Which bytes a class holds: those below 128 are the positions of `low`, those from 128 on, less 128, the positions of `high`.
use Rattle.std.specs.Prelude.{◌≡◌, Bool, true, false, ◌||◌, cond, ℕ, zero, suc, ◌-◌, ◌<◌, ltb}
use Rattle.positions.specs.Positions.{holds}
use Rattle.classes.specs.declared.Class.{Class}

-- Whether the class holds a byte. No class holds a number from 256 on.
unfoldable pub holds_byte : Class → ℕ → Bool
holds_byte c byte = cond (ltb byte 128) (holds c.low byte) (holds c.high (byte - 128))

-- Some byte is held by both.
abbrev pub SharedByte : Class → Class → Type 0
SharedByte c d = (byte : ℕ) × (byte < 256) × (holds_byte c byte ≡ true) × (holds_byte d byte ≡ true)

-- r is the lowest byte that both hold; if it is 256 or more, there is none.
pub record FirstShared (c d : Class) (r : ℕ) : Type 0 where
  pub in_both : r < 256 → (holds_byte c r ≡ true) × (holds_byte d r ≡ true)
  pub none_lower : (byte : ℕ) → byte < r → byte < 256 → holds_byte c byte ≡ true → ¬ (holds_byte d byte ≡ true)

-- whether the test is true of some number below n
unfoldable pub any_below : ℕ → (ℕ → Bool) → Bool
any_below zero test = false
any_below (suc n) test = test n || any_below n test
