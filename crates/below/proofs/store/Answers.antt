-- `below::store` meets its contract. Assumes nothing.
use native.Mathlib.Omega.{arith}
use lib.ListN.{length-set}
use mir.Val.{bool_byte}
use mathlib.Core.Bool.{Bool, true, false, cond}
use mathlib.Core.Path.{◌≡◌, refl}
use Rattle.below.proofs.store.Goals as goal

-- a test as a number
bit : (b : Bool) → bool_byte b ≡ cond b 1 0
bit true = refl
bit false = refl

pub bounds-below-i-2 : goal.bounds-below-i-2
bounds-below-i-2 c = simp length-set (omega arith)

pub bounds-below-i-3 : goal.bounds-below-i-3
bounds-below-i-3 c = simp length-set (omega arith)

pub bounds-below-i-4 : goal.bounds-below-i-4
bounds-below-i-4 c = simp length-set (omega arith)

pub returns : goal.returns
returns c = rw (c.from.ensures, c.unwrap_or.ensures, bit c.args.stands.union)
