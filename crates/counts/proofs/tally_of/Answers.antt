-- `counts::tally_of` meets its contract. Assumes nothing.
use mathlib.Core.Path.{◌≡◌, refl}
use Prim.Native.Nat.{ℕ}
use native.Mathlib.Omega.{arith}
use Rattle.counts.proofs.tally_of.Goals as goal

pub overflow_sub-kept : goal.overflow_sub-kept
overflow_sub-kept c = omega (arith, c.requires.fit _ c.in-Some.is)

pub overflow_sub-result : goal.overflow_sub-result
overflow_sub-result c = omega (arith, c.requires.fit _ c.in-Some.is)

pub returns-in-None : goal.returns-in-None
returns-in-None c = record { counts = λ n e. absurd (let z : ◌≡◌ {A = ℕ} 0 1 = cc c.in-None.is in omega arith) }

pub returns-in-Some : goal.returns-in-Some
returns-in-Some c =
    let fit = c.requires.fit _ c.in-Some.is in
    record { counts = λ n e. (omega (arith, fit), omega (arith, fit), refl) }
