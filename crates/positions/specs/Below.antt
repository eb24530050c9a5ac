-- How a walk over the positions of a set goes on.
use Rattle.std.specs.Prelude.{◌≡◌, false, cond, ℕ, zero, suc, ◌<◌, Option, None, Some}
use Rattle.positions.specs.declared.Set.{Set}
use Rattle.positions.specs.declared.Below.{Below}
use Rattle.positions.specs.Positions.{holds, Removed, FirstFrom}

-- how many positions below n the set holds
unfoldable pub held_below : ℕ → Set → ℕ
held_below zero s = 0
held_below (suc n) s = cond (holds s n) (suc (held_below n s)) (held_below n s)

-- The lowest position that is left comes, and goes from what is left.
pub record Taken (before : Below) (p : ℕ) (after : Below) : Type 0 where
  pub inside : p < before.end
  pub small : p < 128
  pub first : FirstFrom before.left 0 p
  pub removed : Removed before.left p after.left
  pub same_end : after.end ≡ before.end

-- None is left below the end.
pub record Done (before : Below) : Type 0 where
  pub none_left : (p : ℕ) → p < before.end → holds before.left p ≡ false

abbrev pub Gives : Below → Option ℕ → Below → Type 0
Gives before None after = Done before
Gives before (Some p) after = Taken before p after
