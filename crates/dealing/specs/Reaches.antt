-- The reach that dealing begins with.
use Rattle.std.specs.Prelude.{cond, ℕ, ltb}
use Rattle.dealing.specs.declared.Reach.{Reach}
use Rattle.dealing.specs.declared.Reach.TheVariants.{Short, Long}

-- the short one, unless more entries have cards than a book holds
unfoldable pub first_reach : ℕ → Reach
first_reach entries = cond (ltb 256 entries) Long Short
