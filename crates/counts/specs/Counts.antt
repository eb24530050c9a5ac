-- The counts of a put.
use Rattle.std.specs.Prelude.{◌≡◌, Bool, cond, List, [], ◌∷◌, ℕ, ◌+◌, ◌-◌, ◌≤◌, Some}
use Rattle.answers.specs.declared.Tally.{Tally}
use Rattle.counts.specs.declared.Made.{Made}

-- how many entries were not taken, by their marks
unfoldable pub unused_of : List Bool → ℕ
unused_of [] = 0
unused_of (used ∷ others) = cond used 0 1 + unused_of others

-- No more old entries are left than there were, and each of the others was met.
pub record CountsFit (source : Made) (entries : ℕ) : Type 0 where
  pub fit : (n : ℕ) → source.wrote ≡ Some n → (source.dropped ≤ entries) × (entries - source.dropped ≤ source.met)

-- The old entries are kept or dropped, and the matches kept or made.
pub record TalliesFrom (source : Made) (entries : ℕ) (r : Tally) : Type 0 where
  pub counts :
      (n : ℕ)
      → source.wrote ≡ Some n
      → (r.kept + source.dropped ≡ entries) × (r.kept + r.made ≡ source.met) × (r.dropped ≡ source.dropped)
