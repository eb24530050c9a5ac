-- The source that a put makes, and what it is written from.
use Rattle.std.specs.Prelude.{◌≡◌, ℕ, length}
use Rattle.std.proofs.Math.Option.{some}
use Rattle.semantics.specs.Text.{Text}
use Rattle.semantics.specs.Lens.{Lens, put}
use Rattle.semantics.specs.Calls.{gives, program}
use Rattle.semantics.specs.Tally.{met, tally}
use Rattle.std.specs.Prelude.{None}
use Rattle.answers.specs.Results.{Makes}
use Rattle.books.specs.declared.Place.{Place}
use Rattle.counts.specs.declared.Made.{Made}

-- What the root puts is written into a slice; if it fits, the matches that were met are counted, and the old entries that are left.
pub record MakesSource (bytes new old before after : Text) (r : Made) : Type 0 where
  pub makes : Makes bytes (λ l. put l new old) before after r.wrote
  pub counts : (l : Lens) → program bytes ≡ gives l → ¬ (r.wrote ≡ None) → (r.met ≡ length (met l (some old) new)) × (r.dropped ≡ (tally l new old).dropped)

-- ---- The deck of a put

-- where an old source of that length stands in the deck, and where its positions begin
abbrev pub whole_of : ℕ → Place
whole_of len = record { start = 0; len = len; base = 0 }
