-- A call that gets the text that a first call gave.
use Rattle.std.specs.Prelude.{◌≡◌, ℕ, ◌≤◌, length, Ok}
use Rattle.semantics.specs.Text.{Text}
use Rattle.semantics.specs.Calls.{Answer as Outcome}
use Rattle.answers.specs.Outcomes.{Answer, GivesText}
use Rattle.demands.specs.Demands.{then_call}

-- The text that was answered is in the buffer.
pub record Held (given : Text) (first : Answer) : Type 0 where
  pub within : (n : ℕ) → first ≡ Ok n → n ≤ length given

-- Whatever the first call's outcome was, what is there now is what both calls give.
pub record Follows (given : Text) (first : Answer) (second : Text → Outcome Text) (before after : Text) (answer : Answer) : Type 0 where
  pub follows :
      (outcome : Outcome Text) (start : Text)
      → GivesText outcome start given first
      → GivesText (then_call outcome second) before after answer
