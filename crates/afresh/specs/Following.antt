-- A linked call that gets the text that a first one gave, by numbers.
use Rattle.std.specs.Prelude.{◌≡◌, ◌≤◌, length}
use Rattle.semantics.specs.Text.{Text}
use Rattle.semantics.specs.Calls.{Answer as Outcome}
use Rattle.semantics.specs.Tally.{Tally}
use Rattle.laws.specs.Refusals.{Named}
use Rattle.noontrough.specs.declared.Numbers.{Numbers}
use Rattle.noontrough.specs.declared.PutNumbers.{PutNumbers}
use Rattle.noontrough.specs.Exports.{ExportsText, ExportsSource}
use Rattle.demands.specs.Demands.{then_call, then_count}

pub record LinkedHeld (given : Text) (first : Numbers) : Type 0 where
  pub within : first.number ≡ 0 → first.length ≤ length given

pub record LinkedFollows
    (given : Text) (first : Numbers) (second : Text → Outcome Text) (count : Text → Tally) (before after : Text) (numbers : PutNumbers) : Type 0 where
  pub follows :
      (outcome : Outcome Text) (start : Text)
      → Named outcome
      → ExportsText outcome start given first
      → ExportsSource (then_call outcome second) (then_count outcome count) before after numbers
