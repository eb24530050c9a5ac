-- Two calls with blank buffers of 65,535 bytes, one after the other: what both gave, from what each gave.
use mathlib.Core.Path.{◌≡◌, ap, ◌∙◌, subst}
use Prim.Native.Nat.{ℕ}
use lib.ListN.{length, length-replicate}
use Rattle.std.specs.Prelude.{replicate}
use Rattle.semantics.specs.Text.{Text}
use Rattle.semantics.specs.Calls.{gives}
use Rattle.semantics.specs.Calls.{Answer as Outcome}
use Rattle.answers.specs.Outcomes.{GivesText}
use Rattle.engine.specs.Demand3.{Gave, gave_of, of_gave}
use Rattle.demands.specs.Demands.{then_call}
use Rattle.demands.specs.Following.{Follows}
use Rattle.exchange.specs.declared.Exchange.{Exchange}
use Rattle.exchange.specs.Exchange.{blank, Made}

-- by the law on any such list, and not by counting at this length
blank_length : length blank ≡ 65535
unfolding blank
blank_length = length-replicate {A = ℕ} 65535 0

-- the buffer that each call gets
pub blank_is : {buffer : Text} → buffer ≡ replicate 65535 0 → buffer ≡ blank
unfolding blank
blank_is e = e

-- a call that got a blank buffer
blank_made :
    (call : ℕ → Outcome Text) {before : Text} (Gives : Outcome Text → Text → Type 0)
    → before ≡ blank
    → Gives (call (length before)) before
    → Gives (call 65535) blank
blank_made call {before} Gives e given =
    let room : length before ≡ 65535 = ap length e ∙ blank_length in
    subst (λ b. Gives (call 65535) b) e (subst (λ n. Gives (call n) before) room given)

pub made :
    (first : ℕ → Outcome Text) (second : ℕ → Text → Outcome Text) {x y : Text} {r : Exchange}
    → x ≡ blank
    → y ≡ blank
    → GivesText (first (length x)) x r.given r.first
    → Follows r.given r.first (second (length y)) y r.again r.second
    → Made (first 65535) (second 65535) r
made first second {x} {y} {r} ex ey given then =
    let one = blank_made first (λ o b. GivesText o b r.given r.first) ex given in
    let two = then.follows (first 65535) blank one in
    record {
      first_made = one;
      second_made = blank_made (λ n. then_call (first 65535) (second n)) (λ o b. GivesText o b r.again r.second) ey two;
    }

module _ {first : Outcome Text} {second : Text → Outcome Text} {r : Exchange} (calls : Made first second r) where
  -- what the first call gave is its outcome
  pub first_gave : (a : Text) → Gave r.given r.first a → first ≡ gives a
  first_gave a gave = of_gave first a blank r.given r.first calls.first_made gave

  -- where the definitions lead from what the first gives to what the second gives, the calls do
  pub second_gave : (a b : Text) → (first ≡ gives a → second a ≡ gives b) → Gave r.given r.first a → Gave r.again r.second b
  unfolding then_call
  second_gave a b leads gave =
      let is : first ≡ gives a = first_gave a gave in
      let then : then_call first second ≡ gives b = rw is (leads is) in
      gave_of (then_call first second) b blank r.again r.second then calls.second_made
