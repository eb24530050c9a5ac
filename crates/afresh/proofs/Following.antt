-- Two linked calls, one after the other: what the second gives, from what the first gave, by numbers.
use mathlib.Core.Path.{◌≡◌, refl, ap, ap₂, ◌∙◌, subst}
use Prim.Native.Nat.{ℕ, ◌≤◌}
use native.Mathlib.Omega.{arith}
use lib.ListN.{length, take}
use Rattle.semantics.specs.Text.{Text}
use Rattle.semantics.specs.Calls.{gives, refuses, buffer_after}
use Rattle.semantics.specs.Calls.{Answer as Outcome}
use Rattle.semantics.specs.Tally.{Tally}
use Rattle.laws.specs.Refusals.{Named}
use Rattle.answers.specs.Outcomes.{answer_for, put_answer_for}
use Rattle.noontrough.specs.declared.Numbers.{Numbers}
use Rattle.noontrough.specs.declared.PutNumbers.{PutNumbers}
use Rattle.noontrough.specs.Exports.{numbers_of, put_numbers_of, ExportsText, ExportsSource}
use Rattle.noontrough.specs.Numbers.{result_iff}
use Rattle.demands.specs.declared.LinkedCalls.{LinkedCalls}
use Rattle.demands.specs.Demands.{blank, then_call, then_count, LinkedMade}
use Rattle.demands.proofs.Following.{given_text, both_made}
use Rattle.afresh.specs.Following.{LinkedHeld, LinkedFollows}

-- number 0 says that the first call gave a text
module _ {outcome : Outcome Text} {start given : Text} {first : Numbers} (named : Named outcome) (exported : ExportsText outcome start given first) where
  zero_text :
      first.number ≡ 0
      → (t : Text) × (outcome ≡ gives t) × (first.length ≡ length t) × (take (length t) given ≡ t) × (length t ≤ length given)
  unfolding answer_for
  zero_text zero =
      let (t, is) = (result_iff outcome start given first named exported).0 zero in
      let lengths : first.length ≡ length t = ap (λ (n : Numbers). n.length) (exported.numbers_are ∙ ap (λ o. numbers_of (answer_for length o)) is) in
      let text = given_text t start given (exported.buffer_is ∙ ap (λ o. buffer_after o start) is) in
      (t, is, lengths, text.0, text.1)

  pub linked_held : LinkedHeld given first
  linked_held = record { within = λ zero. let (t, is, lengths, text, held) = zero_text zero in omega arith }

module _ {given : Text} {first : Numbers} {second : Text → Outcome Text} {count : Text → Tally} {before after : Text} {numbers : PutNumbers} where
  pub linked_result :
      first.number ≡ 0
      → let text = take first.length given in
      ExportsSource (second text) (count text) before after numbers
      → LinkedFollows given first second count before after numbers
  unfolding then_call then_count
  linked_result zero made =
      record {
        follows =
            λ outcome start named h.
            let (t, is, lengths, text, held) = zero_text named h zero in
            let same : take first.length given ≡ t = ap (λ k. take k given) lengths ∙ text in
            rw is (subst (λ u. ExportsSource (second u) (count u) before after numbers) same made);
      }

  pub linked_refusal :
      (first.number ≡ 0 → ⊥)
      → after ≡ before
      → numbers ≡ record { number = first.number; node = first.node; length = 0; kept = 0; made = 0; dropped = 0 }
      → LinkedFollows given first second count before after numbers
  unfolding then_call buffer_after answer_for put_answer_for
  linked_refusal other unchanged stands = record { follows = go }
    where
      go :
          (outcome : Outcome Text) (start : Text) → Named outcome → ExportsText outcome start given first
          → ExportsSource (then_call outcome second) (then_count outcome count) before after numbers
      go (gives t) start named h = absurd (other ((result_iff (gives t) start given first named h).1 (t, refl)))
      go (refuses number node) start named h =
          let number_is : first.number ≡ number = ap (λ (n : Numbers). n.number) h.numbers_are in
          let node_is : first.node ≡ node = ap (λ (n : Numbers). n.node) h.numbers_are in
          record { numbers_are = stands ∙ rw (number_is, node_is) refl; buffer_is = unchanged }

pub linked_made :
    (first : ℕ → Outcome Text) (second : ℕ → Text → Outcome Text) (count : Text → Tally) {x y : Text} {r : LinkedCalls}
    → x ≡ blank
    → y ≡ blank
    → Named (first (length x))
    → ExportsText (first (length x)) x r.given r.first
    → LinkedFollows r.given r.first (second (length y)) count y r.again r.second
    → LinkedMade (first 4096) (second 4096) count r
linked_made first second count {x} {y} {r} ex ey named given then =
    let both = then.follows (first (length x)) x named given in
    let (one, two) = both_made ExportsText (λ o. λ p. ExportsSource p (then_count o count)) first second x y r.given r.again r.first r.second ex ey given both in
    record { first_made = one; second_made = two }

pub linked_gave :
    {first : Outcome Text} {second : Text → Outcome Text} {count : Text → Tally} {r : LinkedCalls}
    → LinkedMade first second count r
    → Named first
    → (b : Text) (n : Tally)
    → ((a : Text) → first ≡ gives a → (second a ≡ gives b) × (count a ≡ n))
    → r.first.number ≡ 0
    → (r.second ≡ put_numbers_of (put_answer_for (gives b) n)) × (take (length b) r.again ≡ b)
unfolding then_call then_count
linked_gave {first} {second} {count} {r} calls named b n leads zero =
    let (a, is) = (result_iff first blank r.given r.first named calls.first_made).0 zero in
    let then : then_call first second ≡ gives b = rw is (leads a is).0 in
    let counts : then_count first count ≡ n = rw is (leads a is).1 in (
      calls.second_made.numbers_are ∙ ap₂ (λ o m. put_numbers_of (put_answer_for o m)) then counts,
      (given_text b blank r.again (calls.second_made.buffer_is ∙ ap (λ o. buffer_after o blank) then)).0,
    )
