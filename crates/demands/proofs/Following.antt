-- Two calls, one after the other: what the second gives, from what the first gave.
use mathlib.Core.Path.{◌≡◌, refl, sym, ap, ◌∙◌, subst}
use Prim.Native.Nat.{ℕ, ◌≤◌}
use native.Mathlib.Omega.{arith}
use lib.ListN.{length, take, drop, length-append, length-replicate}
use lib.Seq.{take-append_seam}
use Rattle.semantics.specs.Text.{Text}
use Rattle.semantics.specs.Calls.{gives, refuses, buffer_after}
use Rattle.semantics.specs.Calls.{Answer as Outcome}
use Rattle.semantics.specs.Tally.{Tally}
use Rattle.laws.specs.Basics.{never}
use Rattle.std.specs.Prelude.{replicate, Ok, Err}
use Rattle.table.specs.declared.Refusal.{Refusal}
use Rattle.table.specs.Prepared.{refusal}
use Rattle.answers.specs.Outcomes.{Answer, PutAnswer, answer_for, GivesText, GivesSource, untallied}
use Rattle.answers.specs.Replies.{gives_text}
use Rattle.engine.specs.Demand3.{Gave, gave_of, of_gave}
use Rattle.demands.specs.declared.trips.TwoCalls.{TwoCalls}
use Rattle.demands.specs.Demands.{blank, then_call, Made}
use Rattle.demands.specs.Following.{Held, Follows}

-- by the law on any such list: counted at this length it would take seconds
pub blank_length : length blank ≡ 4096
unfolding blank
blank_length = length-replicate {A = ℕ} 4096 0

-- the buffer that each call gets
pub blank_is : {buffer : Text} → buffer ≡ replicate 4096 0 → buffer ≡ blank
unfolding blank
blank_is e = e

-- put's answer without its counts, as the calls are made here
pub gives_plain :
    {outcome : Outcome Text} {n : Tally} {before after : Text} {answer : PutAnswer} {plain : Answer}
    → GivesSource outcome n before after answer
    → plain ≡ untallied answer
    → GivesText outcome before after plain
gives_plain given is = rw is (gives_text given)

-- ---- The first call

-- what it answered is its outcome
result_is : (outcome : Outcome Text) (before after : Text) (answer : Answer) (n : ℕ) → GivesText outcome before after answer → answer ≡ Ok n
    → (t : Text) × (outcome ≡ gives t) × (length t ≡ n)
unfolding answer_for
result_is (gives t) before after answer n given e =
    let lengths : ◌≡◌ {A = Answer} (Ok (length t)) (Ok n) = sym given.answer_is ∙ e in
    (t, refl, (cc))
result_is (refuses number node) before after answer n given e =
    let wrong : ◌≡◌ {A = Answer} (Err (refusal number node)) (Ok n) = sym given.answer_is ∙ e in
    never (cc)

refusal_is :
    (outcome : Outcome Text) (before after : Text) (answer : Answer) (r : Refusal) → GivesText outcome before after answer → answer ≡ Err r
    → outcome ≡ refuses r.number r.node
unfolding answer_for
refusal_is (gives t) before after answer r given e =
    let wrong : ◌≡◌ {A = Answer} (Ok (length t)) (Err r) = sym given.answer_is ∙ e in
    never (cc)
refusal_is (refuses number node) before after answer r given e =
    let same : ◌≡◌ {A = Refusal} (refusal number node) r = let errs : ◌≡◌ {A = Answer} (Err (refusal number node)) (Err r) = sym given.answer_is ∙ e in cc in
    ap (λ (x : Refusal). refuses x.number x.node) same

-- a text that was given is at the start of the buffer
pub given_text : (t before after : Text) → after ≡ buffer_after (gives t) before → (take (length t) after ≡ t) × (length t ≤ length after)
unfolding buffer_after
given_text t before after e =
    (ap (take (length t)) e ∙ take-append_seam t (drop (length t) before), omega (arith, ap length e, length-append t (drop (length t) before)))

-- so is what it answered
pub gives_held : {outcome : Outcome Text} {before after : Text} {answer : Answer} → GivesText outcome before after answer → Held after answer
gives_held {outcome} {before} {after} {answer} given =
    record {
      within =
          λ n e.
          let (t, is, long) = result_is outcome before after answer n given e in
          omega (arith, (given_text t before after (given.buffer_is ∙ ap (λ o. buffer_after o before) is)).1);
    }

-- ---- The second

module _ {given : Text} {first : Answer} {second : Text → Outcome Text} {before after : Text} {answer : Answer} where
  -- it got the first one's result
  pub follows_result :
      {n : ℕ} → first ≡ Ok n → GivesText (second (take n given)) before after answer
      → Follows given first second before after answer
  unfolding then_call
  follows_result {n} e made =
      record {
        follows =
            λ outcome start h.
            let (t, is, long) = result_is outcome start given first n h e in
            let text = (given_text t start given (h.buffer_is ∙ ap (λ o. buffer_after o start) is)).0 in
            let same : take n given ≡ t = ap (λ k. take k given) (sym long) ∙ text in
            rw is (subst (λ u. GivesText (second u) before after answer) same made);
      }

  -- the first one's refusal stands for both
  pub follows_refusal :
      {r : Refusal} → first ≡ Err r → after ≡ before → answer ≡ Err r
      → Follows given first second before after answer
  unfolding then_call answer_for buffer_after
  follows_refusal {r} e unchanged stands =
      record {
        follows = λ outcome start h. rw (refusal_is outcome start given first r h e) (record { answer_is = stands; buffer_is = unchanged });
      }

-- ---- Both

-- with blank buffers, however a call's outcome is answered
pub both_made :
    {N M : Type 0} (Gives : Outcome Text → Text → Text → N → Type 0) (Then : Outcome Text → Outcome Text → Text → Text → M → Type 0)
    (first : ℕ → Outcome Text) (second : ℕ → Text → Outcome Text)
    (x y given again : Text) (a : N) (b : M)
    → x ≡ blank
    → y ≡ blank
    → Gives (first (length x)) x given a
    → Then (first (length x)) (then_call (first (length x)) (second (length y))) y again b
    → Gives (first 4096) blank given a × Then (first 4096) (then_call (first 4096) (second 4096)) blank again b
both_made Gives Then first second x y given again a b ex ey one two =
    let room : length x ≡ 4096 = ap length ex ∙ blank_length in
    let room' : length y ≡ 4096 = ap length ey ∙ blank_length in
    let one' = subst (λ n. Gives (first n) x given a) room one in
    let two' = subst (λ n. Then (first n) (then_call (first n) (second (length y))) y again b) room two in
    let two'' = subst (λ n. Then (first 4096) (then_call (first 4096) (second n)) y again b) room' two' in
    (subst (λ z. Gives (first 4096) z given a) ex one', subst (λ z. Then (first 4096) (then_call (first 4096) (second 4096)) z again b) ey two'')

pub made :
    (first : ℕ → Outcome Text) (second : ℕ → Text → Outcome Text) {x y : Text} {r : TwoCalls}
    → x ≡ blank
    → y ≡ blank
    → GivesText (first (length x)) x r.given r.first
    → Follows r.given r.first (second (length y)) y r.again r.second
    → Made (first 4096) (second 4096) r
made first second {x} {y} {r} ex ey given then =
    let both = then.follows (first (length x)) x given in
    let (one, two) = both_made GivesText (λ o. GivesText) first second x y r.given r.again r.first r.second ex ey given both in
    record { first_made = one; second_made = two }

-- where the definitions lead from what the first gives to what the second gives, the calls do
pub second_gave :
    {first : Outcome Text} {second : Text → Outcome Text} {r : TwoCalls} → Made first second r → (a b : Text) → (first ≡ gives a → second a ≡ gives b)
    → Gave r.given r.first a
    → Gave r.again r.second b
unfolding then_call
second_gave {first} {second} {r} calls a b leads gave =
    let is : first ≡ gives a = of_gave first a blank r.given r.first calls.first_made gave in
    let then : then_call first second ≡ gives b = rw is (leads is) in
    gave_of (then_call first second) b blank r.again r.second then calls.second_made
