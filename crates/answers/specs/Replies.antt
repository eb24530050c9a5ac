-- Put's answer, from a reply whose counts stand beside it, and without its counts.
use Rattle.std.specs.Prelude.{◌≡◌, refl, length, Ok, Err}
use Rattle.std.proofs.Common.{ap, ◌∙◌}
use Rattle.semantics.specs.Text.{Text}
use Rattle.semantics.specs.Calls.{gives, refuses}
use Rattle.semantics.specs.Calls.{Answer as Outcome}
use Rattle.semantics.specs.Tally.{Tally}
use Rattle.answers.specs.declared.Tally.{Tally as Counts}
use Rattle.answers.specs.declared.Reply.{Reply}
use Rattle.answers.specs.Outcomes.{Answer, PutAnswer, answer_for, put_answer_for, GivesText, GivesSource, RepliesSource, untallied}

-- the counts of a result go into the answer, and those beside a refusal are left out
unfoldable pub with_tally : Answer → Counts → PutAnswer
with_tally (Ok length) n = Ok (record { length = length; tally = n })
with_tally (Err r) n = Err r

-- without its counts put's answer is that of a call that gives a text
untallied_is : (outcome : Outcome Text) (n : Tally) → untallied (put_answer_for outcome n) ≡ answer_for length outcome
unfolding untallied put_answer_for answer_for
untallied_is (gives t) n = refl
untallied_is (refuses number node) n = refl

-- so what is said of such calls is said of put
pub gives_text :
    {outcome : Outcome Text} {n : Tally} {before after : Text} {answer : PutAnswer}
    → GivesSource outcome n before after answer
    → GivesText outcome before after (untallied answer)
gives_text {outcome} {n} given = record { answer_is = ap untallied given.answer_is ∙ untallied_is outcome n; buffer_is = given.buffer_is }

-- the counts beside the answer are those of the outcome
with_tally_is :
    (outcome : Outcome Text) (n : Tally) (counts : Counts)
    → ((t : Text) → outcome ≡ gives t → (counts.kept ≡ n.kept) × (counts.made ≡ n.made) × (counts.dropped ≡ n.dropped))
    → with_tally (answer_for length outcome) counts ≡ put_answer_for outcome n
unfolding with_tally put_answer_for answer_for
with_tally_is (gives t) n counts same =
    let (kept, made, dropped) = same t refl in
    rw (← kept, ← made, ← dropped) refl
with_tally_is (refuses number node) n counts same = refl

-- put's answer, once its counts are in it
pub gives_source :
    {outcome : Outcome Text} {n : Tally} {before after : Text} {reply : Reply} {answer : PutAnswer}
    → RepliesSource outcome n before after reply
    → answer ≡ with_tally reply.answer reply.tally
    → GivesSource outcome n before after answer
gives_source {outcome} {n} {reply} replied is =
    record {
      answer_is = is ∙ ap (λ a. with_tally a reply.tally) replied.gives.answer_is ∙ with_tally_is outcome n reply.tally replied.counts;
      buffer_is = replied.gives.buffer_is;
    }
