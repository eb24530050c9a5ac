-- Document 02 (ii), about the calls as they are: 'Programs without kind 5 get the answers they had.' What the contract of a call says with today's
-- definition it says with that of before sets (`Before` in `laws`) too: the answer, the counts, and every byte of the buffer.
use Rattle.std.specs.Prelude.{◌≡◌, ℕ, length}
use Rattle.std.proofs.Common.{ap, subst, ◌∙◌}
use Rattle.semantics.specs.Text.{Text}
use Rattle.semantics.specs.Table.{nodes}
use Rattle.semantics.specs.Calls.{check_call, get_call, put_call, create_call}
use Rattle.semantics.specs.Tally.{put_tally}
use Rattle.laws.specs.Before as was
use Rattle.laws.specs.WithoutSets.{NoSets, check_as_before, get_as_before, put_as_before, create_as_before, counts_as_before}
use Rattle.answers.specs.Outcomes.{Answer, PutAnswer, answer_for, GivesText, GivesSource}

module _ (bytes : Text) (without : NoSets (nodes bytes)) where
  pub check_had : (answer : Answer) → answer ≡ answer_for (λ (n : ℕ). n) (check_call bytes) → answer ≡ answer_for (λ (n : ℕ). n) (was.check_call bytes)
  check_had answer e = e ∙ ap (answer_for (λ (n : ℕ). n)) (check_as_before bytes without)

  pub get_had :
      (t before after : Text) (answer : Answer)
      → GivesText (get_call bytes t (length before)) before after answer
      → GivesText (was.get_call bytes t (length before)) before after answer
  get_had t before after answer = subst (λ o. GivesText o before after answer) (get_as_before bytes without t (length before))

  pub create_had :
      (a before after : Text) (answer : Answer)
      → GivesText (create_call bytes a (length before)) before after answer
      → GivesText (was.create_call bytes a (length before)) before after answer
  create_had a before after answer = subst (λ o. GivesText o before after answer) (create_as_before bytes without a (length before))

  pub put_had :
      (a old before after : Text) (answer : PutAnswer)
      → GivesSource (put_call bytes a old (length before)) (put_tally bytes a old) before after answer
      → GivesSource (was.put_call bytes a old (length before)) (was.put_tally bytes a old) before after answer
  put_had a old before after answer given =
      subst (λ n. GivesSource (was.put_call bytes a old (length before)) n before after answer) (counts_as_before bytes without a old)
      (subst (λ o. GivesSource o (put_tally bytes a old) before after answer) (put_as_before bytes without a old (length before)) given)
