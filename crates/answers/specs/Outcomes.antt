-- What the contracts of the calls say beside the definitions of the calls.
use Rattle.std.specs.Prelude.{◌≡◌, ℕ, length, Option, Some, None, Result, Ok, Err}
use Rattle.semantics.specs.Text.{Text}
use Rattle.semantics.specs.Calls.{gives, refuses, buffer_after}
use Rattle.semantics.specs.Calls.{Answer as Outcome}
use Rattle.semantics.specs.Tally.{Tally}
use Rattle.clash.specs.Clash.{no_clash, clash, refused}
use Rattle.clash.specs.Clash as Clashes
use Rattle.table.specs.declared.Refusal.{Refusal}
use Rattle.table.specs.Prepared.{refusal}
use Rattle.answers.specs.declared.Sourced.{Sourced}
use Rattle.answers.specs.declared.Clash.{Clash}
use Rattle.answers.specs.declared.Reply.{Reply}

-- the length of a result, or a refusal
abbrev pub Answer : Type 0
Answer = Result ℕ Refusal

-- the length and the counts of a put's result, or a refusal
abbrev pub PutAnswer : Type 0
PutAnswer = Result Sourced Refusal

abbrev pub sourced : ℕ → ℕ → ℕ → ℕ → Sourced
sourced length kept made dropped = record { length = length; tally = record { kept = kept; made = made; dropped = dropped } }

-- a clash or none, or a refusal
abbrev pub ClashAnswer : Type 0
ClashAnswer = Result (Option Clash) Refusal

abbrev pub clash_found : ℕ → ℕ → ℕ → ℕ → ℕ → Clash
clash_found number node length first second = record { number = number; node = node; length = length; first = first; second = second }

-- Document 01's number and values for each case of the engine's answers: a result with its length, or the refusal with its number and node.
unfoldable pub answer_for : {A : Type 0} → (A → ℕ) → Outcome A → Answer
answer_for len (gives x) = Ok (len x)
answer_for len (refuses number node) = Err (refusal number node)

-- The answer, and the whole buffer afterwards, are those of the outcome.
pub record GivesText (outcome : Outcome Text) (before after : Text) (answer : Answer) : Type 0 where
  pub answer_is : answer ≡ answer_for length outcome
  pub buffer_is : after ≡ buffer_after outcome before

-- Document 02: 'The counts come with put's result.' A refusal has none.
unfoldable pub put_answer_for : Outcome Text → Tally → PutAnswer
put_answer_for (gives t) n = Ok (sourced (length t) n.kept n.made n.dropped)
put_answer_for (refuses number node) n = Err (refusal number node)

-- Put's answer, and the whole buffer afterwards, are those of the outcome; the counts of a result are those.
pub record GivesSource (outcome : Outcome Text) (n : Tally) (before after : Text) (answer : PutAnswer) : Type 0 where
  pub answer_is : answer ≡ put_answer_for outcome n
  pub buffer_is : after ≡ buffer_after outcome before

-- Put's answer without the counts
unfoldable pub untallied : PutAnswer → Answer
untallied (Ok made) = Ok made.length
untallied (Err r) = Err r

-- The same with the counts beside the answer; beside a refusal stands whatever it be.
pub record RepliesSource (outcome : Outcome Text) (n : Tally) (before after : Text) (reply : Reply) : Type 0 where
  pub counts :
      (t : Text) → outcome ≡ gives t → (reply.tally.kept ≡ n.kept) × (reply.tally.made ≡ n.made) × (reply.tally.dropped ≡ n.dropped)
  pub gives : GivesText outcome before after reply.answer

-- Clash's answer for each outcome: the length of the text, and its two ends
unfoldable pub clash_answer_for : Clashes.Outcome → ClashAnswer
clash_answer_for no_clash = Ok None
clash_answer_for (clash number node t ends) = Ok (Some (clash_found number node (length t) ends.0 ends.1))
clash_answer_for (refused number node) = Err (refusal number node)

-- Clash's answer, and the whole buffer afterwards, are those of the outcome.
pub record GivesClash (outcome : Clashes.Outcome) (before after : Text) (answer : ClashAnswer) : Type 0 where
  pub answer_is : answer ≡ clash_answer_for outcome
  pub buffer_is : after ≡ Clashes.buffer_after outcome before
