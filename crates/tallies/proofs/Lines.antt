-- The line of a put, from the answer of the call with a buffer of 4,096 bytes.
use mathlib.Core.Path.{◌≡◌, refl, sym, ap, ◌∙◌}
use lib.ListN.{length}
use Rattle.semantics.specs.Text.{Text}
use Rattle.semantics.specs.Calls.{gives, refuses, put_call, max_text, program_line}
use Rattle.semantics.specs.Calls.{Answer as Outcome}
use Rattle.semantics.specs.Tally.{Tally, put_tally, counts_line, put_line, tally_line}
use Rattle.laws.specs.Basics.{never}
use Rattle.std.specs.Prelude.{Ok, Err}
use Rattle.table.specs.declared.Refusal.{Refusal}
use Rattle.answers.specs.declared.Sourced.{Sourced}
use Rattle.answers.specs.Outcomes.{PutAnswer, put_answer_for, GivesSource}
use Rattle.answers.proofs.Parts.{refusal_parts, sourced_parts}
use Rattle.lines.specs.Line.{refused_line, counts}

counts_are :
    (bytes : Text) (outcome : Outcome Text) (n : Tally) {made : Sourced}
    → Ok made ≡ put_answer_for outcome n
    → counts_line (counts made.tally.kept made.tally.made made.tally.dropped) ≡ put_line bytes outcome n
unfolding put_answer_for put_line counts_line
counts_are bytes (gives t) n {made} e =
    let (long, kept_is, made_is, dropped_is) = sourced_parts e in
    rw (kept_is, made_is, dropped_is) refl
counts_are bytes (refuses number node) n e = never (cc)

refusal_is :
    (bytes : Text) (outcome : Outcome Text) (n : Tally) {r : Refusal}
    → Err r ≡ put_answer_for outcome n
    → refused_line r.number r.node ≡ put_line bytes outcome n
unfolding put_answer_for put_line program_line refused_line
refusal_is bytes (gives t) n e = never (cc)
refusal_is bytes (refuses number node) n {r} e =
    let (number_is, node_is) = refusal_parts e in
    rw (number_is, node_is) refl

module _
    (bytes sheet source : Text)
    {before after : Text}
    {answer : PutAnswer}
    (room : max_text ≡ length before)
    (given : GivesSource (put_call bytes sheet source (length before)) (put_tally bytes sheet source) before after answer) where
  answered : answer ≡ put_answer_for (put_call bytes sheet source max_text) (put_tally bytes sheet source)
  answered = given.answer_is ∙ ap (λ k. put_answer_for (put_call bytes sheet source k) (put_tally bytes sheet source)) (sym room)

  pub counts_line_lem : {made : Sourced} → answer ≡ Ok made → counts_line (counts made.tally.kept made.tally.made made.tally.dropped) ≡ tally_line bytes sheet source
  unfolding tally_line
  counts_line_lem e = counts_are bytes (put_call bytes sheet source max_text) (put_tally bytes sheet source) (sym e ∙ answered)

  pub refusal_line : {r : Refusal} → answer ≡ Err r → refused_line r.number r.node ≡ tally_line bytes sheet source
  unfolding tally_line
  refusal_line e = refusal_is bytes (put_call bytes sheet source max_text) (put_tally bytes sheet source) (sym e ∙ answered)
