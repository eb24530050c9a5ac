-- Document 02, (i), about put's calls as they are: what their contract says (`GivesSource`) with the theorems of `laws` about the counts of a put. A
-- result's four numbers are its length and the entries kept, made and dropped.
use Rattle.std.specs.Prelude.{◌≡◌, refl, map, ℕ, ◌+◌, length, take, drop, Ok, Err}
use Rattle.std.proofs.Common.{sym, ap, ◌∙◌}
use Rattle.std.proofs.Math.Option.{some}
use Rattle.std.proofs.Math.Seq.{take-append_seam}
use Rattle.semantics.specs.Text.{Text}
use Rattle.semantics.specs.Lens.{Lens, entries}
use Rattle.semantics.specs.Calls.{gives, refuses, buffer_after, program, get_call, put_call}
use Rattle.semantics.specs.Calls.{Answer as Outcome}
use Rattle.semantics.specs.Tally.{Tally, met, put_tally}
use Rattle.laws.specs.Basics.{never}
use Rattle.laws.specs.WellTyped.{stamp}
use Rattle.laws.specs.Tally.{new_entries, tally_old, tally_new, tally_unedited}
use Rattle.table.specs.Prepared.{refusal}
use Rattle.answers.specs.Outcomes.{Answer, PutAnswer, sourced, put_answer_for, GivesText, GivesSource}
use Rattle.answers.proofs.Parts.{sourced_parts}
use Rattle.engine.specs.Demand3.{Gave, of_gave}

-- The source that put gave stands at the start of its buffer, and the numbers are its length and its counts.
record Counted (outcome : Outcome Text) (tally : Tally) (after : Text) (n kept made dropped : ℕ) : Type 0 where
  text : Text
  gave : outcome ≡ gives text
  at_start : take n after ≡ text
  kept_is : kept ≡ tally.kept
  made_is : made ≡ tally.made
  dropped_is : dropped ≡ tally.dropped

counted :
    (outcome : Outcome Text) (tally : Tally) (before after : Text) (answer : PutAnswer) {n kept made dropped : ℕ}
    → GivesSource outcome tally before after answer
    → answer ≡ Ok (sourced n kept made dropped)
    → Counted outcome tally after n kept made dropped
unfolding put_answer_for buffer_after
counted (gives t) tally before after answer {n} {kept} {made} {dropped} given result =
    let (long, kept_is, made_is, dropped_is) = sourced_parts (sym result ∙ given.answer_is) in
    record {
      text = t;
      gave = refl;
      at_start = rw long (ap (take (length t)) given.buffer_is ∙ take-append_seam t (drop (length t) before));
      kept_is = kept_is;
      made_is = made_is;
      dropped_is = dropped_is;
    }
counted (refuses number node) tally before after answer {n} {kept} {made} {dropped} given result =
    let wrong : ◌≡◌ {A = PutAnswer} (Ok (sourced n kept made dropped)) (Err (refusal number node)) = sym result ∙ given.answer_is in
    never (cc)

module _
    (bytes a old before after : Text)
    (answer : PutAnswer)
    (l : Lens)
    (n kept made dropped : ℕ)
    (is_program : program bytes ≡ gives l)
    (given : GivesSource (put_call bytes a old (length before)) (put_tally bytes a old) before after answer)
    (result : answer ≡ Ok (sourced n kept made dropped)) where
  here : Counted (put_call bytes a old (length before)) (put_tally bytes a old) after n kept made dropped
  here = counted (put_call bytes a old (length before)) (put_tally bytes a old) before after answer given result

  -- 'Kept plus dropped is the old source's number of entries'
  pub kept_and_dropped : kept + dropped ≡ length (entries l old)
  kept_and_dropped = rw (here.kept_is, here.dropped_is) (tally_old bytes a old here.text (length before) l is_program here.gave)

  -- 'kept plus made is the number found by reading the new source afresh'
  pub kept_and_made : kept + made ≡ length (entries l (take n after))
  kept_and_made = rw (here.kept_is, here.made_is, here.at_start) (tally_new bytes a old here.text (length before) l is_program here.gave)

  -- 'sheet entries': those that the put met are the new source's, by child and key, one by one and in order
  pub met_and_read : map stamp (entries l (take n after)) ≡ met l (some old) a
  met_and_read = rw here.at_start (new_entries bytes a old here.text (length before) l is_program here.gave)

-- A sheet that get gave, put back unedited: where that has a result, every entry is kept.
pub unedited_counts :
    (bytes t a before after before' after' : Text) (first : Answer) (second : PutAnswer) (l : Lens) (n kept made dropped : ℕ)
    → program bytes ≡ gives l
    → GivesText (get_call bytes t (length before)) before after first
    → Gave after first a
    → GivesSource (put_call bytes a t (length before')) (put_tally bytes a t) before' after' second
    → second ≡ Ok (sourced n kept made dropped)
    → (kept ≡ length (entries l t)) × (made ≡ 0) × (dropped ≡ 0)
unedited_counts bytes t a before after before' after' first second l n kept made dropped is_program got gave given result =
    let sheet = of_gave (get_call bytes t (length before)) a before after first got gave in
    let counts = tally_unedited bytes t a (length before) l is_program sheet in
    let here = counted (put_call bytes a t (length before')) (put_tally bytes a t) before' after' second given result in (
      here.kept_is ∙ ap (λ (m : Tally). m.kept) counts,
      here.made_is ∙ ap (λ (m : Tally). m.made) counts,
      here.dropped_is ∙ ap (λ (m : Tally). m.dropped) counts,
    )
