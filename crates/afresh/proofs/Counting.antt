-- What put counted, and the new source read afresh.
use mathlib.Core.Path.{◌≡◌, ap, ◌∙◌, subst}
use Prim.Native.Nat.{◌≤◌}
use native.Mathlib.Omega.{arith}
use lib.ListN.{length, take}
use Rattle.semantics.specs.Text.{Text}
use Rattle.semantics.specs.Lens.{entries}
use Rattle.semantics.specs.Calls.{gives, refuses, buffer_after, get_call, put_call}
use Rattle.semantics.specs.Calls.{Answer as Outcome}
use Rattle.semantics.specs.Tally.{Tally, put_tally}
use Rattle.laws.specs.Refusals.{get_named, put_named}
use Rattle.laws.specs.Demand3.{put_then_get}
use Rattle.laws.specs.Tally.{tally_old, tally_new}
use Rattle.answers.specs.Outcomes.{put_answer_for}
use Rattle.noontrough.specs.declared.PutNumbers.{PutNumbers}
use Rattle.noontrough.specs.Exports.{put_numbers_of, ExportsSource}
use Rattle.noontrough.specs.Numbers.{result_iff, source_result_iff}
use Rattle.afresh.specs.declared.tallied.ReadAfresh.{ReadAfresh}
use Rattle.demands.specs.Demands.{blank, LinkedMade, LinkedRestores}
use Rattle.afresh.specs.Counting.{new_source, ReadMade, CountsAfresh}
use Rattle.demands.proofs.Following.{blank_length, given_text}

-- the length that is answered lies within the buffer
pub source_held :
    (outcome : Outcome Text) (n : Tally) (before given : Text) (first : PutNumbers)
    → ExportsSource outcome n before given first
    → first.length ≤ length given
unfolding put_answer_for
source_held (gives t) n before given first exported =
    let long : first.length ≡ length t = ap (λ (m : PutNumbers). m.length) exported.numbers_are in
    omega (arith, (given_text t before given exported.buffer_is).1)
source_held (refuses number node) n before given first exported =
    let none : first.length ≡ 0 = ap (λ (m : PutNumbers). m.length) exported.numbers_are in
    omega arith

-- what put gave, by its numbers
record Gave (outcome : Outcome Text) (n : Tally) (given : Text) (first : PutNumbers) : Type 0 where
  text : Text
  gave : outcome ≡ gives text
  at_start : take first.length given ≡ text
  kept_is : first.kept ≡ n.kept
  made_is : first.made ≡ n.made
  dropped_is : first.dropped ≡ n.dropped

gave_of :
    (outcome : Outcome Text) (n : Tally) (before given : Text) (first : PutNumbers) (t : Text)
    → ExportsSource outcome n before given first
    → outcome ≡ gives t
    → Gave outcome n given first
unfolding put_answer_for
gave_of outcome n before given first t exported is =
    let numbers : first ≡ put_numbers_of (put_answer_for (gives t) n) = exported.numbers_are ∙ ap (λ o. put_numbers_of (put_answer_for o n)) is in
    let long : first.length ≡ length t = ap (λ (m : PutNumbers). m.length) numbers in
    record {
      text = t;
      gave = is;
      at_start = rw long (given_text t before given (exported.buffer_is ∙ ap (λ o. buffer_after o before) is)).0;
      kept_is = ap (λ (m : PutNumbers). m.kept) numbers;
      made_is = ap (λ (m : PutNumbers). m.made) numbers;
      dropped_is = ap (λ (m : PutNumbers). m.dropped) numbers;
    }

module _ {bytes a old : Text} {r : ReadAfresh} (made : ReadMade bytes a old r) where
  gave_here : r.first.number ≡ 0 → Gave (put_call bytes a old 4096) (put_tally bytes a old) r.given r.first
  gave_here zero =
      let named = put_named bytes a old 4096 in
      let (t, is) = (source_result_iff (put_call bytes a old 4096) (put_tally bytes a old) blank r.given r.first named made.put_made).0 zero in
      gave_of (put_call bytes a old 4096) (put_tally bytes a old) blank r.given r.first t made.put_made is

  pub counts_afresh : LinkedRestores bytes (take r.first.length r.given) r.afresh → CountsAfresh bytes old r
  unfolding new_source
  counts_afresh restores =
      record {
        old_counted =
            λ l p zero.
            let g = gave_here zero in
            rw (g.kept_is, g.dropped_is) (tally_old bytes a old g.text 4096 l p g.gave);
        new_counted =
            λ l p zero few.
            let g = gave_here zero in
            let t = take r.first.length r.given in
            let got : get_call bytes t 4096 ≡ gives a = rw g.at_start (put_then_get bytes a old g.text g.gave) in
            let number = (result_iff (get_call bytes t 4096) blank r.afresh.given r.afresh.first (get_named bytes t 4096) made.read_made.first_made).1 (a, got) in
            let second = (restores.linked_restores l p few number).0 in
            let kept : r.afresh.second.kept ≡ length (entries l t) = ap (λ (m : PutNumbers). m.kept) second in
            let new = tally_new bytes a old g.text 4096 l p g.gave in
            rw (g.kept_is, g.made_is, kept, g.at_start) new;
      }

-- the calls as they were made: put with a blank buffer, and the others with the text that it gave
pub read_made :
    (bytes a old : Text) {x : Text} {r : ReadAfresh}
    → x ≡ blank
    → ExportsSource (put_call bytes a old (length x)) (put_tally bytes a old) x r.given r.first
    → let t = take r.first.length r.given in
    LinkedMade (get_call bytes t 4096) (λ b. put_call bytes b t 4096) (λ b. put_tally bytes b t) r.afresh
    → ReadMade bytes a old r
unfolding new_source
read_made bytes a old {x} {r} is given read =
    let room : length x ≡ 4096 = ap length is ∙ blank_length in
    let given' = subst (λ k. ExportsSource (put_call bytes a old k) (put_tally bytes a old) x r.given r.first) room given in
    record {
      put_made = subst (λ b. ExportsSource (put_call bytes a old 4096) (put_tally bytes a old) b r.given r.first) is given';
      read_made = read;
    }
