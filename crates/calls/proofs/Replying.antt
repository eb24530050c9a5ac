-- What a put counts and replies.
use mathlib.Core.Path.{◌≡◌, refl, sym, ap, ◌∙◌}
use mathlib.Core.Bool.{true, false, ◌||◌}
use mathlib.Core.Option.{some}
use Prim.Native.Nat.{ℕ, ◌+◌, ◌≤◌, ◌<◌}
use native.Mathlib.Omega.{arith}
use lib.ListN.{length}
use Rattle.semantics.specs.Text.{Text}
use Rattle.semantics.specs.Lens.{Lens, entries}
use Rattle.semantics.specs.Calls.{gives, program, max_text, too_long}
use Rattle.semantics.specs.Calls.{Answer as Outcome}
use Rattle.semantics.specs.Tally.{met, tally, put_tally}
use Rattle.semantics.specs.Tally.{Tally as Counts}
use Rattle.laws.specs.Met.{kept_dropped, kept_made}
use Rattle.laws.specs.Tally.{tally_is}
use Rattle.std.specs.Prelude.{Some, Ok, Err}
use Rattle.table.specs.declared.Refusal.{Refusal}
use Rattle.books.specs.declared.Book.{Book}
use Rattle.plains.proofs.Behind.{not_full}
use Rattle.answers.specs.declared.Tally.{Tally}
use Rattle.answers.specs.declared.Reply.{Reply}
use Rattle.answers.specs.Answers.{IsAccepted}
use Rattle.answers.specs.Outcomes.{Answer, answer_for, GivesText, RepliesSource}
use Rattle.answers.proofs.Giving.{too_long_lem, not_too_long}
use Rattle.counts.specs.declared.Made.{Made}
use Rattle.counts.specs.Counts.{CountsFit, TalliesFrom}
use Rattle.dealing.specs.Books.{BookReady}
use Rattle.sources.specs.Sources.{MakesSource}
use Rattle.calls.specs.Puts.{SameCounts}

-- ---- What is counted

module _ {bytes new old trail before after : Text} {r : Made} {b : Book} (book : BookReady bytes old trail b) (made : MakesSource bytes new old before after r) where
  -- the counts of the definitions, where there was room
  counts_are :
      (l : Lens)
      → program bytes ≡ gives l
      → (n : ℕ)
      → r.wrote ≡ Some n
      → let t = tally l new old in
      (t.dropped ≡ r.dropped) × (t.kept + r.dropped ≡ b.count) × (t.kept + t.made ≡ r.met)
  unfolding tally
  counts_are l e n counted =
      let (met_is, dropped_is) = made.counts l e (not_full counted) in
      let ms = met l (some old) new in
      let all : length (entries l old) ≡ b.count = ap length (sym (book.listed l e)) ∙ book.counted in
      let olds = kept_dropped ms (entries l old) in
      let news = kept_made ms (entries l old) in
      (sym dropped_is, omega (arith, olds, all, dropped_is), news ∙ sym met_is)

  -- so the tally can be taken from them
  pub counts_fit : (a : IsAccepted bytes) → CountsFit r b.count
  counts_fit a =
      record {
        fit = λ n counted.
            let (dropped_is, olds, news) = counts_are a.root a.gives_root n counted in
            (omega (arith, olds), omega (arith, olds, news));
      }

  -- and is that of the definitions
  pub tally_same :
      {taken : Tally}
      → TalliesFrom r b.count taken
      → (l : Lens)
      → program bytes ≡ gives l
      → (n : ℕ)
      → r.wrote ≡ Some n
      → SameCounts taken (tally l new old)
  tally_same from l e n counted =
      let (dropped_is, olds, news) = counts_are l e n counted in
      let (kept, met_all, dropped) = from.counts n counted in
      (omega (arith, kept, olds), omega (arith, kept, olds, met_all, news), dropped ∙ sym dropped_is)

-- ---- What is replied

-- a refusal is no result
pub no_result : {A : Type 0} {answer : Answer} {r : Refusal} {n : ℕ} → answer ≡ Err r → answer ≡ Ok n → A
no_result e f = absurd (let z : ◌≡◌ {A = ℕ} 0 1 = cc in omega arith)

-- so it needs no counts
pub refused_replies :
    {outcome : Outcome Text} {n : Counts} {before after : Text} {reply : Reply} {r : Refusal}
    → reply.answer ≡ Err r
    → GivesText outcome before after reply.answer
    → RepliesSource outcome n before after reply
unfolding answer_for
refused_replies e given = record { counts = λ t f. no_result e (given.answer_is ∙ ap (answer_for length) f); gives = given }

-- and the counts of a result are those of the program's root
pub put_replies :
    {bytes : Text} (new old : Text) {before after : Text} {reply : Reply} {outcome : Outcome Text}
    → IsAccepted bytes
    → ((l : Lens) → program bytes ≡ gives l → (n : ℕ) → reply.answer ≡ Ok n → SameCounts reply.tally (tally l new old))
    → GivesText outcome before after reply.answer
    → RepliesSource outcome (put_tally bytes new old) before after reply
unfolding answer_for
put_replies {bytes} new old a tallies given =
    record {
      counts = λ t f. rw (tally_is bytes new old a.root a.gives_root) (tallies a.root a.gives_root (length t) (given.answer_is ∙ ap (answer_for length) f));
      gives = given;
    }

-- ---- The lengths of both texts, of which either may be too long

pub first_long : (a old : Text) → max_text < length a → (too_long a || too_long old) ≡ true
first_long a old h = rw (too_long_lem a h) refl

pub second_long : (a old : Text) → length a ≤ max_text → max_text < length old → (too_long a || too_long old) ≡ true
second_long a old k h = rw (not_too_long a k, too_long_lem old h) refl

pub neither_long : (a old : Text) → length a ≤ max_text → length old ≤ max_text → (too_long a || too_long old) ≡ false
neither_long a old k h = rw (not_too_long a k, not_too_long old h) refl
