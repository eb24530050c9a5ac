-- From an answer of the engine to the reply.
use mathlib.Core.Path.{◌≡◌, refl, sym, ap, ◌∙◌}
use mathlib.Core.List.{◌++◌}
use Prim.Native.Nat.{ℕ}
use native.Mathlib.Omega.{arith}
use lib.ListN.{length, drop}
use Rattle.std.specs.Prelude.{Option, Some, None, Ok, Err}
use Rattle.semantics.specs.Text.{Text}
use Rattle.semantics.specs.Lens.{Lens}
use Rattle.semantics.specs.Table.{node_count}
use Rattle.semantics.specs.Calls.{gives, refuses, program, with_program, check_call, lenscheck_line, buffer_after}
use Rattle.semantics.specs.Calls.{Answer as Outcome}
use Rattle.table.specs.declared.Refusal.{Refusal}
use Rattle.answers.proofs.Parts.{refusal_parts}
use Rattle.answers.specs.Outcomes.{Answer, answer_for, GivesText}
use Rattle.lines.specs.Line.{refused_line}
use Rattle.readings.proofs.Lines.{refused_line_lem}
use Rattle.commands.specs.Replies.{check_outcome, printed, number_of, answer_number, Replies, Finishes}

-- a result
pub finishes_result :
    {answer : Answer} {buffer : Text} {n : ℕ} → answer ≡ Ok n → Finishes answer buffer buffer (record { length = n; number = None })
unfolding answer_for buffer_after printed number_of
finishes_result {answer} {buffer} {n} e = record { finishes = go }
  where
    go : (outcome : Outcome Text) (before : Text) → GivesText outcome before buffer answer → Replies outcome before buffer (record { length = n; number = None })
    go (gives text) before g = record { text_is = g.buffer_is; length_is = cc g.answer_is; number_is = refl }
    go (refuses number node) before g = absurd (let z : ◌≡◌ {A = ℕ} 0 1 = cc g.answer_is in omega arith)

-- a refusal, whose line was put into the buffer
pub finishes_refusal :
    {answer : Answer} {between after : Text} {r : Refusal} {n : ℕ}
    → answer ≡ Err r
    → after ≡ refused_line r.number r.node ++ drop (length (refused_line r.number r.node)) between
    → n ≡ length (refused_line r.number r.node)
    → Finishes answer between after (record { length = n; number = Some r.number })
unfolding answer_for buffer_after printed number_of
finishes_refusal {answer} {between} {after} {r} {n} e after_is n_is = record { finishes = go }
  where
    go :
        (outcome : Outcome Text) (before : Text)
        → GivesText outcome before between answer
        → Replies outcome before after (record { length = n; number = Some r.number })
    go (gives text) before g = absurd (let z : ◌≡◌ {A = ℕ} 0 1 = cc g.answer_is in omega arith)
    go (refuses m k) before g =
        let (number_is, node_is) = refusal_parts (sym e ∙ g.answer_is) in
        record {
          text_is = rw (← number_is, ← node_is, ← g.buffer_is) after_is;
          length_is = rw (← number_is, ← node_is) n_is;
          number_is = ap Some number_is;
        }

-- what is printed of Check is the line of `lenscheck`, whether the program is accepted or refused
printed_check : (table : Text) → printed (check_outcome table) ≡ lenscheck_line table
unfolding check_outcome with_program printed
printed_check table = go (program table) refl
  where
    go : (p : Outcome Lens) → program table ≡ p → printed (with_program p (λ l. gives (lenscheck_line table))) ≡ lenscheck_line table
    go (gives l) e = refl
    go (refuses number node) e = refused_line_lem table number node e

number_check : (table : Text) → answer_number (answer_for (λ (n : ℕ). n) (check_call table)) ≡ number_of (check_outcome table)
unfolding check_outcome check_call with_program answer_for number_of
number_check table = go (program table)
  where
    go :
        (p : Outcome Lens)
        → answer_number (answer_for (λ (n : ℕ). n) (with_program p (λ l. gives (node_count table))))
        ≡ number_of (with_program p (λ l. gives (lenscheck_line table)))
    go (gives l) = refl
    go (refuses number node) = refl

pub check_replies :
    (table : Text) {before after : Text} {answer : Answer} {n : ℕ} {number : Option ℕ}
    → after ≡ lenscheck_line table ++ drop (length (lenscheck_line table)) before
    → n ≡ length (lenscheck_line table)
    → answer ≡ answer_for (λ (m : ℕ). m) (check_call table)
    → number ≡ answer_number answer
    → Replies (check_outcome table) before after (record { length = n; number = number })
check_replies table after_is n_is answer_is number_is =
    let line = printed_check table in
    record {
      text_is = rw line after_is;
      length_is = rw line n_is;
      number_is = number_is ∙ ap answer_number answer_is ∙ number_check table;
    }
