-- What a try in a room says of the call, and what each call owes for a program that is refused.
use mathlib.Core.Path.{◌≡◌, refl, sym, ap, ◌∙◌, subst}
use Prim.Native.Nat.{ℕ}
use lib.ListN.{length}
use Rattle.semantics.specs.Text.{Text}
use Rattle.semantics.specs.Calls.{gives, refuses, program, with_program, get_call, put_call, create_call}
use Rattle.clash.specs.Clash.{no_clash, clash_of, clash_call, buffer_after}
use Rattle.std.specs.Prelude.{Option, Some, None, IsSome, Ok, Err}
use Rattle.table.specs.declared.Refusal.{Refusal}
use Rattle.table.specs.Prepared.{refusal}
use Rattle.answers.specs.Answers.{IsAccepted}
use Rattle.answers.specs.Outcomes.{clash_answer_for}
use Rattle.answers.specs.declared.Reply.{Reply}
use Rattle.laws.specs.Basics.{never}
use Rattle.answers.proofs.Verdicts.{never_small, check_refuses}
use Rattle.answers.proofs.Giving.{program_refuses}
use Rattle.engine.specs.declared.rooms.Call.{Call}
use Rattle.engine.specs.declared.rooms.Call.TheVariants.{Check, Get, Put, Create, Line, Clash}
use Rattle.readings.specs.Line.{line_call}
use Rattle.engine.specs.Rooms.{Owed, Owes, NoRoom, TriedIs, Tries}

-- the case that the call is
pub owes_as :
    {call which : Call} {bytes sheet source before after : Text} {reply : Reply}
    → call ≡ which
    → Owes which bytes sheet source before after reply
    → Owes call bytes sheet source before after reply
owes_as {call} {which} {bytes} {sheet} {source} {before} {after} {reply} e o =
    subst (λ (k : Call). Owes k bytes sheet source before after reply) (sym e) o

-- put gives nothing by a program that is refused, and so has nothing to count
put_refused : (bytes sheet source t : Text) (lent : ℕ) {number node : ℕ} → program bytes ≡ refuses number node → put_call bytes sheet source lent ≡ gives t → ⊥
unfolding put_call with_program
put_refused bytes sheet source t lent e given = let wrong = rw e at given in never (cc)

-- 'It checks the program itself on each call': a refused program is refused to each but Clash, which shows why
owed_refusal :
    (call : Call) (bytes sheet source before : Text) (reply : Reply) (number node : ℕ)
    → (call ≡ Clash → ⊥)
    → program bytes ≡ refuses number node
    → reply.answer ≡ Err (refusal number node)
    → Owed call bytes sheet source before before reply
unfolding Owed get_call put_call create_call line_call
owed_refusal Check bytes sheet source before reply number node other e is = record { answer_is = is ∙ check_refuses bytes number node e; buffer_is = refl }
owed_refusal Get bytes sheet source before reply number node other e is = rw is (program_refuses bytes _ e)
owed_refusal Put bytes sheet source before reply number node other e is =
    record {
      counts = λ t given. absurd (put_refused bytes sheet source t (length before) e given);
      gives = rw is (program_refuses bytes _ e);
    }
owed_refusal Create bytes sheet source before reply number node other e is = rw is (program_refuses bytes _ e)
owed_refusal Line bytes sheet source before reply number node other e is = rw is (program_refuses bytes _ e)
owed_refusal Clash bytes sheet source before reply number node other e is = absurd (other refl)

pub refused_to :
    {call : Call} {bytes sheet source before : Text} {reply : Reply} {r : Refusal}
    → (call ≡ Clash → ⊥)
    → program bytes ≡ refuses r.number r.node
    → reply.answer ≡ Err r
    → Owes call bytes sheet source before before reply
refused_to {call} {bytes} {sheet} {source} {before} {reply} {r} other e is =
    record { owed = owed_refusal call bytes sheet source before reply r.number r.node other e is }

-- 'Accepted programs answer that no clash exists'
pub clash_accepts :
    {bytes sheet source before : Text} {reply : Reply} → IsAccepted bytes → reply.clash ≡ Ok None → Owes Clash bytes sheet source before before reply
unfolding Owed clash_call clash_of clash_answer_for buffer_after
clash_accepts {bytes} {before = before} accepted is =
    let none : clash_call bytes (length before) ≡ no_clash = rw accepted.gives_root refl in
    record { owed = record { answer_is = is ∙ sym (ap clash_answer_for none); buffer_is = sym (ap (λ o. buffer_after o before) none) } }

module _ {size : ℕ} {call : Call} {bytes sheet source before between : Text} {tried : Option Reply} (tries : Tries size call bytes sheet source before between tried) where
  tried_as : {which : Option Reply} → tried ≡ which → TriedIs size call bytes sheet source before between which
  tried_as e = subst (λ (t : Option Reply). TriedIs size call bytes sheet source before between t) e tries.tried_is

  -- the call is done,
  pub done : {reply : Reply} → tried ≡ Some reply → Owes call bytes sheet source before between reply
  unfolding TriedIs
  done e = tried_as e

  -- or its program has no room there,
  pub no_room : tried ≡ None → NoRoom bytes size before between
  unfolding TriedIs
  no_room e = tried_as e

  -- and it goes on in a larger room, with the buffer as it was
  pub goes_on : {after : Text} {reply : Reply} → tried ≡ None → Owes call bytes sheet source between after reply → Owes call bytes sheet source before after reply
  goes_on {after} {reply} e o = subst (λ (t : Text). Owes call bytes sheet source t after reply) (no_room e).unchanged o

-- the full room has room for every program
pub always_done :
    {call : Call} {bytes sheet source before after : Text} {tried : Option Reply}
    → Tries 75264 call bytes sheet source before after tried
    → IsSome tried
always_done {call} {bytes} {sheet} {source} {before} {after} {tried} tries = go tried refl
  where
    go : (t : Option Reply) → tried ≡ t → IsSome t
    go (Some reply) e = refl
    go None e = absurd (never_small (no_room tries e).too_small)
