-- The pass forward: from place to place, up to one at which the first half may end. Assumes nothing.
use mathlib.Core.Path.{◌≡◌, sym, ap, subst, ◌∙◌}
use mathlib.Core.Bool.{Bool, true, false, ◌&&◌}
use mathlib.Core.List.{List}
use mathlib.Core.Logic.{⊎_elim}
use Prim.Native.Nat.{ℕ, ◌+◌, ◌≤◌, ◌<◌}
use native.Mathlib.Numerals.{add-one}
use native.Mathlib.Omega.{arith}
use borrow.Author.Tests.{eqb-true, eqb-false}
use lib.Dec.{eqb}
use lib.ListN.{length, get_or, take}
use lib.Seq.{take-suc}
use Rattle.semantics.specs.Text.{Text}
use Rattle.semantics.specs.Pattern.{Pattern}
use Rattle.laws.specs.Basics.{bool_cases}
use Rattle.automaton.specs.declared.Automaton.{Automaton}
use Rattle.automaton.specs.Rows.{Room, Describes}
use Rattle.language.specs.declared.Run.{Run}
use Rattle.language.specs.Runs.{Advanced}
use Rattle.language.proofs.Steps.{forward_begins}
use Rattle.ends.specs.declared.Place.{Place}
use Rattle.ends.specs.Places.{flagged, may_end, ReadTo, NextEnd, TwoEnds}

-- From `from` on the first half may end at no place below i.
pub record Passed (prepared : List ℕ) (a : Automaton) (text : Text) (flags : List ℕ) (from i : ℕ) : Type 0 where
  pub onward : from ≤ i
  pub passed : (r : Pattern) → Describes r a prepared → (j : ℕ) → from ≤ j → j < i → may_end r text flags j ≡ false

module _ {prepared : List ℕ} {a : Automaton} {text : Text} where
  -- In front of the first place stands nothing.
  pub read_begins : Room a prepared → ReadTo prepared a text (record { at = 0; run = record { here = a.nullable; set = a.first } })
  read_begins room = record { within = omega arith; so_far = λ r d. forward_begins room d }

  -- One byte more was read.
  pub read_more :
      {at : ℕ} {run next : Run} → at < length text → ReadTo prepared a text (record { at = at; run = run }) → Advanced prepared a (get_or text at 0) run next
      → ReadTo prepared a text (record { at = at + 1; run = next })
  read_more {at} h known step =
      record {
        within = omega arith;
        so_far = λ r d. rw (add-one at, take-suc text at 0 h) (step.advanced r d (take at text) (known.so_far r d));
      }

  module _ {flags : List ℕ} {from : ℕ} where
    -- No place is passed yet.
    pub passed_none : Passed prepared a text flags from from
    passed_none = record { onward = omega arith; passed = λ r d j l h. absurd (omega arith) }

    module _ {place : Place} (none : Passed prepared a text flags from place.at) (known : ReadTo prepared a text place) where
      -- At the text's length the pass ends.
      pub next_last : length text ≤ place.at → NextEnd prepared a text flags from place.at
      next_last h =
          record { onward = none.onward; inside = known.within; passed = none.passed; found = λ r d l. absurd (omega arith) }

      module _ {may : Bool} (told : may ≡ (place.run.here && flagged flags place.at)) where
        -- The run and the flag tell whether the first half may end at the place.
        told_is : (r : Pattern) → Describes r a prepared → may ≡ may_end r text flags place.at
        unfolding may_end
        told_is r d = told ∙ ap (λ (x : Bool). x && flagged flags place.at) (known.so_far r d).here_is

        -- Where it may, the place is the first such one.
        pub next_here : may ≡ true → NextEnd prepared a text flags from place.at
        next_here e =
            record { onward = none.onward; inside = known.within; passed = none.passed; found = λ r d l. sym (told_is r d) ∙ e }

        -- Where it may not, the place is passed too.
        pub passed_more : may ≡ false → {k : ℕ} → k ≡ place.at + 1 → Passed prepared a text flags from k
        passed_more e is =
            record {
              onward = omega (arith, none.onward);
              passed = λ r d j l h.
                  ⊎_elim
                  (λ s. rw (eqb-true j place.at s) (sym (told_is r d) ∙ e))
                  (λ s. let ne = eqb-false j place.at s in none.passed r d j l (omega arith))
                  (bool_cases (eqb j place.at));
            }

-- The second search begins behind the first place.
pub both_places :
    {prepared : List ℕ} {a : Automaton} {text : Text} {flags : List ℕ} {first second k : ℕ}
    → NextEnd prepared a text flags 0 first → k ≡ first + 1 → NextEnd prepared a text flags k second
    → TwoEnds prepared a text flags (record { first = first; second = second })
both_places {prepared} {a} {text} {flags} {first} {second} known is next =
    record { first_is = known; second_is = λ l. subst (λ (n : ℕ). NextEnd prepared a text flags n second) is next }
