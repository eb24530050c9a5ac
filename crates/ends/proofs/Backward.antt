-- The pass backward: a byte put in front of a text, and the flags that are set place by place. Assumes nothing.
use mathlib.Core.Path.{◌≡◌, refl, sym, ap, ◌∙◌}
use mathlib.Core.Bool.{Bool, true, false}
use mir.Val.{bool_byte}
use mathlib.Core.List.{List, ◌∷◌}
use mathlib.Core.Logic.Iff
use mathlib.Core.Logic.{◌↔◌, ◌≢◌, ⊎_elim}
use Prim.Native.Nat.{ℕ, suc, ◌≤◌, ◌<◌}
use native.Mathlib.Omega.{arith}
use borrow.Author.Tests.{eqb-true, eqb-false}
use lib.Dec.{eqb}
use lib.ListN.{length, get_or, set, drop}
use lib.Seq.{drop-cons, drop-length, get_or-set_same, get_or-set_other}
use Rattle.semantics.specs.Text.{Text}
use Rattle.semantics.specs.Pattern.{Pattern, In, matches}
use Rattle.laws.specs.Basics.{bool_cases}
use Rattle.laws.specs.Membership.{matches_iff}
use Rattle.laws.specs.PositionAutomaton.{first_law}
use Rattle.clash.proofs.Ends.{same_test}
use Rattle.positions.specs.declared.Set.{Set}
use Rattle.positions.specs.Positions.{Shared}
use Rattle.automaton.specs.declared.Automaton.{Automaton}
use Rattle.automaton.specs.Rows.{Room, Describes}
use Rattle.language.specs.declared.Run.{Run}
use Rattle.language.specs.Sets.{Gathered, Standing}
use Rattle.language.specs.Runs.{Behind, SteppedBack}
use Rattle.language.proofs.Steps.{few, counted, stands_is, behind_begins}
use Rattle.ends.specs.Places.{Retreated, flagged, Flagged}

-- ---- One byte

-- A text belongs exactly if its first byte may stand at a position at which a text can begin and behind which the rest may stand.
begins_iff :
    {s : Pattern} {b : Automaton} {prepared : List ℕ} {t : Text} {behind here : Set} {c : ℕ}
    → Room b prepared → Describes s b prepared → Behind s t behind → Gathered (Standing prepared b behind c) b.count here
    → In s (c ∷ t) ↔ Shared b.first here
begins_iff {s} {b} {prepared} {t} {behind} {here} {c} room d known stood = (
  λ i.
      let x = (first_law s c t).0 i in
      let p = x.position in
      let l = x.in_pattern in
      let there : Standing prepared b behind c p p =
      record { itself = refl; held = (known.behind_iff p l).1 x.rest_in; stands = stands_is room d p c l ∙ x.stands } in
      (p, few room d p l, d.first_is p ∙ x.allowed, (stood.held_iff p).1 (p, omega (arith, d.count_is), there)),
  λ h.
      let (q, k, e, f) = h in
      let (p, l, g) = (stood.held_iff q).0 f in
      let m = counted room d p l in
      (first_law s c t).1
      (record {
        position = p;
        in_pattern = m;
        allowed = sym (d.first_is p) ∙ (rw g.itself at e);
        stands = sym (stands_is room d p c m) ∙ g.stands;
        rest_in = (known.behind_iff p m).0 g.held;
      }),
)

-- So one byte backward tells what it is to tell.
pub retreated :
    {b : Automaton} {prepared : List ℕ} {behind here next : Set} {c : ℕ} {begins : Bool}
    → Room b prepared → Gathered (Standing prepared b behind c) b.count here → (begins ≡ true) ↔ Shared b.first here
    → SteppedBack prepared b c behind next → Retreated prepared b c behind (record { here = begins; set = next })
retreated {c = c} {begins = begins} room stood told step =
    record {
      here_is = λ s d t known.
          same_test begins (matches s (c ∷ t)) (Iff.trans told (Iff.trans (Iff.symm (begins_iff room d known stood)) (Iff.symm (matches_iff s (c ∷ t)))));
      behind_is = step.stepped;
    }

-- ---- The flags

-- a test as a flag
pub flag_is : {here : Bool} {v : ℕ} → v ≡ bool_byte here → eqb v 1 ≡ here
flag_is {here} is = rw is (go here)
  where
    go : (b : Bool) → eqb (bool_byte b) 1 ≡ b
    go true = refl
    go false = refl

module _ (flags : List ℕ) (i v : ℕ) where
  -- the flag that is written
  flag_here : i < length flags → flagged (set flags i v) i ≡ eqb v 1
  unfolding flagged
  flag_here h = ap (λ (n : ℕ). eqb n 1) (get_or-set_same flags i v 0 h)

  -- and the others
  flag_other : (j : ℕ) → j ≢ i → flagged (set flags i v) j ≡ flagged flags j
  unfolding flagged
  flag_other j ne = ap (λ (n : ℕ). eqb n 1) (get_or-set_other flags i j v 0 ne)

-- The text was read from its end to place i: the set has the positions behind which its rest may stand, and the flags from i on are set.
pub record Backed (prepared : List ℕ) (b : Automaton) (text : Text) (i : ℕ) (behind : Set) (flags : List ℕ) : Type 0 where
  pub within : i ≤ length text
  pub behind_is : (s : Pattern) → Describes s b prepared → Behind s (drop i text) behind
  pub flags_are : Flagged prepared b text i flags

-- one flag more
flagged_more :
    {prepared : List ℕ} {b : Automaton} {text : Text} (flags : List ℕ) (i v : ℕ) → i < length flags
    → ((s : Pattern) → Describes s b prepared → eqb v 1 ≡ matches s (drop i text))
    → ((s : Pattern) → Describes s b prepared → (j : ℕ) → i < j → j ≤ length text → flagged flags j ≡ matches s (drop j text))
    → Flagged prepared b text i (set flags i v)
flagged_more flags i v h here others =
    record {
      flag_is = λ s d j l k.
          ⊎_elim
          (λ e. rw (eqb-true j i e) (flag_here flags i v h ∙ here s d))
          (λ e. let ne = eqb-false j i e in flag_other flags i v j ne ∙ others s d j (omega arith) k)
          (bool_cases (eqb j i));
    }

-- what a text of no bytes is told by
none_left : {prepared : List ℕ} {b : Automaton} (text : Text) (s : Pattern) → Describes s b prepared → b.nullable ≡ matches s (drop (length text) text)
unfolding matches
none_left text s d = rw (drop-length text) d.nullable_is

module _ {prepared : List ℕ} {b : Automaton} {text : Text} (flags : List ℕ) (v : ℕ) where
  -- At its end only the empty text is left.
  pub backed_begins :
      Room b prepared → length text < length flags → eqb v 1 ≡ b.nullable
      → Backed prepared b text (length text) b.last (set flags (length text) v)
  backed_begins room h told =
      record {
        within = omega arith;
        behind_is = λ s d. rw (drop-length text) (behind_begins room d);
        flags_are = flagged_more flags (length text) v h (λ s d. told ∙ none_left text s d) (λ s d j l k. absurd (omega arith));
      }

  -- One place back, with its flag.
  pub backed_more :
      {i k : ℕ} {behind : Set} {run : Run} → k ≡ suc i → i < length text → i < length flags → Backed prepared b text k behind flags
      → Retreated prepared b (get_or text i 0) behind run → eqb v 1 ≡ run.here → Backed prepared b text i run.set (set flags i v)
  backed_more {i} {k} {behind} {run} e h room known step told =
      record {
        within = omega arith;
        behind_is = λ s d. rw (drop-cons text i 0 h) (step.behind_is s d (drop (suc i) text) (rest s d));
        flags_are =
            flagged_more flags i v room (λ s d. told ∙ rw (drop-cons text i 0 h) (step.here_is s d (drop (suc i) text) (rest s d)))
            (λ s d j l m. known.flags_are.flag_is s d j (omega arith) m);
      }
    where
      rest : (s : Pattern) → Describes s b prepared → Behind s (drop (suc i) text) behind
      rest s d = rw e at (known.behind_is s d)
