-- One byte read, forward and backward, by the laws of the position automaton. Assumes nothing.
use mathlib.Core.Path.{◌≡◌, refl, sym, ◌∙◌}
use mathlib.Core.Bool.{Bool, true, false}
use mathlib.Core.List.{List, [], ◌∷◌, ◌++◌, append_assoc}
use mathlib.Core.Logic.Iff
use mathlib.Core.Logic.{◌↔◌}
use Prim.Native.Nat.{ℕ, ◌+◌, ◌<◌}
use native.Mathlib.Omega.{arith}
use Rattle.semantics.specs.Text.{Text}
use Rattle.semantics.specs.Pattern.{Pattern, In, matches}
use Rattle.semantics.specs.Table.{positions}
use Rattle.laws.specs.Basics.{not_both, false_of_not_true}
use Rattle.laws.specs.Membership.{matches_iff}
use Rattle.laws.specs.PositionAutomaton.{stands_at, follow_at, rest_at, ReadsAt, first_law, follow_law, last_law}
use Rattle.positions.specs.declared.Set.{Set}
use Rattle.positions.specs.Positions.{holds, Empty, Shared}
use Rattle.automaton.specs.declared.Automaton.{Automaton}
use Rattle.automaton.specs.Rows.{Room, Describes, stands_in}
use Rattle.language.specs.declared.Run.{Run}
use Rattle.language.specs.Sets.{Gathered, Standing, Onward, Back}
use Rattle.language.specs.Runs.{Forward, Behind}

-- Two tests that are true of the same agree.
same_test : (a b : Bool) → (a ≡ true) ↔ (b ≡ true) → a ≡ b
same_test true b is = sym (is.0 refl)
same_test false b is = sym (false_of_not_true b (λ e. not_both (is.1 e) refl))

-- What an answer is told by tells whether the text belongs.
answer_is : (r : Pattern) (t : Text) (here : Bool) {A : Type 0} → (here ≡ true) ↔ A → In r t ↔ A → here ≡ matches r t
answer_is r t here told is = same_test here (matches r t) (Iff.trans told (Iff.trans (Iff.symm is) (Iff.symm (matches_iff r t))))

-- Two tests that agree allow the same readings.
allowed_iff : (r : Pattern) (c : ℕ) (u : Text) {may allowed : ℕ → Bool} → ((p : ℕ) → may p ≡ allowed p) → ReadsAt r may c u ↔ ReadsAt r allowed c u
allowed_iff r c u is = (reads is, reads (λ p. sym (is p)))
  where
    reads : {f g : ℕ → Bool} → ((p : ℕ) → f p ≡ g p) → ReadsAt r f c u → ReadsAt r g c u
    reads same x =
        record {
          position = x.position;
          in_pattern = x.in_pattern;
          allowed = sym (same x.position) ∙ x.allowed;
          stands = x.stands;
          rest_in = x.rest_in;
        }

-- Where the set is empty, no text goes on from what was read.
pub stuck : {r : Pattern} {t : Text} {run : Run} → Forward r t run → Empty run.set → (c : ℕ) (u : Text) → matches r (t ++ c ∷ u) ≡ false
stuck {r} {t} known none c u =
    false_of_not_true (matches r (t ++ c ∷ u)) (λ e. let x = (known.onward_iff c u).0 ((matches_iff r (t ++ c ∷ u)).0 e) in not_both x.allowed (none x.position))

module _ {r : Pattern} {a : Automaton} {prepared : List ℕ} (room : Room a prepared) (d : Describes r a prepared) where
  -- A set has room for each position of the pattern, and the count of rows is that of positions.
  pub few : (p : ℕ) → p < positions r → p < 128
  few p l = omega (arith, d.count_is, room.few)

  pub counted : (p : ℕ) → p < a.count → p < positions r
  counted p l = omega (arith, d.count_is)

  -- A byte may stand at a position by its row as by the pattern.
  pub stands_is : (p c : ℕ) → p < positions r → stands_in prepared (a.start + p) c ≡ stands_at r p c
  stands_is p c l = (d.row_is p l).bytes_are c

  -- So a position of a set gives itself where by the pattern the byte may stand at it.
  standing_at_lem : {s : Set} {c : ℕ} (p : ℕ) → p < positions r → holds s p ≡ true → stands_at r p c ≡ true → Standing prepared a s c p p
  standing_at_lem {s} {c} p l e f = record { itself = refl; held = e; stands = stands_is p c l ∙ f }

  module _ {s : Set} {c : ℕ} {here : Set} (stood : Gathered (Standing prepared a s c) a.count here) where
    -- The positions of a set at which the byte may stand.
    stood_iff : (p : ℕ) → (holds here p ≡ true) ↔ ((p < positions r) × (holds s p ≡ true) × (stands_at r p c ≡ true))
    stood_iff q = (
      λ e.
          let (p, l, g) = (stood.held_iff q).0 e in
          let k = counted p l in
          rw g.itself (k, g.held, sym (stands_is p c k) ∙ g.stands),
      λ h.
          let (l, e, f) = h in
          (stood.held_iff q).1 (q, omega (arith, d.count_is), standing_at_lem q l e f),
    )

    -- To read a byte from one of a set's positions is to be past one at which it may stand.
    past_iff : (u : Text) → ReadsAt r (holds s) c u ↔ ((p : ℕ) × (p < positions r) × (holds here p ≡ true) × In (rest_at r p) u)
    past_iff u = (
      λ x. let p = x.position in (p, x.in_pattern, (stood_iff p).1 (x.in_pattern, x.allowed, x.stands), x.rest_in),
      λ h.
          let (p, l, e, i) = h in
          let (k, f, g) = (stood_iff p).0 e in
          record { position = p; in_pattern = l; allowed = f; stands = g; rest_in = i },
    )

    -- A text may end past such a position exactly if one of them is a last position.
    ended_iff : ReadsAt r (holds s) c [] ↔ Shared here a.last
    ended_iff = (
      λ x.
          let (p, l, e, i) = (past_iff []).0 x in
          (p, few p l, e, d.last_is p ∙ (last_law r p l).0 i),
      λ h.
          let (p, l, e, f) = h in
          let k = ((stood_iff p).0 e).0 in
          (past_iff []).1 (p, k, e, (last_law r p k).1 (sym (d.last_is p) ∙ f)),
    )

    -- It goes on past them at the positions that may follow them.
    onward_iff : {next : Set} → Gathered (Onward prepared a s c) a.count next → (e : ℕ) (u : Text) → ReadsAt r (holds s) c (e ∷ u) ↔ ReadsAt r (holds next) e u
    onward_iff gone e u = (
      λ x.
          let p = x.position in
          let l = x.in_pattern in
          let y = (follow_law r p l e u).0 x.rest_in in
          let q = y.position in
          let f = (d.row_is p l).follow_is q ∙ y.allowed in
          record {
            position = q;
            in_pattern = y.in_pattern;
            allowed = (gone.held_iff q).1 (p, omega (arith, d.count_is), record { stood = standing_at_lem p l x.allowed x.stands; follows = f });
            stands = y.stands;
            rest_in = y.rest_in;
          },
      λ y.
          let q = y.position in
          let (p, l, g) = (gone.held_iff q).0 y.allowed in
          let k = counted p l in
          let f = sym ((d.row_is p k).follow_is q) ∙ g.follows in
          let i =
          (follow_law r p k e u).1 (
          record { position = q; in_pattern = y.in_pattern; allowed = f; stands = y.stands; rest_in = y.rest_in }
          ) in
          record { position = p; in_pattern = k; allowed = g.stood.held; stands = sym (stands_is p c k) ∙ g.stood.stands; rest_in = i },
    )

  -- ---- The run forward

  pub forward_begins : Forward r [] (record { here = a.nullable; set = a.first })
  unfolding matches
  forward_begins = record { here_is = d.nullable_is; onward_iff = λ c u. Iff.trans (first_law r c u) (allowed_iff r c u (λ p. sym (d.first_is p))) }

  pub forward_steps :
      {t : Text} {run : Run} → Forward r t run → {c : ℕ} {here : Set} → Gathered (Standing prepared a run.set c) a.count here
      → {ends : Bool} → (ends ≡ true) ↔ Shared here a.last
      → {next : Set} → Gathered (Onward prepared a run.set c) a.count next
      → Forward r (t ++ c ∷ []) (record { here = ends; set = next })
  forward_steps {t} known {c} stood {ends} told gone =
      record {
        here_is = answer_is r (t ++ c ∷ []) ends told (Iff.trans (known.onward_iff c []) (ended_iff stood));
        onward_iff = λ e u. rw (append_assoc t (c ∷ []) (e ∷ u)) (Iff.trans (known.onward_iff c (e ∷ u)) (onward_iff stood gone e u));
      }

  -- ---- One byte backward

  -- The text ends behind its last positions.
  pub behind_begins : Behind r [] a.last
  behind_begins =
      record { behind_iff = λ p l. (λ e. (last_law r p l).1 (sym (d.last_is p) ∙ e), λ i. d.last_is p ∙ (last_law r p l).0 i) }

  pub behind_steps :
      {t : Text} {s : Set} → Behind r t s → {c : ℕ} {next : Set} → Gathered (Back prepared a s c) a.count next
      → Behind r (c ∷ t) next
  behind_steps {t} known {c} {next} led = record { behind_iff = λ p l. Iff.trans (led_iff p l) (Iff.symm (follow_law r p l c t)) }
    where
      -- The set has p exactly if the byte and t can be read from a position that may follow p.
      led_iff : (p : ℕ) → p < positions r → (holds next p ≡ true) ↔ ReadsAt r (follow_at r p) c t
      led_iff p l = (
        λ e.
            let (q, k, g) = (led.held_iff p).0 e in
            let m = counted q k in
            record {
              position = q;
              in_pattern = m;
              allowed = sym ((d.row_is p l).follow_is q) ∙ g.leads;
              stands = sym (stands_is q c m) ∙ g.stood.stands;
              rest_in = (known.behind_iff q m).0 g.stood.held;
            },
        λ x.
            let q = x.position in
            let m = x.in_pattern in
            let there = standing_at_lem q m ((known.behind_iff q m).1 x.rest_in) x.stands in
            (led.held_iff p).1 (q, omega (arith, d.count_is), record { stood = there; inside = omega (arith, d.count_is); leads = (d.row_is p l).follow_is q ∙ x.allowed }),
      )
