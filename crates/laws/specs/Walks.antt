-- Walks through the position automaton of a pattern, and the typing questions in terms of them. A state is the start (`none`) or a position.
use Rattle.std.specs.Prelude.{◌≡◌, refl, Bool, true, [], ◌∷◌, ◌++◌, ◌↔◌, ℕ, ◌<◌}
use Rattle.std.proofs.Common.{sym, subst, append-nil}
use Rattle.std.proofs.Math.Option.{Option, none, some, none-ne-some, some-ne-none}
use Rattle.std.proofs.Math.Logic.Iff
use Rattle.semantics.specs.Text.{Text}
use Rattle.semantics.specs.Pattern.{Pattern, In, nullable}
use Rattle.semantics.specs.Ambiguity.{TwoCuts, Overlap}
use Rattle.semantics.specs.Table.{positions}
use Rattle.laws.specs.PositionAutomaton.{stands_at, first_at, last_at, follow_at, rest_at, ReadsAt, first_law, follow_law, last_law, first_within, follow_within}
use Rattle.laws.specs.Membership.{nullable_in, in_nullable}
use Rattle.laws.specs.Decided.{cuts_iff}

abbrev pub State : Type 0
State = Option ℕ

-- the positions that may come next
unfoldable pub next_at : Pattern → State → ℕ → Bool
next_at r none q = first_at r q
next_at r (some p) q = follow_at r p q

-- whether a text may end there
unfoldable pub final_at : Pattern → State → Bool
final_at r none = nullable r
final_at r (some p) = last_at r p

-- what may still be read from there
unfoldable pub rest_of : Pattern → State → Pattern
rest_of r none = r
rest_of r (some p) = rest_at r p

-- a state of the pattern
abbrev pub StateOf : Pattern → State → Type 0
StateOf r none = Unit {0}
StateOf r (some p) = p < positions r

-- one byte read: the next position may come next, and the byte may stand there
pub record Steps (r : Pattern) (x : State) (c p : ℕ) : Type 0 where
  pub may_follow : next_at r x p ≡ true
  pub stands : stands_at r p c ≡ true

-- a text that leads from one state to another
unfoldable pub Leads : Pattern → State → Text → State → Type 0
Leads r x [] y = x ≡ y
Leads r x (c ∷ t) y = (p : ℕ) × Steps r x c p × Leads r (some p) t y

-- a step leads to a position of the pattern
pub steps_within : (r : Pattern) (x : State) (c p : ℕ) → Steps r x c p → p < positions r
unfolding next_at
steps_within r none c p s = first_within r p s.may_follow
steps_within r (some q) c p s = follow_within r q p s.may_follow

-- a walk keeps to the states of the pattern
leads_within : (r : Pattern) (x y : State) (t : Text) → StateOf r x → Leads r x t y → StateOf r y
unfolding Leads
leads_within r x y [] h e = subst (StateOf r) e h
leads_within r x y (c ∷ t) h (p, s, w) = leads_within r (some p) y t (steps_within r x c p s) w

-- walks join
pub leads_join : (r : Pattern) (x y z : State) (t u : Text) → Leads r x t y → Leads r y u z → Leads r x (t ++ u) z
unfolding Leads
leads_join r x y z [] u e b = subst (λ i. Leads r i u z) (sym e) b
leads_join r x y z (c ∷ t) u (p, s, a) b = (p, s, leads_join r (some p) y z t u a b)

-- One byte and what stands behind it can be read from a state exactly if the byte may stand at a position that may come next, and the rest
-- may stand behind that.
reads_iff : (r : Pattern) (x : State) → StateOf r x → (c : ℕ) (t : Text) → In (rest_of r x) (c ∷ t) ↔ ReadsAt r (next_at r x) c t
unfolding rest_of next_at
reads_iff r none h c t = first_law r c t
reads_iff r (some p) h c t = follow_law r p h c t

-- A text and what stands behind it can be read from a state exactly if the text leads to a state from which the rest can be read.
pub read_iff :
    (r : Pattern) (x : State) → StateOf r x → (t u : Text)
    → In (rest_of r x) (t ++ u) ↔ ((y : State) × StateOf r y × Leads r x t y × In (rest_of r y) u)
unfolding Leads rest_of
read_iff r x h [] u = (λ i. (x, h, refl, i), λ d. let (y, k, e, i) = d in subst (λ z. In (rest_of r z) u) (sym e) i)
read_iff r x h (c ∷ t) u = (
  λ i.
      let a = (reads_iff r x h c (t ++ u)).0 i in
      let (y, k, w, j) = (read_iff r (some a.position) a.in_pattern t u).0 a.rest_in in
      (y, k, (a.position, record { may_follow = a.allowed; stands = a.stands }, w), j),
  λ d.
      let (y, k, (p, s, w), j) = d in
      let within = steps_within r x c p s in
      (reads_iff r x h c (t ++ u)).1 (
      record {
        position = p;
        in_pattern = within;
        allowed = s.may_follow;
        stands = s.stands;
        rest_in = (read_iff r (some p) within t u).1 (y, k, w, j);
      }
      ),
)

-- The empty text can be read from a state exactly if a text may end there.
end_iff : (r : Pattern) (x : State) → StateOf r x → In (rest_of r x) [] ↔ (final_at r x ≡ true)
unfolding rest_of final_at
end_iff r none h = (in_nullable r, nullable_in r)
end_iff r (some p) h = last_law r p h

-- A text can be read from a state exactly if it leads to a state in which it may end.
pub read_all_iff : (r : Pattern) (x : State) → StateOf r x → (t : Text) → In (rest_of r x) t ↔ ((y : State) × Leads r x t y × (final_at r y ≡ true))
read_all_iff r x h t = (
  λ i.
      let (y, k, w, j) = (read_iff r x h t []).0 (rw append-nil i) in
      (y, w, (end_iff r y k).0 j),
  λ d.
      let (y, w, e) = d in
      let k = leads_within r x y t h w in
      rw append-nil at ((read_iff r x h t []).1 (y, k, w, (end_iff r y k).1 e)),
)

-- the same from the start: the text belongs to the pattern
in_iff : (r : Pattern) (t : Text) → In r t ↔ ((y : State) × Leads r none t y × (final_at r y ≡ true))
unfolding rest_of
in_iff r t = read_all_iff r none tt t

-- the same of a text in two parts, with the state between them
in_parts_iff :
    (r : Pattern) (t u : Text)
    → In r (t ++ u) ↔ ((y : State) × (z : State) × Leads r none t y × Leads r y u z × (final_at r z ≡ true))
unfolding rest_of
in_parts_iff r t u = (
  λ i.
      let (y, k, a, j) = (read_iff r none tt t u).0 i in
      let (z, b, e) = (read_all_iff r y k u).0 j in
      (y, z, a, b, e),
  λ h.
      let (y, z, a, b, e) = h in
      (in_iff r (t ++ u)).1 (z, leads_join r none y z t u a b, e),
)

-- From a state that is marked, some text can be read to the end in r and leads from the start to y in s.
pub record Staged (r s : Pattern) (marked : State → Type 0) (y : State) : Type 0 where
  pub from : State
  pub is_marked : marked from
  pub text : Text
  pub end : State
  pub to_end : Leads r from text end
  pub is_final : final_at r end ≡ true
  pub beside : Leads s none text y

abbrev pub Start : State → Type 0
Start x = x ≡ none

-- a position among what was staged: the text between was not empty
abbrev pub Moved : (State → Type 0) → State → Type 0
Moved marked none = ⊥
Moved marked (some p) = marked (some p)

pub record Ends (r : Pattern) (marked : State → Type 0) : Type 0 where
  pub state : State
  pub is_marked : marked state
  pub is_final : final_at r state ≡ true

-- what is staged from the start belongs
staged_in : (r s : Pattern) (y : State) (g : Staged r s Start y) → In r g.text
staged_in r s y g = (in_iff r g.text).1 (g.end, rw g.is_marked at g.to_end, g.is_final)

-- Two languages overlap exactly if one stage ends.
pub overlap_staged_iff : (r s : Pattern) → Overlap r s ↔ Ends s (Staged r s Start)
overlap_staged_iff r s = (
  λ o.
      let (x, a, e) = (in_iff r o.text).0 o.in_left in
      let (y, b, f) = (in_iff s o.text).0 o.in_right in
      record {
        state = y;
        is_marked = record { from = none; is_marked = refl; text = o.text; end = x; to_end = a; is_final = e; beside = b };
        is_final = f;
      },
  λ d.
      let g = d.is_marked in
      record {
        text = g.text;
        in_left = staged_in r s d.state g;
        in_right = (in_iff s g.text).1 (d.state, g.beside, d.is_final);
      },
)

-- a text that is not empty never leads to the start
leads_on : (r : Pattern) (x : State) (c : ℕ) (t : Text) → ¬ Leads r x (c ∷ t) none
unfolding Leads
leads_on r x c [] (p, s, e) = some-ne-none p e
leads_on r x c (d ∷ t) (p, s, w) = leads_on r (some p) d t w

-- and what was staged has moved exactly if the text was not empty
moved_iff :
    (r s : Pattern) (marked : State → Type 0) (y : State)
    → Moved (Staged r s marked) y ↔ ((g : Staged r s marked y) × (c : ℕ) × (t : Text) × (g.text ≡ c ∷ t))
unfolding Leads
moved_iff r s marked none =
    (λ m. absurd m, λ h. let (g, c, t, e) = h in leads_on s none c t (subst (λ u. Leads s none u none) e g.beside))
moved_iff r s marked (some p) = (λ g. let (c, t, e) = first_byte g.text g.beside in (g, c, t, e), λ h. h.0)
  where
    first_byte : (u : Text) → Leads s none u (some p) → (c : ℕ) × (t : Text) × (u ≡ c ∷ t)
    first_byte [] e = absurd (none-ne-some p e)
    first_byte (c ∷ t) w = (c, t, refl)

-- A join has a text with two cuts exactly if three stages end: u in r twice, x in r and in s (not empty), v in s twice.
pub cuts_staged_iff : (r s : Pattern) → TwoCuts r s ↔ Ends s (Staged s s (Moved (Staged r s (Staged r r Start))))
cuts_staged_iff r s =
    Iff.trans
    (Iff.symm (cuts_iff r s)) (
      λ h.
          let (u, x, i, j, (c, t, v, e, k, l)) = h in
          let (u-end, u-walk, u-final) = (in_iff r u).0 i in
          let (from-x, x-end, to-x, x-walk, x-final) = (in_parts_iff r u x).0 j in
          let (from-v, v-end, to-v, v-walk, v-final) = (in_parts_iff s x v).0 k in
          let (last, to_last, last-final) = (in_iff s v).0 l in
          let first : Staged r r Start from-x =
          record { from = none; is_marked = refl; text = u; end = u-end; to_end = u-walk; is_final = u-final; beside = to-x } in
          let second : Staged r s (Staged r r Start) from-v =
          record { from = from-x; is_marked = first; text = x; end = x-end; to_end = x-walk; is_final = x-final; beside = to-v } in
          let moved = (moved_iff r s (Staged r r Start) from-v).1 (second, c, t, e) in
          record {
            state = last;
            is_marked = record { from = from-v; is_marked = moved; text = v; end = v-end; to_end = v-walk; is_final = v-final; beside = to_last };
            is_final = last-final;
          },
      λ d.
          let third = d.is_marked in
          let (second, c, t, e) = (moved_iff r s (Staged r r Start) third.from).0 third.is_marked in
          let first = second.is_marked in
          let u = first.text in
          let x = second.text in
          let v = third.text in
          let in-r = (in_parts_iff r u x).1 (second.from, second.end, first.beside, second.to_end, second.is_final) in
          let in-s = (in_parts_iff s x v).1 (third.from, third.end, second.beside, third.to_end, third.is_final) in
          (u, x, staged_in r r second.from first, in-r, (c, t, v, e, in-s, (in_iff s v).1 (d.state, third.beside, d.is_final))),
    )
