-- Two readings of one text at a time, by pairs of positions: how a search on such pairs finds the texts that break a rule. Of a text with two cuts
-- both readings begin in r; the first comes to its cut and goes on in s, while the second goes on in r by a byte or more and then in s.
use Rattle.std.specs.Prelude.{◌≡◌, refl, Bool, true, false, ◌&&◌, ◌⊎◌, ◌↔◌, ℕ, zero, suc, ◌≤◌, ◌<◌, ltb, length, take, drop}
use Rattle.std.proofs.Common.{sym, ap, ◌∙◌, subst, inl, inr, ⊎_elim, not-suc-le-zero, le_of_suc-le-suc, arith, length-append, take-append-drop, le-leb, ltb-true, ltb-false}
use mathlib.Core.List.{[], ◌∷◌, ◌++◌, append_assoc, nil≢cons, head-eq_of_cons-eq, tail-eq_of_cons-eq}
use Rattle.std.proofs.Math.Logic.{⊎_map}
use Rattle.std.proofs.Math.Logic.Iff
use Rattle.std.proofs.Math.Seq.{take-append_seam}
use Rattle.semantics.specs.Text.{Text}
use Rattle.semantics.specs.Pattern.{Pattern, concat, star, In, in_class, nullable, matches}
use Rattle.semantics.specs.Ambiguity.{TwoCuts}
use Rattle.semantics.specs.Table.{positions}
use Rattle.laws.specs.Basics.{bool_cases, false_of_not_true}
use Rattle.laws.specs.Membership.{nullable_in, in_nullable}
use Rattle.laws.specs.PositionAutomaton.{
  split_left,
  class_at,
  stands_at,
  first_at,
  last_at,
  follow_at,
  rest_at,
  ReadsAt,
  first_law,
  follow_law,
  last_law,
}
use Rattle.clash.specs.Clash.{one_arm, EndAt, CutTwice, first_end, second_end, cut_twice, breaks}
use Rattle.clash.proofs.Ends.{both_match_iff, first_smallest, second_smallest, two_ends, end_behind}

-- ---- The whole that two patterns make

-- w reads r and then s: a join with its halves, or a repeat with its child and itself. Its first positions are those of r.
pub record Whole (r s w : Pattern) : Type 0 where
  pub more : positions r ≤ positions w
  pub rest_iff : (p : ℕ) → p < positions r → (t : Text) → In (rest_at w p) t ↔ In (concat (rest_at r p) s) t
  pub stands_is : (p c : ℕ) → p < positions r → stands_at w p c ≡ stands_at r p c

-- the positions of a join are those of its halves, in order
pub join_whole : (r s : Pattern) → Whole r s (concat r s)
unfolding positions rest_at class_at stands_at
join_whole r s =
    record {
      more = omega arith;
      rest_iff = λ p h t. rw (split_left (positions r) (λ q. concat (rest_at r q) s) (rest_at s) p h) Iff.rfl;
      stands_is = λ p c h. ap (λ k. in_class k c) (split_left (positions r) (class_at r) (class_at s) p h);
    }

-- and those of a repeat are its child's
pub repeat_whole : (r : Pattern) → Whole r (star r) (star r)
unfolding positions rest_at class_at stands_at
repeat_whole r = record { more = omega arith; rest_iff = λ p h t. Iff.rfl; stands_is = λ p c h. refl }

-- ---- Both readings behind their positions

-- What is left behind positions p of w and q of s is a text of both.
pub record Late (w s : Pattern) (p q : ℕ) (t : Text) : Type 0 where
  pub in_whole : In (rest_at w p) t
  pub in_second : In (rest_at s q) t

-- Two readings of t, in k and in l, each with its cut and then in s: the first is cut behind u, the second a byte or more later.
pub record Apart (k l s : Pattern) (t : Text) : Type 0 where
  pub u : Text
  pub c : ℕ
  pub x : Text
  pub v : Text
  pub text_is : t ≡ u ++ c ∷ x ++ v
  pub first_in : In k u
  pub first_rest : In s (c ∷ x ++ v)
  pub second_in : In l (u ++ c ∷ x)
  pub second_rest : In s v

-- What is left behind positions p and q of r has two cuts: the first comes behind u, the second a byte or more later, behind u ++ c ∷ x.
abbrev pub Early : Pattern → Pattern → ℕ → ℕ → Text → Type 0
Early r s p q t = Apart (rest_at r p) (rest_at r q) s t

-- a byte that leads two readings on, to positions p and q of two patterns, by what may come next in each
pub record BothStep (r s : Pattern) (next next' : ℕ → Bool) (c p q : ℕ) : Type 0 where
  pub left : p < positions r
  pub right : q < positions s
  pub may_left : next p ≡ true
  pub may_right : next' q ≡ true
  pub stands_left : stands_at r p c ≡ true
  pub stands_right : stands_at s q c ≡ true

-- ---- One byte

-- By its first byte c a text of k is read on in one of the patterns `rest i`, where `may i` holds.
abbrev pub ReadOn : Pattern → ℕ → {I : Type 0} → (I → Type 0) → (I → Pattern) → Type 0
ReadOn k c {I} may rest = (t : Text) → In k (c ∷ t) ↔ ((i : I) × may i × In (rest i) t)

-- a text of k is read in r, from a position that may come next
abbrev pub ReadBy : Pattern → Pattern → (ℕ → Bool) → Type 0
ReadBy k r next = (c : ℕ) (t : Text) → In k (c ∷ t) ↔ ReadsAt r next c t

-- the byte leads to position p of r, by what may come next
abbrev pub StepTo : Pattern → (ℕ → Bool) → ℕ → ℕ → Type 0
StepTo r next c p = (p < positions r) × (next p ≡ true) × (stands_at r p c ≡ true)

-- so it is read on in what may stand behind the position
pub position_on : (k r : Pattern) (next : ℕ → Bool) → ReadBy k r next → (c : ℕ) → ReadOn k c (StepTo r next c) (rest_at r)
position_on k r next read c t = (
  λ i. let a = (read c t).0 i in (a.position, (a.in_pattern, a.allowed, a.stands), a.rest_in),
  λ h.
      let (p, (l, m, n), i) = h in
      (read c t).1 (record { position = p; in_pattern = l; allowed = m; stands = n; rest_in = i }),
)

-- a step of both readings is a step of each
both_step_iff :
    (r s : Pattern) (next next' : ℕ → Bool) (c p q : ℕ) → BothStep r s next next' c p q ↔ (StepTo r next c p × StepTo s next' c q)
both_step_iff r s next next' c p q = (
  λ b. ((b.left, b.may_left, b.stands_left), (b.right, b.may_right, b.stands_right)),
  λ h.
      let ((l, m, n), (l', m', n')) = h in
      record { left = l; right = l'; may_left = m; may_right = m'; stands_left = n; stands_right = n' },
)

-- A text of both k and l is read in both by its first byte, and what is left is a text of both.
both_iff :
    (k l r s : Pattern) (next next' : ℕ → Bool)
    → ReadBy k r next
    → ReadBy l s next'
    → (c : ℕ) (t : Text)
    → (In k (c ∷ t) × In l (c ∷ t)) ↔ ((i : ℕ) × (j : ℕ) × BothStep r s next next' c i j × Late r s i j t)
both_iff k l r s next next' read read' c t =
    let on = position_on k r next read c t in
    let on' = position_on l s next' read' c t in (
      λ h.
          let (i, a, x) = on.0 h.0 in
          let (j, b, y) = on'.0 h.1 in
          (i, j, (both_step_iff r s next next' c i j).1 (a, b), record { in_whole = x; in_second = y }),
      λ h.
          let (i, j, step, l) = h in
          let (a, b) = (both_step_iff r s next next' c i j).0 step in
          (on.1 (i, a, l.in_whole), on'.1 (j, b, l.in_second)),
    )

-- ---- Late: each in its own pattern

-- both readings, one by one
late_iff : (w s : Pattern) (p q : ℕ) (t : Text) → Late w s p q t ↔ (In (rest_at w p) t × In (rest_at s q) t)
late_iff w s p q t = (λ l. (l.in_whole, l.in_second), λ h. record { in_whole = h.0; in_second = h.1 })

-- the text may end there if both readings may
pub late_end_iff :
    (w s : Pattern) (p q : ℕ) → p < positions w → q < positions s
    → Late w s p q [] ↔ ((last_at w p ≡ true) × (last_at s q ≡ true))
late_end_iff w s p q h k = Iff.trans (late_iff w s p q []) (Iff.and (last_law w p h) (last_law s q k))

-- and goes on by a byte that leads both on
pub late_step_iff :
    (w s : Pattern) (p q : ℕ) → p < positions w → q < positions s → (c : ℕ) (t : Text)
    → Late w s p q (c ∷ t) ↔ ((i : ℕ) × (j : ℕ) × BothStep w s (follow_at w p) (follow_at s q) c i j × Late w s i j t)
late_step_iff w s p q h k c t =
    Iff.trans
    (late_iff w s p q (c ∷ t))
    (both_iff (rest_at w p) (rest_at s q) w s (follow_at w p) (follow_at s q) (follow_law w p h) (follow_law s q k) c t)

-- ---- A text of both arms

-- the test is true exactly of a text of both arms
pub arm_iff : (r s : Pattern) (t : Text) → (breaks (one_arm r s) t ≡ true) ↔ (In r t × In s t)
unfolding breaks
arm_iff r s t = both_match_iff r s t t

-- the empty text is of both if both may be empty
pub arm_end : (r s : Pattern) → breaks (one_arm r s) [] ≡ (nullable r && nullable s)
unfolding breaks matches
arm_end r s = refl

-- any other begins with a byte that leads both on from their starts
pub arm_step_iff :
    (r s : Pattern) (c : ℕ) (t : Text)
    → (breaks (one_arm r s) (c ∷ t) ≡ true) ↔ ((i : ℕ) × (j : ℕ) × BothStep r s (first_at r) (first_at s) c i j × Late r s i j t)
arm_step_iff r s c t =
    Iff.trans (arm_iff r s (c ∷ t)) (both_iff r s r s (first_at r) (first_at s) (first_law r) (first_law s) c t)

-- ---- Early: both in r

-- the empty text is not read apart, since the second reading goes on by a byte at least
pub apart_end : (k l s : Pattern) → ¬ Apart k l s []
apart_end k l s a = go a.u a.text_is
  where
    go : (u : Text) → [] ≡ u ++ a.c ∷ a.x ++ a.v → ⊥
    go [] e = nil≢cons e
    go (d ∷ u) e = nil≢cons e

-- Both readings have the first byte; or the first is at its cut, and the second has the byte while s begins with it.
pub apart_cons_iff :
    (k l s : Pattern) (c : ℕ) {I J M : Type 0}
    (may : I → Type 0) (rest : I → Pattern) (may' : J → Type 0) (rest' : J → Pattern) (may'' : M → Type 0) (rest'' : M → Pattern)
    → ReadOn k c may rest
    → ReadOn l c may' rest'
    → ReadOn s c may'' rest''
    → (t : Text)
    → Apart k l s (c ∷ t)
    ↔ (((i : I) × (j : J) × may i × may' j × Apart (rest i) (rest' j) s t)
    ⊎ (In k [] × ((j : J) × (m : M) × may' j × may'' m × In (concat (rest' j) s) t × In (rest'' m) t)))
unfolding In
apart_cons_iff k l s c {I} {J} {M} may rest may' rest' may'' rest'' read read' read'' t = (to, ⊎_elim from_both from_cut)
  where
    Both : Type 0
    Both = (i : I) × (j : J) × may i × may' j × Apart (rest i) (rest' j) s t

    Cut : Type 0
    Cut = In k [] × ((j : J) × (m : M) × may' j × may'' m × In (concat (rest' j) s) t × In (rest'' m) t)

    go :
        (u : Text) (d : ℕ) (x v : Text)
        → c ∷ t ≡ u ++ d ∷ x ++ v
        → In k u
        → In s (d ∷ x ++ v)
        → In l (u ++ d ∷ x)
        → In s v
        → Both ⊎ Cut
    go [] d x v e first first_rest second second_rest =
        let p = head-eq_of_cons-eq e in
        let whole : t ≡ x ++ v = tail-eq_of_cons-eq e in
        let (j, b, i) = (read' x).0 (rw p second) in
        let (m, n, o) = (read'' (x ++ v)).0 (rw p first_rest) in
        inr (first, (j, m, b, n, (x, v, whole, i, second_rest), subst (In (rest'' m)) (sym whole) o))
    go (b ∷ u) d x v e first first_rest second second_rest =
        let p = head-eq_of_cons-eq e in
        let (i, a, y) = (read u).0 (rw p first) in
        let (j, n, z) = (read' (u ++ d ∷ x)).0 (rw p second) in
        inl (
          i,
          j,
          a,
          n,
          record {
            u = u;
            c = d;
            x = x;
            v = v;
            text_is = tail-eq_of_cons-eq e;
            first_in = y;
            first_rest = first_rest;
            second_in = z;
            second_rest = second_rest;
          },
        )

    to : Apart k l s (c ∷ t) → Both ⊎ Cut
    to a = go a.u a.c a.x a.v a.text_is a.first_in a.first_rest a.second_in a.second_rest

    from_both : Both → Apart k l s (c ∷ t)
    from_both h =
        let (i, j, m, n, a) = h in
        record {
          u = c ∷ a.u;
          c = a.c;
          x = a.x;
          v = a.v;
          text_is = ap (λ y. c ∷ y) a.text_is;
          first_in = (read a.u).1 (i, m, a.first_in);
          first_rest = a.first_rest;
          second_in = (read' (a.u ++ a.c ∷ a.x)).1 (j, n, a.second_in);
          second_rest = a.second_rest;
        }

    from_cut : Cut → Apart k l s (c ∷ t)
    from_cut h =
        let (e, (j, m, b, n, (x, v, p, y, z), o)) = h in
        record {
          u = [];
          c = c;
          x = x;
          v = v;
          text_is = ap (λ y. c ∷ y) p;
          first_in = e;
          first_rest = (read'' (x ++ v)).1 (m, n, subst (In (rest'' m)) p o);
          second_in = (read' x).1 (j, b, y);
          second_rest = z;
        }

-- so it is at positions
apart_step_iff :
    (k l r s w : Pattern) (next next' : ℕ → Bool) (ends : Bool)
    → Whole r s w
    → ReadBy k r next
    → ReadBy l r next'
    → In k [] ↔ (ends ≡ true)
    → (c : ℕ) (t : Text)
    → Apart k l s (c ∷ t)
    ↔ (((i : ℕ) × (j : ℕ) × BothStep r r next next' c i j × Early r s i j t)
    ⊎ ((ends ≡ true) × ((i : ℕ) × (j : ℕ) × BothStep r s next' (first_at s) c i j × Late w s i j t)))
apart_step_iff k l r s w next next' ends whole read read' end_iff c t =
    Iff.trans
    (apart_cons_iff
    k
    l
    s
    c
    (StepTo r next c)
    (rest_at r)
    (StepTo r next' c)
    (rest_at r)
    (StepTo s (first_at s) c)
    (rest_at s)
    (position_on k r next read c)
    (position_on l r next' read' c)
    (position_on s s (first_at s) (first_law s) c)
    t) (
      ⊎_map
          (λ h. let (i, j, a, b, x) = h in (i, j, (both_step_iff r r next next' c i j).1 (a, b), x))
          (λ h.
          let (e, (i, j, a, b, x, y)) = h in (
            end_iff.0 e,
            (
              i,
              j,
              (both_step_iff r s next' (first_at s) c i j).1 (a, b),
              record { in_whole = (whole.rest_iff i a.0 t).1 x; in_second = y },
            ),
          )),
      ⊎_map
          (λ h.
          let (i, j, step, x) = h in
          let (a, b) = (both_step_iff r r next next' c i j).0 step in
          (i, j, a, b, x))
          (λ h.
          let (e, (i, j, step, l)) = h in
          let (a, b) = (both_step_iff r s next' (first_at s) c i j).0 step in
          (end_iff.1 e, (i, j, a, b, (whole.rest_iff i step.left t).0 l.in_whole, l.in_second))),
    )

-- behind two positions of r the empty text has no two cuts
pub early_end : (r s : Pattern) (p q : ℕ) → ¬ Early r s p q []
early_end r s p q = apart_end (rest_at r p) (rest_at r q) s

-- both go on in r; or the first may end, and the second goes on in r, so in the whole, while s begins
pub early_step_iff :
    (r s w : Pattern) → Whole r s w → (p q : ℕ) → p < positions r → q < positions r → (c : ℕ) (t : Text)
    → Early r s p q (c ∷ t)
    ↔ (((i : ℕ) × (j : ℕ) × BothStep r r (follow_at r p) (follow_at r q) c i j × Early r s i j t)
    ⊎ ((last_at r p ≡ true) × ((i : ℕ) × (j : ℕ) × BothStep r s (follow_at r q) (first_at s) c i j × Late w s i j t)))
early_step_iff r s w whole p q h k =
    apart_step_iff
    (rest_at r p)
    (rest_at r q)
    r
    s
    w
    (follow_at r p)
    (follow_at r q)
    (last_at r p)
    whole
    (follow_law r p h)
    (follow_law r q k)
    (last_law r p h)

-- ---- The test of a text with two cuts

-- the test is true exactly of a text with two cuts
pub cut_twice_iff : (r s : Pattern) (t : Text) → (cut_twice r s t ≡ true) ↔ CutTwice r s t
unfolding cut_twice
cut_twice_iff r s t = (to, from)
  where
    to : cut_twice r s t ≡ true → CutTwice r s t
    to e =
        let (a, b, l) = two_ends r s t e in
        record { end = first_end r s t; end' = second_end r s t; cut = a; cut' = b; other_end = λ p. omega arith }

    -- the larger of two ends is above the first
    above : (d e : ℕ) → EndAt r s t d → EndAt r s t e → d < e → cut_twice r s t ≡ true
    above d e a b l =
        let p = first_smallest r s t d a in
        let q = second_smallest r s t e b (omega arith) in
        le-leb (second_end r s t) (length t) (omega (arith, b.0))

    from : CutTwice r s t → cut_twice r s t ≡ true
    from h =
        ⊎_elim
        (λ p. above h.end h.end' h.cut h.cut' (ltb-true h.end h.end' p))
        (λ p. above h.end' h.end h.cut' h.cut (omega (arith, ltb-false h.end h.end' p, h.other_end)))
        (bool_cases (ltb h.end h.end'))

-- two first halves of one text that are equally long are the same
same_halves : (u v u' v' : Text) → u ++ v ≡ u' ++ v' → length u ≡ length u' → u ≡ u'
same_halves u v u' v' e l =
    let h : take (length u) (u ++ v) ≡ take (length u') (u' ++ v') = cc in
    sym (take-append_seam u v) ∙ h ∙ take-append_seam u' v'

-- a text that is cut into two pairs of halves passes
pub halves_test : (r s : Pattern) (c : TwoCuts r s) → cut_twice r s (c.left ++ c.right) ≡ true
halves_test r s c =
    let t = c.left ++ c.right in
    (cut_twice_iff r s t).1
    (record {
      end = length c.left;
      end' = length c.left';
      cut = end_behind r s t c.left c.right refl c.left_in c.right_in;
      cut' = end_behind r s t c.left' c.right' c.same_text_lem c.left_in' c.right_in';
      other_end = λ l. c.other_cut (same_halves c.left c.right c.left' c.right' c.same_text_lem l);
    })

-- ---- A text with two cuts, from the start

-- of two ends, the larger one leaves a byte c and a text x more on the left
between :
    (t : Text) (e e' : ℕ) → e < e' → e' ≤ length t
    → (c : ℕ) × (x : Text) × (take e' t ≡ take e t ++ c ∷ x) × (drop e t ≡ c ∷ x ++ drop e' t)
between [] e e' h k = absurd (let z : e' ≤ 0 = k in omega arith)
between (b ∷ t) e zero h k = absurd (not-suc-le-zero h)
between (b ∷ t) zero (suc e') h k = (b, take e' t, refl, ap (λ y. b ∷ y) (sym (take-append-drop e' t)))
between (b ∷ t) (suc e) (suc e') h k =
    let (c, x, p, q) = between t e e' (le_of_suc-le-suc h) (le_of_suc-le-suc k) in
    (c, x, ap (λ y. b ∷ y) p, q)

-- A text with two cuts is read twice from the start of r, and one reading comes to its cut before the other.
pub apart_iff : (r s : Pattern) (t : Text) → (cut_twice r s t ≡ true) ↔ Apart r r s t
apart_iff r s t = (to, from)
  where
    to : cut_twice r s t ≡ true → Apart r r s t
    to told =
        let ((h, a, b), (h', a', b'), l) = two_ends r s t told in
        let e = first_end r s t in
        let e' = second_end r s t in
        let (c, x, p, q) = between t e e' l h' in
        record {
          u = take e t;
          c = c;
          x = x;
          v = drop e' t;
          text_is = sym (take-append-drop e' t) ∙ ap (λ y. y ++ drop e' t) p;
          first_in = a;
          first_rest = subst (In s) q b;
          second_in = subst (In r) p a';
          second_rest = b';
        }

    from : Apart r r s t → cut_twice r s t ≡ true
    from a =
        let w = a.c ∷ a.x in
        (cut_twice_iff r s t).1
        (record {
          end = length a.u;
          end' = length (a.u ++ w);
          cut = end_behind r s t a.u (w ++ a.v) (a.text_is ∙ append_assoc a.u w a.v) a.first_in a.first_rest;
          cut' = end_behind r s t (a.u ++ w) a.v a.text_is a.second_in a.second_rest;
          other_end = λ e. omega (arith, simp length-append at e);
        })

-- the empty text has no two cuts
pub cut_end : (r s : Pattern) → cut_twice r s [] ≡ false
cut_end r s = false_of_not_true (cut_twice r s []) (λ e. apart_end r r s ((apart_iff r s []).0 e))

-- both go on in r; or the first half may be empty, and r and s begin
pub cut_step_iff :
    (r s w : Pattern) → Whole r s w → (c : ℕ) (t : Text)
    → (cut_twice r s (c ∷ t) ≡ true)
    ↔ (((i : ℕ) × (j : ℕ) × BothStep r r (first_at r) (first_at r) c i j × Early r s i j t)
    ⊎ ((nullable r ≡ true) × ((i : ℕ) × (j : ℕ) × BothStep r s (first_at r) (first_at s) c i j × Late w s i j t)))
cut_step_iff r s w whole c t =
    Iff.trans
    (apart_iff r s (c ∷ t))
    (apart_step_iff r r r s w (first_at r) (first_at r) (nullable r) whole (first_law r) (first_law r) (in_nullable r, nullable_in r) c t)
