-- Each typing test is true if and only if such a text exists.
use Rattle.std.specs.Prelude.{◌≡◌, Bool, true, false, ◌||◌, cond, ◌⊎◌, ◌↔◌, ℕ, length}
use Rattle.std.proofs.Math.Path.{refl}
use Rattle.std.proofs.Common.{sym, ap, ◌∙◌, subst, inr, ⊎_elim, arith, length-append}
use mathlib.Core.List.{List, [], ◌∷◌, ◌++◌, append_assoc, append-nil, append_cancel_left, nil≢cons}
use Rattle.std.proofs.Math.Logic.{inl, ⊎_map}
use Rattle.std.proofs.Math.Logic.Iff
use Rattle.semantics.specs.Text.{Text, same_text, joined, some_passes, All, Member}
use Rattle.semantics.specs.Pattern.{Pattern, star, In, nullable}
use Rattle.semantics.specs.Ambiguity.{TwoCuts, Overlap, TwoLists, BadRepeat, Pair, next_pairs, both_end, states, reached, onward, overlaps, two_cuts, bad_repeat}
use Rattle.laws.specs.Basics.{bool_cases, not_both, and_both, and_of, or_either, or_left, or_right, same_text_eq, same_text_refl, member_right, all_at, all_of, passes_at, passes_of}
use Rattle.laws.specs.Membership.{nullable_in, in_nullable}
use Rattle.laws.specs.States.{member_one, member_cond, cond_member, member_joined_map, joined_map_member}
use Rattle.laws.specs.Search.{next_in, in_next, Among, next_among, Found, reached_keeps, reached_finds}

-- ---- Some member

module _ {A : Type 0} where
  abbrev Some : (A → Type 0) → List A → Type 0
  Some P xs = (x : A) × Member x xs × P x

  some_iff : (P Q : A → Type 0) (xs : List A) → ((x : A) → P x ↔ Q x) → Some P xs ↔ Some Q xs
  some_iff P Q xs f = (λ h. (h.0, h.1, (f h.0).0 h.2), λ h. (h.0, h.1, (f h.0).1 h.2))

  some_one : (P : A → Type 0) (x : A) → Some P (x ∷ []) ↔ P x
  some_one P x = (λ h. subst P (member_one h.0 x h.1) h.2, λ h. (x, inl refl, h))

  passes_iff : (test : A → Bool) (xs : List A) → (some_passes test xs ≡ true) ↔ Some (λ x. test x ≡ true) xs
  passes_iff test xs = (passes_at test xs, λ h. passes_of test h.0 xs h.1 h.2)

-- a pair with which to go on comes from a pair whose first may end
some_onward :
    (P : Pair → Type 0) (f : Pattern → List Pair) (ps : List Pair)
    → Some P (onward f ps) ↔ Some (λ p. (nullable p.0 ≡ true) × Some P (f p.1)) ps
unfolding onward
some_onward P f ps = (
  λ h.
      let (p, m, n) = joined_map_member (λ p. cond (nullable p.0) (f p.1) []) h.0 ps h.1 in
      let (e, i) = member_cond (nullable p.0) h.0 (f p.1) n in
      (p, m, (e, (h.0, i, h.2))),
  λ h.
      let (p, m, (e, (a, i, x))) = h in
      (a, member_joined_map (λ p. cond (nullable p.0) (f p.1) []) p a ps m (cond_member (nullable p.0) a (f p.1) e i), x),
)

-- ---- One phase of a test: the first of a pair reads a text u to its end, the second reads u and has a text w left, of which F holds

module _ (F : Text → Type 0) where
  abbrev Left : Pattern → Type 0
  Left q = (w : Text) × In q w × F w

  abbrev Runs : Pair → Type 0
  Runs a = (u : Text) × (w : Text) × In a.0 u × In a.1 (u ++ w) × F w

  -- the same with u empty
  abbrev Stops : Pair → Type 0
  Stops a = (nullable a.0 ≡ true) × Left a.1

  runs_back : (a b : Pair) → Member b (next_pairs a) → Runs b → Runs a
  runs_back a b m h =
      let (u, w, i, j, f) = h in
      let (c, p, q) = next_in a b m in
      (c ∷ u, w, p u i, q (u ++ w) j, f)

  runs_on :
      (starts result : List Pair)
      → Found starts result
      → (u w : Text) (a : Pair)
      → Member a result
      → In a.0 u
      → In a.1 (u ++ w)
      → F w
      → Some Stops result
  runs_on starts result h [] w a m i j f = (a, m, (in_nullable a.0 i, (w, j, f)))
  runs_on starts result h (c ∷ u) w a m i j f =
      let (b, n, i', j') = in_next a c u (u ++ w) i j in
      runs_on starts result h u w b (h.goes_on a b m n) i' j' f

  -- The search finds a pair that stops if and only if it starts from one that runs.
  reached_iff : (r s : Pattern) (starts : List Pair) → All (Among r s) starts → Some Stops (reached r s starts) ↔ Some Runs starts
  reached_iff r s starts among = (back, on)
    where
      back : Some Stops (reached r s starts) → Some Runs starts
      back h =
          let (b, m, (e, (w, j, f))) = h in
          all_at
          (λ b. Runs b → Some Runs starts)
          b
          (reached r s starts)
          (reached_keeps
          (λ b. Runs b → Some Runs starts)
          (λ a b p n x. p (runs_back a b n x))
          r
          s
          starts
          (all_of (λ b. Runs b → Some Runs starts) starts (λ a n x. (a, n, x))))
          m
          ([], w, nullable_in b.0 e, j, f)

      on : Some Runs starts → Some Stops (reached r s starts)
      on h =
          let (a, m, (u, w, i, j, f)) = h in
          let found = reached_finds r s starts among in
          runs_on starts (reached r s starts) found u w a (found.holds a m) i j f

-- a phase that starts where the phase before has found the first of a pair to end
phase_iff :
    (F G : Text → Type 0) (r s : Pattern) (f : Pattern → List Pair) (ps : List Pair)
    → ((q : Pattern) → Some (Runs F) (f q) ↔ Left G q)
    → All (Among r s) (onward f ps)
    → Some (Stops F) (reached r s (onward f ps)) ↔ Some (Stops G) ps
phase_iff F G r s f ps e among =
    Iff.trans
    (reached_iff F r s (onward f ps) among)
    (Iff.trans (some_onward (Runs F) f ps) (some_iff _ (Stops G) ps (λ p. Iff.and Iff.rfl (e p.1))))

-- the last phase: both read to the end
abbrev Empty : Text → Type 0
Empty w = w ≡ []

-- the test at the end of a search
ends_iff : (a : Pair) → (both_end a ≡ true) ↔ Stops Empty a
unfolding both_end
ends_iff a = (
  λ e. let h = and_both (nullable a.0) (nullable a.1) e in (h.0, ([], nullable_in a.1 h.1, refl)),
  λ h. and_of (nullable a.0) (nullable a.1) h.0 (in_nullable a.1 (subst (In a.1) h.1.2 h.1.1)),
)

end_iff : (ps : List Pair) → (some_passes both_end ps ≡ true) ↔ Some (Stops Empty) ps
end_iff ps = Iff.trans (passes_iff both_end ps) (some_iff _ (Stops Empty) ps ends_iff)

-- in that phase a pair runs if the two have a text in common
both_iff : (p q : Pattern) → Some (Runs Empty) ((p, q) ∷ []) ↔ Left (In q) p
both_iff p q =
    Iff.trans
    (some_one (Runs Empty) (p, q)) (
      λ h. let (u, w, i, j, e) = h in (u, i, subst (In q) (ap (λ v. u ++ v) e ∙ append-nil u) j),
      λ h. (h.0, [], h.1, subst (In q) (sym (append-nil h.0)) h.2, refl),
    )

-- ---- Overlaps

module _ (r s : Pattern) where
  first_state : Member r (states r ++ states s)
  unfolding states
  first_state = inl refl

  second_state : Member s (states r ++ states s)
  unfolding states
  second_state = member_right s (states r) (states s) (inl refl)

pub overlaps_iff : (r s : Pattern) → (overlaps r s ≡ true) ↔ Overlap r s
unfolding overlaps
overlaps_iff r s =
    Iff.trans
    (end_iff (reached r s ((r, s) ∷ [])))
    (Iff.trans
    (reached_iff Empty r s ((r, s) ∷ []) ((first_state r s, second_state r s), tt))
    (Iff.trans
    (both_iff r s)
    (λ h. record { text = h.0; in_left = h.1; in_right = h.2 }, λ h. (h.text, h.in_left, h.in_right))))

-- ---- Two cuts

-- what is left after u of a text with two cuts: w, not empty, with which and without which s can go on
abbrev Moved : Pattern → Text → Type 0
Moved s w = (c : ℕ) × (x : Text) × (v : Text) × (w ≡ c ∷ x) × In s (w ++ v) × In s v

-- w is read in r and in s, its first byte at once, so that it is not empty
moved_iff : (q s : Pattern) → Some (Runs (In s)) (next_pairs (q, s)) ↔ Left (Moved s) q
moved_iff q s = (to, from)
  where
    to : Some (Runs (In s)) (next_pairs (q, s)) → Left (Moved s) q
    to h =
        let (b, m, (x, v, i, j, k)) = h in
        let (c, f, g) = next_in (q, s) b m in
        (c ∷ x, f x i, (c, x, v, refl, g (x ++ v) j, k))

    from : Left (Moved s) q → Some (Runs (In s)) (next_pairs (q, s))
    from h =
        let (w, i, (c, x, v, e, j, k)) = h in
        let (b, m, i', j') = in_next (q, s) c x (x ++ v) (subst (In q) e i) (subst (λ w. In s (w ++ v)) e j) in
        (b, m, (x, v, i', j', k))

-- the cut of the first text comes before that of the second, by a part that is not empty
abbrev Before : Text → Text → Text → Text → Type 0
Before u v u' v' = (c : ℕ) × (x : Text) × (u' ≡ u ++ c ∷ x) × (v ≡ c ∷ x ++ v')

before_cons : (c d : ℕ) (u v u' v' : Text) → c ≡ d → Before u v u' v' → Before (c ∷ u) v (d ∷ u') v'
before_cons c d u v u' v' p h = let (b, x, e, f) = h in (b, x, (cc), f)

-- Of two cuts of a text, one comes before the other.
cuts_apart : (u v u' v' : Text) → u ++ v ≡ u' ++ v' → ¬ (u ≡ u') → Before u v u' v' ⊎ Before u' v' u v
cuts_apart [] v [] v' e n = absurd (n refl)
cuts_apart [] v (c ∷ x) v' e n = inl (c, x, refl, e)
cuts_apart (c ∷ x) v [] v' e n = inr (c, x, refl, sym e)
cuts_apart (c ∷ u) v (d ∷ u') v' e n =
    let p : c ≡ d = cc in
    ⊎_map
    (before_cons c d u v u' v' p)
    (before_cons d c u' v' u v (sym p))
    (cuts_apart u v u' v' (cc) (λ q. n (cc)))

-- Two cuts are a text u that both have, and a text w by which the second goes further.
pub cuts_iff : (r s : Pattern) → Runs (Moved s) (r, r) ↔ TwoCuts r s
cuts_iff r s = (to, from)
  where
    longer : (u : Text) (c : ℕ) (x : Text) → ¬ (u ≡ u ++ c ∷ x)
    longer u c x e = omega (arith, simp length-append at (ap length e))

    to : Runs (Moved s) (r, r) → TwoCuts r s
    to h =
        let (u, w, i, j, (c, x, v, e, k, l)) = h in
        record {
          left = u;
          right = w ++ v;
          left_in = i;
          right_in = k;
          left' = u ++ w;
          right' = v;
          left_in' = j;
          right_in' = l;
          same_text_lem = sym (append_assoc u w v);
          other_cut = λ q. longer u c x (q ∙ ap (λ y. u ++ y) e);
        }

    later : (u v u' v' : Text) → In r u → In s v → In r u' → In s v' → Before u v u' v' → Runs (Moved s) (r, r)
    later u v u' v' i j i' j' h =
        let (c, x, e, f) = h in
        (u, c ∷ x, i, subst (In r) e i', (c, x, v', refl, subst (In s) f j, j'))

    from : TwoCuts r s → Runs (Moved s) (r, r)
    from t =
        ⊎_elim
        (later t.left t.right t.left' t.right' t.left_in t.right_in t.left_in' t.right_in')
        (later t.left' t.right' t.left t.right t.left_in' t.right_in' t.left_in t.right_in)
        (cuts_apart t.left t.right t.left' t.right' t.same_text_lem t.other_cut)

-- the phases keep to the states of the two patterns
onward_among :
    (r s : Pattern) (f : Pattern → List Pair) (starts : List Pair)
    → ((q : Pattern) → Member q (states r ++ states s) → (a : Pair) → Member a (f q) → Among r s a)
    → All (Among r s) starts
    → All (Among r s) (onward f (reached r s starts))
onward_among r s f starts g h =
    all_of
    (Among r s)
    (onward f (reached r s starts))
    (λ a m.
    let (p, n, (e, (b, i, q))) = (some_onward (λ b. a ≡ b) f (reached r s starts)).0 (a, m, refl) in
    let among = all_at (Among r s) p (reached r s starts) (reached_keeps (Among r s) (next_among r s) r s starts h) n in
    subst (Among r s) (sym q) (g p.1 among.1 b i))

pub two_cuts_iff : (r s : Pattern) → (two_cuts r s ≡ true) ↔ TwoCuts r s
unfolding two_cuts
two_cuts_iff r s =
    Iff.trans
    (end_iff (reached r s (onward begin_v x)))
    (Iff.trans
    (phase_iff Empty (In s) r s begin_v x (λ q. both_iff q s) v_among)
    (Iff.trans
    (phase_iff (In s) (Moved s) r s begin_x u (λ q. moved_iff q s) x_among)
    (Iff.trans (reached_iff (Moved s) r s ((r, r) ∷ []) u_among) (Iff.trans (some_one (Runs (Moved s)) (r, r)) (cuts_iff r s)))))
  where
    begin_x : Pattern → List Pair
    begin_x q = next_pairs (q, s)

    begin_v : Pattern → List Pair
    begin_v q = (q, s) ∷ []

    u : List Pair
    u = reached r s ((r, r) ∷ [])

    x : List Pair
    x = reached r s (onward begin_x u)

    u_among : All (Among r s) ((r, r) ∷ [])
    u_among = ((first_state r s, first_state r s), tt)

    x_among : All (Among r s) (onward begin_x u)
    x_among = onward_among r s begin_x ((r, r) ∷ []) (λ q m a. next_among r s (q, s) a (m, second_state r s)) u_among

    v_among : All (Among r s) (onward begin_v x)
    v_among =
        onward_among
        r
        s
        begin_v
        (onward begin_x u)
        (λ q m a n. subst (Among r s) (sym (member_one a (q, s) n)) (m, second_state r s))
        x_among

-- ---- Repeats

-- of a text that is empty each part is
empty_part : (r : Pattern) (p v : Text) → [] ≡ p ++ v → In r p → In r []
empty_part r [] v e i = i
empty_part r (c ∷ p) v e i = absurd (nil≢cons e)

-- Where two lists of parts of one text first differ, there are two cuts, unless a part is empty.
lists_cuts :
    (r : Pattern) (ps qs : List Text) → All (In r) ps → All (In r) qs → joined ps ≡ joined qs → ¬ (ps ≡ qs) → In r [] ⊎ TwoCuts r (star r)
unfolding joined In
lists_cuts r [] [] i j e n = absurd (n refl)
lists_cuts r [] (q ∷ qs) i j e n = inl (empty_part r q (joined qs) e j.0)
lists_cuts r (p ∷ ps) [] i j e n = inl (empty_part r p (joined ps) (sym e) i.0)
lists_cuts r (p ∷ ps) (q ∷ qs) i j e n =
    ⊎_elim (same (lists_cuts r ps qs i.1 j.1)) (λ f. inr (other f)) (bool_cases (same_text p q))
  where
    same :
        (joined ps ≡ joined qs → ¬ (ps ≡ qs) → In r [] ⊎ TwoCuts r (star r))
        → same_text p q ≡ true
        → In r [] ⊎ TwoCuts r (star r)
    same rec f =
        let d = same_text_eq p q f in
        rec (append_cancel_left q (joined ps) (joined qs) (rw d at e)) (λ g. n (cc))

    other : same_text p q ≡ false → TwoCuts r (star r)
    other f =
        record {
          left = p;
          right = joined ps;
          left_in = i.0;
          right_in = (ps, refl, i.1);
          left' = q;
          right' = joined qs;
          left_in' = j.0;
          right_in' = (qs, refl, j.1);
          same_text_lem = e;
          other_cut = λ d. not_both (subst (λ t. same_text p t ≡ true) d (same_text_refl p)) f;
        }

-- and two cuts begin two lists of parts
cuts_lists : (r : Pattern) → TwoCuts r (star r) → TwoLists r
unfolding joined In
cuts_lists r t =
    let (ps, e, i) = t.right_in in
    let (qs, f, j) = t.right_in' in
    let same = t.same_text_lem in
    record {
      parts = t.left ∷ ps;
      parts_in = (t.left_in, i);
      parts' = t.left' ∷ qs;
      parts_in' = (t.left_in', j);
      same_text_lem = cc;
      other_parts = λ d. t.other_cut (cc);
    }

pub bad_repeat_iff : (r : Pattern) → (bad_repeat r ≡ true) ↔ BadRepeat r
unfolding bad_repeat
bad_repeat_iff r = (to, from)
  where
    to : nullable r || two_cuts r (star r) ≡ true → BadRepeat r
    to e =
        ⊎_map
        (nullable_in r)
        (λ f. cuts_lists r ((two_cuts_iff r (star r)).0 f))
        (or_either (nullable r) (two_cuts r (star r)) e)

    empty : In r [] → nullable r || two_cuts r (star r) ≡ true
    empty i = or_left (nullable r) (two_cuts r (star r)) (in_nullable r i)

    from : BadRepeat r → nullable r || two_cuts r (star r) ≡ true
    from b =
        ⊎_elim
        empty
        (λ t.
        ⊎_elim
        empty
        (λ c. or_right (nullable r) (two_cuts r (star r)) ((two_cuts_iff r (star r)).1 c))
        (lists_cuts r t.parts t.parts' t.parts_in t.parts_in' t.same_text_lem t.other_parts))
        b
