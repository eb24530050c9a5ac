-- The text that the functions give is the lowest of the shortest texts that break the rule; and what the test of a text stands for.
use Rattle.std.specs.Prelude.{◌≡◌, refl, Bool, true, false, ◌⊎◌, ℕ, zero, suc, ◌<◌, ltb, length, take}
use Rattle.std.proofs.Common.{sym, ap, ◌∙◌, subst, inl, inr, ⊎_elim, arith, length-append, take-append-drop, length-take-le, ltb-true, ltb-false}
use mathlib.Core.List.{List, [], ◌∷◌, ◌++◌, append_cancel_left, head-eq_of_cons-eq, nil≢cons}
use Rattle.semantics.specs.Text.{Text, same_text, joined, All, least}
use Rattle.semantics.specs.Pattern.{Pattern, star, In, nullable}
use Rattle.semantics.specs.Table.{below}
use Rattle.laws.specs.Basics.{bool_cases, not_both, same_text_eq, same_text_refl, least_passes, passes_at, passes_of}
use Rattle.laws.specs.Membership.{nullable_in, in_nullable}
use Rattle.laws.specs.Bytes.{IsByte}
use Rattle.clash.specs.Clash.{
  Rule,
  one_cut,
  one_arm,
  one_list,
  CutTwice,
  PartedTwice,
  Breaks,
  Lower,
  Given,
  breaks,
  some_text,
  lowest_text,
  max_clash,
  shortest_text,
  clash_text,
}
use Rattle.clash.proofs.Ends.{least_first, member_below, below_member}
use Rattle.clash.proofs.Twofold.{arm_iff, cut_twice_iff, halves_test}

-- ---- Texts of n bytes that pass

-- `some_text` is true only where some text of n bytes passes
pub some_at : (n : ℕ) (test : Text → Bool) → some_text n test ≡ true → (t : Text) × (length t ≡ n) × (test t ≡ true)
unfolding some_text
some_at zero test e = ([], refl, e)
some_at (suc n) test e =
    let (c, m, p) = passes_at (λ c. some_text n (λ t. test (c ∷ t))) (below 256) e in
    let (t, l, q) = some_at n (λ t. test (c ∷ t)) p in
    (c ∷ t, ap suc l, q)

-- and where one does, it is true
pub some_of : (n : ℕ) (test : Text → Bool) (t : Text) → All IsByte t → length t ≡ n → test t ≡ true → some_text n test ≡ true
unfolding some_text
some_of zero test [] b l e = e
some_of zero test (c ∷ t) b l e = absurd (omega arith)
some_of (suc n) test [] b l e = absurd (omega arith)
some_of (suc n) test (c ∷ t) b l e =
    passes_of (λ c. some_text n (λ t. test (c ∷ t))) c (below 256) (member_below 256 c b.0) (some_of n (λ t. test (c ∷ t)) t b.1 (omega arith) e)

-- some of them begin with the byte with which the lowest begins
lowest_start :
    (n : ℕ) (test : Text → Bool)
    → some_text (suc n) test ≡ true
    → some_text n (λ t. test (least 256 (λ c. some_text n (λ t. test (c ∷ t))) ∷ t)) ≡ true
unfolding some_text
lowest_start n test e =
    let f : ℕ → Bool = λ c. some_text n (λ t. test (c ∷ t)) in
    let (c, m, p) = passes_at f (below 256) e in
    let h = below_member 256 c m in
    least_passes 256 f c (omega arith) p

-- the lowest of them passes
lowest_passes : (n : ℕ) (test : Text → Bool) → some_text n test ≡ true → test (lowest_text n test) ≡ true
unfolding lowest_text some_text
lowest_passes zero test e = e
lowest_passes (suc n) test e = lowest_passes n _ (lowest_start n test e)

-- it has n bytes
lowest_length : (n : ℕ) (test : Text → Bool) → length (lowest_text n test) ≡ n
unfolding lowest_text
lowest_length zero test = refl
lowest_length (suc n) test = ap suc (lowest_length n (λ t. test (least 256 (λ c. some_text n (λ t. test (c ∷ t))) ∷ t)))

-- no text of n bytes that passes is lower
none_lower : (n : ℕ) (test : Text → Bool) (u : Text) → All IsByte u → length u ≡ n → test u ≡ true → ¬ Lower u (lowest_text n test)
unfolding lowest_text Lower
none_lower zero test [] b l e h = h
none_lower zero test (d ∷ u) b l e h = absurd (omega arith)
none_lower (suc n) test [] b l e h = absurd (omega arith)
none_lower (suc n) test (d ∷ u) b l e h =
    ⊎_elim
    (λ less.
    let most = least_first 256 f d (some_of n (λ t. test (d ∷ t)) u b.1 (omega arith) e) in
    omega arith)
    (λ same. none_lower n (λ t. test (least 256 f ∷ t)) u b.1 (omega arith) (subst (λ c. test (c ∷ u) ≡ true) same.0 e) same.1)
    h
  where
    f : ℕ → Bool
    f c = some_text n (λ t. test (c ∷ t))

-- ---- The given text

-- two texts of one length, neither of which is lower, are the same
neither_lower : (t u : Text) → length t ≡ length u → ¬ Lower t u → ¬ Lower u t → t ≡ u
unfolding Lower
neither_lower [] [] l h k = refl
neither_lower [] (d ∷ u) l h k = absurd (omega arith)
neither_lower (c ∷ t) [] l h k = absurd (omega arith)
neither_lower (c ∷ t) (d ∷ u) l h k = go (neither_lower t u (omega arith)) (bool_cases (ltb c d)) (bool_cases (ltb d c))
  where
    go :
        (¬ Lower t u → ¬ Lower u t → t ≡ u)
        → (ltb c d ≡ true) ⊎ (ltb c d ≡ false)
        → (ltb d c ≡ true) ⊎ (ltb d c ≡ false)
        → ◌≡◌ {A = Text} (c ∷ t) (d ∷ u)
    go rec (inl e) f = absurd (h (inl (ltb-true c d e)))
    go rec (inr e) (inl f) = absurd (k (inl (ltb-true d c f)))
    go rec (inr e) (inr f) =
        let p = ltb-false c d e in
        let q = ltb-false d c f in
        let same : c ≡ d = omega arith in
        let rest : t ≡ u = rec (λ x. h (inr (same, x))) (λ x. k (inr (sym same, x))) in
        cc

-- No two texts are given.
pub given_one : (B : Text → Type 0) (t u : Text) → Given B t → Given B u → t ≡ u
given_one B t u g k =
    let p = g.shortest u k.breaks in
    let q = k.shortest t g.breaks in
    neither_lower t u (omega arith) (k.lowest t g.breaks (omega arith)) (g.lowest u k.breaks (omega arith))

-- The functions give the given text, where a text of fewer than `max_clash` bytes breaks the rule and all texts that do are made of bytes.
pub clash_given :
    (rule : Rule)
    → ((u : Text) → breaks rule u ≡ true → All IsByte u)
    → (t : Text)
    → breaks rule t ≡ true
    → length t < max_clash
    → Given (λ u. breaks rule u ≡ true) (clash_text rule)
unfolding clash_text shortest_text
clash_given rule bytes t e h =
    record {
      breaks = lowest_passes n (breaks rule) some;
      shortest =
          λ u p. rw (lowest_length n (breaks rule)) (least_first max_clash (λ n. some_text n (breaks rule)) (length u) (passes u p));
      lowest = λ u p l. none_lower n (breaks rule) u (bytes u p) (l ∙ lowest_length n (breaks rule)) p;
    }
  where
    n : ℕ
    n = least max_clash (λ n. some_text n (breaks rule))

    passes : (u : Text) → breaks rule u ≡ true → some_text (length u) (breaks rule) ≡ true
    passes u p = some_of (length u) (breaks rule) u (bytes u p) refl p

    some : some_text n (breaks rule) ≡ true
    some = least_passes max_clash (λ n. some_text n (breaks rule)) (length t) (omega arith) (passes t e)

-- So a given text of fewer than `max_clash` bytes is the one that the functions give.
pub given_is :
    (rule : Rule)
    → ((u : Text) → breaks rule u ≡ true → All IsByte u)
    → (t : Text)
    → Given (λ u. breaks rule u ≡ true) t
    → length t < max_clash
    → clash_text rule ≡ t
given_is rule bytes t g h = given_one (λ u. breaks rule u ≡ true) (clash_text rule) t (clash_given rule bytes t g.breaks h) g

-- ---- The test and what it stands for

-- a text with two ends of its first part has two lists of parts
cuts_parted : (r : Pattern) (t : Text) → CutTwice r (star r) t → PartedTwice r t
unfolding In joined
cuts_parted r t h =
    let (l, i, (ps, e, all)) = h.cut in
    let (l', i', (ps', e', all')) = h.cut' in
    record {
      parts = take h.end t ∷ ps;
      parts' = take h.end' t ∷ ps';
      parts_in = (i, all);
      parts_in' = (i', all');
      join_to = rw (← e) (take-append-drop h.end t);
      join_to' = rw (← e') (take-append-drop h.end' t);
      other_parts = λ p. h.other_end (sym (length-take-le h.end t l) ∙ ap length (head-eq_of_cons-eq p) ∙ length-take-le h.end' t l');
    }

-- the empty text, where it is a part, has no part and one
empty_parted : (r : Pattern) → nullable r ≡ true → PartedTwice r []
unfolding joined
empty_parted r e =
    record {
      parts = [];
      parts' = [] ∷ [];
      parts_in = tt;
      parts_in' = (nullable_in r e, tt);
      join_to = refl;
      join_to' = refl;
      other_parts = nil≢cons;
    }

-- A text that passes the test breaks the rule.
pub breaks_broken : (rule : Rule) (t : Text) → breaks rule t ≡ true → Breaks rule t
unfolding breaks Breaks
breaks_broken (one_cut r s) t e = (cut_twice_iff r s t).0 e
breaks_broken (one_arm r s) t e = (arm_iff r s t).0 e
breaks_broken (one_list r) [] e = empty_parted r e
breaks_broken (one_list r) (c ∷ t) e = cuts_parted r (c ∷ t) ((cut_twice_iff r (star r) (c ∷ t)).0 e)

-- the text passes the test, or a shorter one does
abbrev Tested : Rule → Text → Type 0
Tested rule t = (breaks rule t ≡ true) ⊎ ((u : Text) × (length u < length t) × (breaks rule u ≡ true))

-- where the empty text is a part, it passes
empty_tested : (r : Pattern) (t : Text) → In r [] → Tested (one_list r) t
unfolding breaks
empty_tested r [] i = inl (in_nullable r i)
empty_tested r (c ∷ t) i = inr ([], omega arith, in_nullable r i)

-- Of two lists of parts of a text, a first part that both have can be left out.
lists_tested :
    (r : Pattern) (ps qs : List Text) → All (In r) ps → All (In r) qs → joined ps ≡ joined qs → ¬ (ps ≡ qs) → Tested (one_list r) (joined ps)
unfolding joined In breaks
lists_tested r [] [] i j e n = absurd (n refl)
lists_tested r ([] ∷ ps) qs i j e n = empty_tested r (joined ps) i.0
lists_tested r [] ([] ∷ qs) i j e n = empty_tested r [] j.0
lists_tested r [] ((d ∷ q) ∷ qs) i j e n = absurd (nil≢cons e)
lists_tested r ((c ∷ p) ∷ ps) ([] ∷ qs) i j e n = empty_tested r (c ∷ p ++ joined ps) j.0
lists_tested r ((c ∷ p) ∷ ps) [] i j e n = absurd (nil≢cons (sym e))
lists_tested r ((c ∷ p) ∷ ps) ((d ∷ q) ∷ qs) i j e n =
    ⊎_elim (same (lists_tested r ps qs i.1 j.1)) other (bool_cases (same_text (c ∷ p) (d ∷ q)))
  where
    same :
        (joined ps ≡ joined qs → ¬ (ps ≡ qs) → Tested (one_list r) (joined ps))
        → same_text (c ∷ p) (d ∷ q) ≡ true
        → Tested (one_list r) (c ∷ p ++ joined ps)
    same rec f =
        let k : ◌≡◌ {A = Text} (c ∷ p) (d ∷ q) = same_text_eq (c ∷ p) (d ∷ q) f in
        let l : length (joined ps) < length (c ∷ p ++ joined ps) = omega (arith, length-append p (joined ps)) in
        ⊎_elim
        (λ b. inr (joined ps, l, b))
        (λ b. inr (b.0, omega (arith, b.1), b.2))
        (rec (append_cancel_left (d ∷ q) (joined ps) (joined qs) (subst (λ x. x ++ joined ps ≡ (d ∷ q) ++ joined qs) k e)) (λ g. n (cc)))

    other : same_text (c ∷ p) (d ∷ q) ≡ false → Tested (one_list r) (c ∷ p ++ joined ps)
    other f =
        inl
        (halves_test
        r
        (star r)
        record {
          left = c ∷ p;
          right = joined ps;
          left_in = i.0;
          right_in = (ps, refl, i.1);
          left' = d ∷ q;
          right' = joined qs;
          left_in' = j.0;
          right_in' = (qs, refl, j.1);
          same_text_lem = e;
          other_cut = λ k. not_both (subst (λ t. same_text (c ∷ p) t ≡ true) k (same_text_refl (c ∷ p))) f;
        })

-- A text that breaks the rule passes the test, or a shorter one does.
pub broken_breaks :
    (rule : Rule) (t : Text) → Breaks rule t → (breaks rule t ≡ true) ⊎ ((u : Text) × (length u < length t) × (breaks rule u ≡ true))
unfolding breaks Breaks
broken_breaks (one_cut r s) t h = inl ((cut_twice_iff r s t).1 h)
broken_breaks (one_arm r s) t h = inl ((arm_iff r s t).1 h)
broken_breaks (one_list r) t h =
    let same = h.join_to ∙ sym h.join_to' in
    subst (Tested (one_list r)) h.join_to (lists_tested r h.parts h.parts' h.parts_in h.parts_in' same h.other_parts)

-- So the text given for the test is the one given for the rule.
pub given_broken : (rule : Rule) (t : Text) → Given (λ u. breaks rule u ≡ true) t → Given (Breaks rule) t
given_broken rule t g =
    record {
      breaks = breaks_broken rule t g.breaks;
      shortest = λ u h. ⊎_elim (λ e. g.shortest u e) (λ s. omega (arith, g.shortest s.0 s.2, s.1)) (broken_breaks rule u h);
      lowest =
          λ u h l.
          ⊎_elim
          (λ e. g.lowest u e l)
          (λ s low. absurd (omega (arith, g.shortest s.0 s.2, s.1, l)))
          (broken_breaks rule u h);
    }
