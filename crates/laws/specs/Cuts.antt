-- Where the typing rules hold, a text has one cut and one list of parts, and the definitions find them.
use Rattle.std.specs.Prelude.{◌≡◌, refl, Bool, true, ◌&&◌, ℕ, zero, suc, ◌≤◌, length, take, drop}
use Rattle.std.proofs.Common.{sym, ap, ◌∙◌, inl, inr, not-suc-le-zero, le_refl, arith, length-append, take-append-drop, length-take-le}
use mathlib.Core.List.{List, [], ◌∷◌, ◌++◌, append_assoc, append_cancel_left, head-eq_of_cons-eq, List-discrete}
use Rattle.std.proofs.Math.Logic.Dec
use Rattle.std.proofs.Math.Decide.{ℕ_discrete}
use Rattle.std.proofs.Math.Seq.{take-append_seam, drop-append_seam}
use Rattle.semantics.specs.Text.{Text, joined, least, All}
use Rattle.semantics.specs.Pattern.{Pattern, star, In, matches}
use Rattle.semantics.specs.Ambiguity.{TwoCuts, TwoLists, BadRepeat}
use Rattle.semantics.specs.Lens.{cut_at, parts_within, parts}
use Rattle.laws.specs.Basics.{and_both, and_of, least_passes, least_le}
use Rattle.laws.specs.Membership.{matches_in_lem, in_matches}

-- two texts are equal if they cannot be different
same_text_lem : (t u : Text) → ¬ (¬ (t ≡ u)) → t ≡ u
same_text_lem t u h = (Dec.not-not (List-discrete ℕ_discrete t u)).0 h

-- where no text has two cuts, two cuts of one text have the same first half
one_cut_lem : (r s : Pattern) → ¬ TwoCuts r s → (u v u' v' : Text) → In r u → In s v → In r u' → In s v' → u ++ v ≡ u' ++ v' → u ≡ u'
one_cut_lem r s one u v u' v' i j i' j' e =
    same_text_lem
    u
    u'
    (λ other.
    one
    record {
      left = u;
      right = v;
      left_in = i;
      right_in = j;
      left' = u';
      right' = v';
      left_in' = i';
      right_in' = j';
      same_text_lem = e;
      other_cut = other;
    })

-- The first place at which to cut t, where w stands in front of it: joins cut with nothing in front, repeats with the part's first byte.
abbrev place : Text → Pattern → Pattern → Text → ℕ
place w r s t = least (length t) (λ i. matches r (w ++ take i t) && matches s (drop i t))

-- the only cut of w ++ u ++ v behind w is behind u
place_is : (w : Text) (r s : Pattern) → ¬ TwoCuts r s → (u v : Text) → In r (w ++ u) → In s v → place w r s (u ++ v) ≡ length u
place_is w r s one u v i j = sym (length-take-le k t (least_le (length t) test)) ∙ ap length (sym same)
  where
    t : Text
    t = u ++ v

    test : ℕ → Bool
    test n = matches r (w ++ take n t) && matches s (drop n t)

    k : ℕ
    k = place w r s t

    -- behind u both halves belong
    fits : test (length u) ≡ true
    fits =
        and_of
        (matches r (w ++ take (length u) t))
        (matches s (drop (length u) t))
        (rw (take-append_seam u v) (in_matches r (w ++ u) i))
        (rw (drop-append_seam u v) (in_matches s v j))

    -- so they belong where the first such place is found
    halves : (matches r (w ++ take k t) ≡ true) × (matches s (drop k t) ≡ true)
    halves =
        and_both
        (matches r (w ++ take k t))
        (matches s (drop k t))
        (least_passes (length t) test (length u) (rw (length-append u v) (omega arith)) fits)

    left : In r (w ++ take k t)
    left = matches_in_lem r (w ++ take k t) halves.0

    right : In s (drop k t)
    right = matches_in_lem s (drop k t) halves.1

    whole : w ++ u ++ v ≡ w ++ take k t ++ drop k t
    whole = simp (append_assoc, take-append-drop)

    -- which is a second cut of the text
    same : u ≡ take k t
    same = append_cancel_left w u (take k t) (one_cut_lem r s one (w ++ u) v (w ++ take k t) (drop k t) i j left right whole)

-- the only cut of a joined text is between its two halves
pub cut_is : (r s : Pattern) → ¬ TwoCuts r s → (u v : Text) → In r u → In s v → cut_at r s (u ++ v) ≡ length u
unfolding cut_at
cut_is r s one u v i j = place_is [] r s one u v i j

-- the two halves that it leaves
pub cut_left : (r s : Pattern) → ¬ TwoCuts r s → (u v : Text) → In r u → In s v → take (cut_at r s (u ++ v)) (u ++ v) ≡ u
cut_left r s one u v i j = rw (cut_is r s one u v i j) (take-append_seam u v)

pub cut_right : (r s : Pattern) → ¬ TwoCuts r s → (u v : Text) → In r u → In s v → drop (cut_at r s (u ++ v)) (u ++ v) ≡ v
cut_right r s one u v i j = rw (cut_is r s one u v i j) (drop-append_seam u v)

-- a text with two cuts into a part and further parts has two lists of parts
pub two_lists : (r : Pattern) → TwoCuts r (star r) → TwoLists r
unfolding In joined
two_lists r two =
    let (ps, e, all) = two.right_in in
    let (ps', e', all') = two.right_in' in
    record {
      parts = two.left ∷ ps;
      parts_in = (two.left_in, all);
      parts' = two.left' ∷ ps';
      parts_in' = (two.left_in', all');
      same_text_lem = rw (← e, ← e') two.same_text_lem;
      other_parts = λ p. two.other_cut (head-eq_of_cons-eq p);
    }

-- the parts are found in as many turns as the text has bytes
within_is : (r : Pattern) → ¬ BadRepeat r → (n : ℕ) (ps : List Text) → length (joined ps) ≤ n → All (In r) ps → parts_within n r (joined ps) ≡ ps
unfolding parts_within joined In
within_is r one zero [] h all = refl
within_is r one (suc n) [] h all = refl
within_is r one n ([] ∷ ps) h (i, all) = absurd (one (inl i))
within_is r one zero ((c ∷ p) ∷ ps) h (i, all) = absurd (not-suc-le-zero h)
within_is r one (suc n) ((c ∷ p) ∷ ps) h (i, all) =
    let cut = place_is (c ∷ []) r (star r) (λ two. one (inr (two_lists r two))) p (joined ps) i (ps, refl, all) in
    let later = within_is r one n ps (omega (arith, length-append p (joined ps))) all in
    rw (cut, take-append_seam p (joined ps), drop-append_seam p (joined ps), later)

-- the only list of parts of a joined text is the list that was joined
pub parts_is : (r : Pattern) → ¬ BadRepeat r → (ps : List Text) → All (In r) ps → parts r (joined ps) ≡ ps
unfolding parts
parts_is r one ps all = within_is r one (length (joined ps)) ps (le_refl (length (joined ps))) all
