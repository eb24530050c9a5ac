-- Laws that the other files share: of the smallest number that passes a test, of the numbers below n, and of the ends that the first half can have in
-- the cuts of a text.
use Rattle.std.specs.Prelude.{◌≡◌, refl, Bool, true, false, ◌&&◌, cond, [], ◌∷◌, ◌++◌, ◌↔◌, ltb, length, take, drop}
use Rattle.std.proofs.Common.{sym, inl, inr, ⊎_elim, length-append}
use Prim.Native.Nat.{ℕ, zero, suc, ◌+◌, ◌-◌, ◌≤◌, ◌<◌}
use native.Mathlib.Omega.{arith}
use Rattle.std.proofs.Math.Seq.{take-append_seam, drop-append_seam}
use borrow.Author.Tests.{ltb-true, ltb-false, leb-true}
use Rattle.semantics.specs.Text.{Text, Member, least}
use Rattle.semantics.specs.Pattern.{Pattern, In, matches}
use Rattle.semantics.specs.Table.{below}
use Rattle.laws.specs.Basics.{bool_cases, not_both, false_of_not_true, and_both, and_of, member_left, member_right, member_append}
use Rattle.laws.specs.Membership.{matches_in_lem, in_matches}
use Rattle.clash.specs.Clash.{EndAt, is_end, first_end, second_end, cut_twice}

-- ---- Tests and numbers

-- two tests that are true of the same are the same
pub same_test : (a b : Bool) → (a ≡ true) ↔ (b ≡ true) → a ≡ b
same_test true b is = sym (is.0 refl)
same_test false b is = sym (false_of_not_true b (λ e. not_both (is.1 e) refl))

-- what `least` finds below n passes
least_found : (n : ℕ) (test : ℕ → Bool) → least n test < n → test (least n test) ≡ true
unfolding least
least_found zero test h = absurd (omega arith)
least_found (suc n) test h = go (test zero) refl (least_found n (λ i. test (suc i))) h
  where
    later : ℕ
    later = least n (λ i. test (suc i))

    go : (b : Bool) → test zero ≡ b → (later < n → test (suc later) ≡ true) → cond b zero (suc later) < suc n → test (cond b zero (suc later)) ≡ true
    go true e rec l = e
    go false e rec l = rec (omega arith)

-- and no number below it does
pub least_first : (n : ℕ) (test : ℕ → Bool) (k : ℕ) → test k ≡ true → least n test ≤ k
unfolding least
least_first zero test k e = omega arith
least_first (suc n) test zero e = rw e (omega arith)
least_first (suc n) test (suc k) e = go (test zero) (least_first n (λ i. test (suc i)) k e)
  where
    later : ℕ
    later = least n (λ i. test (suc i))

    go : (b : Bool) → later ≤ k → cond b zero (suc later) ≤ suc k
    go true l = omega arith
    go false l = omega arith

-- the list of the numbers below n has each of them
pub member_below : (n k : ℕ) → k < n → Member k (below n)
unfolding below
member_below zero k h = absurd (omega arith)
member_below (suc n) k h =
    ⊎_elim
    (λ e. member_left k (below n) (n ∷ []) (member_below n k (ltb-true k n e)))
    (λ e. let l = ltb-false k n e in member_right k (below n) (n ∷ []) (inl (omega arith)))
    (bool_cases (ltb k n))

-- and no other
pub below_member : (n k : ℕ) → Member k (below n) → k < n
unfolding below
below_member zero k m = elim m [ ]
below_member (suc n) k m = ⊎_elim (λ i. let h = below_member n k i in omega arith) last (member_append k (below n) (n ∷ []) m)
  where
    last : Member k (n ∷ []) → k < suc n
    last (inl e) = omega arith
    last (inr m) = elim m [ ]

-- ---- The ends of a text

-- two texts pass exactly if each is of its pattern
pub both_match_iff : (r s : Pattern) (t u : Text) → (matches r t && matches s u ≡ true) ↔ (In r t × In s u)
both_match_iff r s t u = (
  λ e. let (a, b) = and_both (matches r t) (matches s u) e in (matches_in_lem r t a, matches_in_lem s u b),
  λ h. and_of (matches r t) (matches s u) (in_matches r t h.0) (in_matches s u h.1),
)

module _ (r s : Pattern) (t : Text) where
  -- the test of an end
  pub is_end_iff : (e : ℕ) → e ≤ length t → (is_end r s t e ≡ true) ↔ EndAt r s t e
  unfolding is_end
  is_end_iff e h =
      let both = both_match_iff r s (take e t) (drop e t) in
      (λ p. let (a, b) = both.0 p in (h, a, b), λ q. both.1 (q.1, q.2))

  -- the first end is the smallest
  pub first_smallest : (e : ℕ) → EndAt r s t e → first_end r s t ≤ e
  unfolding first_end
  first_smallest e h = least_first (suc (length t)) (is_end r s t) e ((is_end_iff e h.0).1 h)

  -- the second is the smallest above it
  pub second_smallest : (e : ℕ) → EndAt r s t e → first_end r s t < e → second_end r s t ≤ e
  unfolding second_end
  second_smallest e h l =
      omega (arith, least_first (suc (length t) - from) (λ i. is_end r s t (from + i)) (e - from) (rw back ((is_end_iff e h.0).1 h)))
    where
      from : ℕ
      from = suc (first_end r s t)

      back : from + (e - from) ≡ e
      back = omega arith

  -- the first end is an end, if it is no more than the length
  first_found : first_end r s t ≤ length t → EndAt r s t (first_end r s t)
  unfolding first_end
  first_found h = (is_end_iff (first_end r s t) h).0 (least_found (suc (length t)) (is_end r s t) (omega arith))

  -- and so is the second
  second_found : second_end r s t ≤ length t → EndAt r s t (second_end r s t)
  unfolding second_end
  second_found h = (is_end_iff (second_end r s t) h).0 (least_found (suc (length t) - from) (λ i. is_end r s t (from + i)) (omega arith))
    where
      from : ℕ
      from = suc (first_end r s t)

  -- the second is above the first
  second_above : first_end r s t < second_end r s t
  unfolding second_end
  second_above = omega arith

  -- Where the test finds two ends, they are ends.
  pub two_ends : cut_twice r s t ≡ true → EndAt r s t (first_end r s t) × EndAt r s t (second_end r s t) × (first_end r s t < second_end r s t)
  unfolding cut_twice
  two_ends e =
      let h = leb-true (second_end r s t) (length t) e in
      let l = second_above in
      (first_found (omega arith), second_found h, l)

  -- a cut has its end behind its first half
  pub end_behind : (u v : Text) → t ≡ u ++ v → In r u → In s v → EndAt r s t (length u)
  end_behind u v e i j = rw e (rw (length-append u v) (omega arith), rw (take-append_seam u v) i, rw (drop-append_seam u v) j)
