-- A walk over the positions of a set: what the proofs of loops over it cite. Assumes nothing.
use Rattle.std.proofs.Common.{◌≡◌, ◌≢◌, true, false, Bool, cond, ℕ, zero, suc, ◌+◌, ◌≤◌, ◌<◌, eqb, ltb, min, refl, sym, ap, subst, ◌∙◌, arith}
use mathlib.Core.Bool.{false≢true}
use borrow.Author.Tests.{eqb-true, eqb-false, eq-eqb, ne_eqb, ltb-true, ltb-false}
use Rattle.positions.specs.declared.Set.{Set}
use Rattle.positions.specs.Positions.{holds, Removed, FirstFrom}
use Rattle.positions.specs.declared.Below.{Below}
use Rattle.positions.specs.Below.{held_below, Taken, Done}
use Rattle.positions.proofs.Bits.{holds_past}

-- before the first position none is held
pub done_at : {s : Set} {p end : ℕ} → FirstFrom s 0 p → min end 128 ≤ p → (q : ℕ) → q < end → holds s q ≡ false
done_at {s} {p} {end} first h q l = go (ltb q 128) refl
  where
    go : (small : Bool) → ltb q 128 ≡ small → holds s q ≡ false
    go true e = let k = ltb-true q 128 e in first.skipped q (omega arith) (omega arith)
    go false e = let k = ltb-false q 128 e in holds_past s q k

-- where none of the positions below n goes, as many are held
same_many : (n : ℕ) (s t : Set) (p : ℕ) → n ≤ p → Removed s p t → held_below n t ≡ held_below n s
unfolding held_below
same_many zero s t p h removed = refl
same_many (suc n) s t p h removed =
    let here : holds t n ≡ holds s n = removed n ∙ rw (ne_eqb n p (omega arith)) refl in
    rw (here, same_many n s t p (omega arith) removed)

-- where one goes, one fewer
fewer : (n : ℕ) (s t : Set) (p : ℕ) → p < n → holds s p ≡ true → Removed s p t → suc (held_below n t) ≡ held_below n s
unfolding held_below
fewer zero s t p h there removed = absurd (omega arith)
fewer (suc n) s t p h there removed = go (λ (l : p < n). fewer n s t p l there removed) (eqb n p) refl
  where
    more : (b : Bool) (x y : ℕ) → suc x ≡ y → suc (cond b (suc x) x) ≡ cond b (suc y) y
    more true x y e = ap suc e
    more false x y e = e

    go : (p < n → suc (held_below n t) ≡ held_below n s) → (same : Bool) → eqb n p ≡ same → suc (held_below (suc n) t) ≡ held_below (suc n) s
    go below true e =
        let same : n ≡ p = eqb-true n p e in
        let gone : holds t n ≡ false = removed n ∙ rw e refl in
        let held : holds s n ≡ true = rw same there in
        rw (gone, held, same_many n s t p (omega arith) removed)
    go below false e =
        let other = eqb-false n p e in
        let here : holds t n ≡ holds s n = removed n ∙ rw e refl in
        rw here (more (holds s n) (held_below n t) (held_below n s) (below (omega arith)))

pub one_fewer : (s t : Set) (p : ℕ) → p < 128 → FirstFrom s 0 p → Removed s p t → suc (held_below 128 t) ≡ held_below 128 s
one_fewer s t p small first removed = fewer 128 s t p small (first.held small) removed

-- ---- What is left once a position came: what loops over a set cite

module _ {walk after : Below} {n : ℕ} (taken : Taken walk n after) where
  -- that position is left no more
  pub taken_gone : holds after.left n ≡ false
  taken_gone = taken.removed n ∙ rw (eq-eqb n n refl) refl

  -- every other one stays as it was
  pub taken_other : (p : ℕ) → p ≢ n → holds after.left p ≡ holds walk.left p
  taken_other p other = taken.removed p ∙ rw (ne_eqb p n other) refl

  -- what is left was left before
  pub taken_before : (p : ℕ) → holds after.left p ≡ true → holds walk.left p ≡ true
  taken_before p h = go (eqb p n) refl
    where
      go : (same : Bool) → eqb p n ≡ same → holds walk.left p ≡ true
      go true e = rw (eqb-true p n e) (taken.first.held taken.small)
      go false e = sym (taken.removed p ∙ rw e refl) ∙ h

-- ---- Which positions have come: those before a place

-- The walk over `due` has come to the place n: what is left are the positions from n on.
pub record WalkAt (due : Set) (end : ℕ) (walk : Below) (n : ℕ) : Type 0 where
  pub same_end : walk.end ≡ end
  pub within : n ≤ end
  pub gone : (q : ℕ) → q < n → holds walk.left q ≡ false
  pub stays : (q : ℕ) → n ≤ q → holds walk.left q ≡ holds due q

module _ {due : Set} {end : ℕ} where
  -- Nothing has come at first.
  pub at_start : {walk of : Below} → walk ≡ of → of ≡ record { left = due; end = end } → WalkAt due end walk 0
  at_start same begun = subst (λ w. WalkAt due end w 0) (sym (same ∙ begun)) begins
    where
      begins : WalkAt due end (record { left = due; end = end }) 0
      begins = record { same_end = refl; within = omega arith; gone = λ q l. absurd (omega arith); stays = λ q h. refl }

  module _ {walk after : Below} {n p : ℕ} (known : WalkAt due end walk n) (taken : Taken walk p after) where
    -- What comes is the first position from the place on.
    at_up : n ≤ p
    at_up = go (ltb p n) refl
      where
        go : (less : Bool) → ltb p n ≡ less → n ≤ p
        go true e = absurd (false≢true (sym (known.gone p (ltb-true p n e)) ∙ taken.first.held taken.small))
        go false e = ltb-false p n e

    pub at_first : FirstFrom due n p
    at_first =
        record {
          from = at_up;
          skipped = λ q h l. sym (known.stays q h) ∙ taken.first.skipped q (omega arith) l;
          held = λ l. sym (known.stays p at_up) ∙ taken.first.held l;
        }

    pub at_inside : p < end
    at_inside = omega (arith, taken.inside, known.same_end)

    -- The walk has then come past it.
    pub at_next : WalkAt due end after (p + 1)
    at_next =
        record {
          same_end = taken.same_end ∙ known.same_end;
          within = omega (arith, at_inside);
          gone = λ q l. gone q l (eqb q p) refl;
          stays = λ q h. taken_other taken q (λ e. omega arith) ∙ known.stays q (omega (arith, at_up));
        }
      where
        gone : (q : ℕ) → q < p + 1 → (same : Bool) → eqb q p ≡ same → holds after.left q ≡ false
        gone q l true e = rw (eqb-true q p e) (taken_gone taken)
        gone q l false e = let other = eqb-false q p e in taken_other taken q other ∙ taken.first.skipped q (omega arith) (omega arith)

  -- Where none is left, none is due from the place on.
  pub at_end : {walk : Below} {n : ℕ} → WalkAt due end walk n → Done walk → (q : ℕ) → n ≤ q → q < end → holds due q ≡ false
  at_end known done q h l = sym (known.stays q h) ∙ done.none_left q (omega (arith, known.same_end))
