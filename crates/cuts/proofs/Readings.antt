-- What is read off a path, position by position: what the loops over a path cite. Assumes nothing.
use mathlib.Core.Path.{◌≡◌, refl, ap, ◌∙◌}
use mathlib.Core.Bool.{Bool, true, false, ◌&&◌, cond}
use mathlib.Core.List.{List, [], ◌∷◌}
use Prim.Native.Nat.{ℕ, suc, ◌+◌, ◌-◌, ◌≤◌, ◌<◌}
use native.Mathlib.Numerals.{add-one}
use native.Mathlib.Omega.{arith}
use borrow.Author.Tests.{lt-leb, le-leb, ltb-true, ltb-false}
use lib.Dec.{ltb, leb}
use Rattle.std.specs.Prelude.{Option, None, Some}
use Rattle.std.specs.List.{position_or_len}
use Rattle.std.proofs.lemmas.List.Recursion.{is_position_or_len}
use Rattle.std.specs.Option.{unwrap_or}
use lib.ListN.{length, get_or, drop, drop_of_length-le}
use lib.Seq.{drop-cons}
use Rattle.laws.specs.Basics.{cond_true, cond_false}
use Rattle.laws.specs.Paths.{border, border_within, goes_left, until_loop, first_loop}

-- the border is the place of the first position that is not below n, or the path's end
border_place : (n : ℕ) (path : List ℕ) → border n path ≡ position_or_len (λ x. leb n x) path
unfolding border
border_place n = is_position_or_len (border n) (λ x. leb n x) refl (λ q path. turn q (border n path) (ltb q n) refl)
  where
    turn : (q x : ℕ) (b : Bool) → ltb q n ≡ b → cond (ltb q n) (suc x) 0 ≡ cond (leb n q) 0 (1 + x)
    turn q x true e = rw (e, lt-leb n q (ltb-true q n e)) (omega arith)
    turn q x false e = rw (e, le-leb n q (ltb-false q n e))

-- so where that place was searched for, the answer is the border
pub border_found :
    (n : ℕ) (path : List ℕ) {found : Option ℕ}
    → found ≡ cond (ltb (position_or_len (λ x. leb n x) path) (length path)) (Some (position_or_len (λ x. leb n x) path)) None
    → unwrap_or found (length path) ≡ border n path
border_found n path is = rw (is, ← border_place n path) (go (ltb (border n path) (length path)) refl)
  where
    go : (b : Bool) → ltb (border n path) (length path) ≡ b → unwrap_or (cond b (Some (border n path)) None) (length path) ≡ border n path
    go true e = refl
    go false e = let past = ltb-false (border n path) (length path) e in omega (arith, border_within n path)

-- the arm of a path, by its first position
pub goes_first : (n : ℕ) (empty : Bool) (path : List ℕ) → 0 < length path → ltb (get_or path 0 0) n ≡ goes_left n empty path
unfolding goes_left
goes_first n empty [] h = absurd (omega arith)
goes_first n empty (q ∷ path) h = refl

pub goes_empty : (n : ℕ) (empty : Bool) (path : List ℕ) → length path ≡ 0 → empty ≡ goes_left n empty path
unfolding goes_left
goes_empty n empty [] h = refl
goes_empty n empty (q ∷ path) h = absurd (omega arith)

-- the first part of a path that has no loop in its first i positions
pub record Unlooped (last first : ℕ → Bool) (path : List ℕ) (i : ℕ) : Type 0 where
  pub some_path : 0 < i
  pub within : i ≤ length path
  pub loop_is : first_loop last first path ≡ i + until_loop last first (get_or path (i - 1) 0) (drop i path)

-- whether there is a loop behind a position
loop_next :
    (last first : ℕ → Bool) (p : ℕ) (path : List ℕ) (i : ℕ) → i < length path
    → until_loop last first p (drop i path) ≡ cond (last p && first (get_or path i 0)) 0 (suc (until_loop last first (get_or path i 0) (drop (suc i) path)))
unfolding until_loop
loop_next last first p path i h = ap (until_loop last first p) (drop-cons path i 0 h)

-- the first part has the first position
loop_first : (last first : ℕ → Bool) (path : List ℕ) → 0 < length path → first_loop last first path ≡ 1 + until_loop last first (get_or path 0 0) (drop 1 path)
unfolding first_loop
loop_first last first [] h = absurd (omega arith)
loop_first last first (q ∷ path) h = omega arith

module _ {last first : ℕ → Bool} {path : List ℕ} where
  pub unlooped_one : 0 < length path → Unlooped last first path 1
  unlooped_one h = record { some_path = omega arith; within = omega arith; loop_is = loop_first last first path h }

  module _ {i : ℕ} (known : Unlooped last first path i) where
    pub unlooped_more : i < length path → last (get_or path (i - 1) 0) && first (get_or path i 0) ≡ false → Unlooped last first path (i + 1)
    unlooped_more h none =
        let p = get_or path (i - 1) 0 in
        let rest = until_loop last first (get_or path i 0) (drop (suc i) path) in
        let next = loop_next last first p path i h ∙ cond_false (last p && first (get_or path i 0)) 0 (suc rest) none in
        let back : i + 1 - 1 ≡ i = omega arith in
        record { some_path = omega arith; within = omega arith; loop_is = rw (back, add-one i) (omega (arith, known.loop_is, next)) }

    pub unlooped_here : i < length path → last (get_or path (i - 1) 0) && first (get_or path i 0) ≡ true → i ≡ first_loop last first path
    unlooped_here h told =
        let p = get_or path (i - 1) 0 in
        let rest = until_loop last first (get_or path i 0) (drop (suc i) path) in
        let next = loop_next last first p path i h ∙ cond_true (last p && first (get_or path i 0)) 0 (suc rest) told in
        omega (arith, known.loop_is, next)

    pub unlooped_all : length path ≤ i → length path ≡ first_loop last first path
    unfolding until_loop
    unlooped_all h =
        let p = get_or path (i - 1) 0 in
        let none : until_loop last first p (drop i path) ≡ 0 = ap (until_loop last first p) (drop_of_length-le path h) in
        omega (arith, known.loop_is, known.within, none)
