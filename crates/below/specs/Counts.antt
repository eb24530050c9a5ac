-- How many matches a put meets at a lens, from how many it meets at the lenses below it. Assumes nothing.
use Rattle.std.specs.Prelude.{◌≡◌, refl, Bool, true, false, cond, List, [], ◌∷◌, ◌++◌, ℕ, suc, ◌+◌, ◌*◌, ◌<◌, min, eqb, length, take, drop}
use Rattle.std.proofs.Common.{sym, ◌∙◌, mul-zero, mul-suc, zero-mul, arith, length-append, eqb-true}
use Rattle.std.proofs.Math.Option.{Option, none, some}
use Rattle.semantics.specs.Text.{Text, or_else, apply}
use Rattle.semantics.specs.Pattern.{Pattern}
use Rattle.semantics.specs.Lens.{Lens, copy, const, key, join, union, repeat, match, source, sheet, language, cut_at, parts, Arm, put_left, put_right, create_left, create_right}
use Rattle.semantics.specs.Tally.{Met, Meeting, meet_arm, meet_parts, met}
use Rattle.below.specs.Below.{Even, count_over}

-- ---- Lenses that hold no other have none

pub even_copy : (r : Pattern) → Even 0 (copy r)
unfolding met
even_copy r = record { at_most = omega arith; evenly = λ h old a. refl }

pub even_const : (r : Pattern) (w d : Text) → Even 0 (const r w d)
unfolding met
even_const r w d = record { at_most = omega arith; evenly = λ h old a. refl }

pub even_key : (r : Pattern) → Even 0 (key r)
unfolding met
even_key r = record { at_most = omega arith; evenly = λ h old a. refl }

-- ---- A match is one, whatever is below it

pub even_match : (n : ℕ) (l : Lens) → Even 1 (match n l)
unfolding met
even_match n l = record { at_most = omega arith; evenly = λ h old a. refl }

-- ---- A join has those of both halves

-- two lists behind each other are as long as both
both_long : (s t : List Met) (a b : ℕ) → length s ≡ a → length t ≡ b → min (a + b) 65536 < 65536 → length (s ++ t) ≡ min (a + b) 65536
both_long s t a b e f h = length-append s t ∙ omega (arith, e, f, h)

pub even_join : (l m : Lens) (a b : ℕ) → Even a l → Even b m → Even (count_over false a b) (join l m)
unfolding met
even_join l m a b left right =
    record {
      at_most = omega arith;
      evenly = λ h old t.
          let i = cut_at (language sheet l) (language sheet m) t in
          let j = or_else 0 (apply (cut_at (language source l) (language source m)) old) in
          let first = left.evenly (omega (arith, h)) (apply (take j) old) (take i t) in
          let second = right.evenly (omega (arith, h)) (apply (drop j) old) (drop i t) in
          both_long (met l (apply (take j) old) (take i t)) (met m (apply (drop j) old) (drop i t)) a b first second h;
    }

-- ---- A union has those of the arm that is taken

-- whichever it is, where both arms have as many
arm_met :
    (left right : Meeting) (k : ℕ)
    → ((old : Option Text) (a : Text) → length (left old a) ≡ k)
    → ((old : Option Text) (a : Text) → length (right old a) ≡ k)
    → (arm : Arm) (old : Option Text) (a : Text)
    → length (meet_arm left right arm old a) ≡ k
unfolding meet_arm
arm_met left right k e f put_left old a = e old a
arm_met left right k e f put_right old a = f old a
arm_met left right k e f create_left old a = e none a
arm_met left right k e f create_right old a = f none a

-- two lenses with as many have a union with as many
same_arms : (l m : Lens) (k : ℕ) → Even k l → Even k m → Even k (union l m)
unfolding met
same_arms l m k left right =
    record {
      at_most = left.at_most;
      evenly = λ h old a. arm_met (met l) (met m) k (left.evenly h) (right.evenly h) _ old a;
    }

-- a count of 65,536 says nothing
pub even_any : (l : Lens) → Even 65536 l
even_any l = record { at_most = omega arith; evenly = λ h. absurd (omega (arith, h)) }

pub even_union : (l m : Lens) (a b : ℕ) → Even a l → Even b m → Even (count_over true a b) (union l m)
even_union l m a b left right = go (eqb a b) refl
  where
    go : (same : Bool) → eqb a b ≡ same → Even (cond same a 65536) (union l m)
    go true e = same_arms l m a left (rw (eqb-true a b e) right)
    go false e = even_any (union l m)

-- ---- A repeat has those of its parts

-- a part, and the others behind it
one_more : (s t : List Met) (k n : ℕ) → length s ≡ k → length t ≡ k * n → length (s ++ t) ≡ k * suc n
one_more s t k n e f = length-append s t ∙ rw (e, f, mul-suc) (omega arith)

-- as many for each of them
parts_met :
    (meet : Meeting) (k : ℕ)
    → ((old : Option Text) (a : Text) → length (meet old a) ≡ k)
    → (olds news : List Text)
    → length (meet_parts meet olds news) ≡ k * length news
unfolding meet_parts
parts_met meet k each olds [] = sym (mul-zero k)
parts_met meet k each [] (a ∷ news) = one_more (meet none a) (meet_parts meet [] news) k (length news) (each none a) (parts_met meet k each [] news)
parts_met meet k each (t ∷ olds) (a ∷ news) =
    one_more (meet (some t) a) (meet_parts meet olds news) k (length news) (each (some t) a) (parts_met meet k each olds news)

pub repeat_met :
    (l : Lens) (k : ℕ)
    → ((old : Option Text) (a : Text) → length (met l old a) ≡ k)
    → (old : Option Text) (a : Text)
    → length (met (repeat l) old a) ≡ k * length (parts (language sheet l) a)
unfolding met
repeat_met l k each old a = parts_met (met l) k each _ (parts (language sheet l) a)

-- so where they have none, it has none
no_parts_met : (l : Lens) → Even 0 l → Even 0 (repeat l)
no_parts_met l child =
    record {
      at_most = omega arith;
      evenly = λ h old a. repeat_met l 0 (child.evenly h) old a ∙ zero-mul (length (parts (language sheet l) a));
    }

pub even_repeat : (l : Lens) (a : ℕ) → Even a l → Even (cond (eqb a 0) 0 65536) (repeat l)
even_repeat l a child = go (eqb a 0) refl
  where
    go : (empty : Bool) → eqb a 0 ≡ empty → Even (cond empty 0 65536) (repeat l)
    go true e = no_parts_met l (rw (eqb-true a 0 e) at child)
    go false e = even_any (repeat l)
