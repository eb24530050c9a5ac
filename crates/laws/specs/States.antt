-- The patterns that a pattern can lead to: they can be told apart, and reading one more byte stays among them.
use Rattle.std.specs.Prelude.{◌≡◌, refl, Bool, true, false, ◌&&◌, cond, List, [], ◌∷◌, ◌++◌, map}
use Rattle.std.proofs.Common.{ap, ap₂, subst, inl, inr, ⊎_elim}
use Rattle.std.proofs.lemmas.Bool.{false≢true}
use Rattle.semantics.specs.Text.{Text, joined, Member}
use Rattle.semantics.specs.Pattern.{Class, Pattern, word, one_of, concat, alt, star, nullable, Head, before, heads}
use Rattle.semantics.specs.Ambiguity.{Pair, same_pattern, same_pair, word_rests, rests, states}
use Rattle.laws.specs.Basics.{and_both, and_of, same_text_eq, same_text_refl, member_left, member_right, member_append, member_joined, joined_member, member_map, map_member}
use Rattle.laws.specs.Classes.{same_class_eq, same_class_refl}

-- ---- Lists

module _ {A : Type 0} where
  pub member_one : (x y : A) → Member x (y ∷ []) → x ≡ y
  member_one x y (inr x'') = elim x'' [ ]
  member_one x y (inl e) = e

  -- a member of a list that is there only if a test passes
  pub member_cond : (b : Bool) (x : A) (xs : List A) → Member x (cond b xs []) → (b ≡ true) × Member x xs
  member_cond false x xs m = elim m [ ]
  member_cond true x xs m = (refl, m)

  pub cond_member : (b : Bool) (x : A) (xs : List A) → b ≡ true → Member x xs → Member x (cond b xs [])
  cond_member true x xs e m = m
  cond_member false x xs e m = absurd (false≢true e)

module _ {A B : Type 0} where
  pub member_joined_map : (f : A → List B) (x : A) (y : B) (xs : List A) → Member x xs → Member y (f x) → Member y (joined (map f xs))
  member_joined_map f x y xs m n = member_joined y (f x) (map f xs) n (member_map f x xs m)

  pub joined_map_member : (f : A → List B) (y : B) (xs : List A) → Member y (joined (map f xs)) → (x : A) × Member x xs × Member y (f x)
  joined_map_member f y xs m =
      let p = joined_member y (map f xs) m in
      let x = map_member f p.0 xs p.1 in
      (x.0, x.1, subst (Member y) x.2 p.2)

-- ---- The test for equal patterns

-- a test that fails has not passed
never : {A : Type 0} → false ≡ true → A
never e = absurd (false≢true e)

-- a function of two arguments keeps two equations
two : {A B C : Type 0} {a a' : A} {b b' : B} (f : A → B → C) → (a ≡ a') × (b ≡ b') → f a b ≡ f a' b'
two f e = ap₂ f e.0 e.1

-- a test of two parts that passes gives two equations
both_eq : {A B : Type 0} {a b : Bool} → a && b ≡ true → (a ≡ true → A) → (b ≡ true → B) → A × B
both_eq {a = a} {b = b} e f g = let h = and_both a b e in (f h.0, g h.1)

same_pattern_eq : (p q : Pattern) → same_pattern p q ≡ true → p ≡ q
unfolding same_pattern
same_pattern_eq (word w) q = elim q as (λ k. same_pattern (word w) k ≡ true → (word w) ≡ k) [ word v ↦ λ e. ap word (same_text_eq w v e) | one_of d ↦ never | concat r s ↦ never | alt r s ↦ never | star r ↦ never ]
same_pattern_eq (one_of c) q =
    elim q as (λ k. same_pattern (one_of c) k ≡ true → (one_of c) ≡ k) [ word v ↦ never | one_of d ↦ λ e. ap one_of (same_class_eq c d e) | concat r s ↦ never | alt r s ↦ never | star r ↦ never ]
same_pattern_eq (concat x y) q =
    elim q as (λ k. same_pattern (concat x y) k ≡ true → (concat x y) ≡ k) [ word v ↦ never | one_of d ↦ never | concat r s ↦ λ e. two concat (both_eq e (same_pattern_eq x r) (same_pattern_eq y s)) | alt r s ↦ never | star r ↦ never ]
same_pattern_eq (alt x y) q =
    elim q as (λ k. same_pattern (alt x y) k ≡ true → (alt x y) ≡ k) [ word v ↦ never | one_of d ↦ never | concat r s ↦ never | alt r s ↦ λ e. two alt (both_eq e (same_pattern_eq x r) (same_pattern_eq y s)) | star r ↦ never ]
same_pattern_eq (star x) q = elim q as (λ k. same_pattern (star x) k ≡ true → (star x) ≡ k) [ word v ↦ never | one_of d ↦ never | concat r s ↦ never | alt r s ↦ never | star r ↦ λ e. ap star (same_pattern_eq x r e) ]

same_pattern_refl : (p : Pattern) → same_pattern p p ≡ true
unfolding same_pattern
same_pattern_refl (word w) = same_text_refl w
same_pattern_refl (one_of c) = same_class_refl c
same_pattern_refl (concat x y) = and_of (same_pattern x x) (same_pattern y y) (same_pattern_refl x) (same_pattern_refl y)
same_pattern_refl (alt x y) = and_of (same_pattern x x) (same_pattern y y) (same_pattern_refl x) (same_pattern_refl y)
same_pattern_refl (star x) = same_pattern_refl x

pub same_pair_eq : (a b : Pair) → same_pair a b ≡ true → a ≡ b
unfolding same_pair
same_pair_eq a b e = two (λ p q. (p, q)) (both_eq e (same_pattern_eq a.0 b.0) (same_pattern_eq a.1 b.1))

pub same_pair_refl : (a : Pair) → same_pair a a ≡ true
unfolding same_pair
same_pair_refl a = and_of (same_pattern a.0 a.0) (same_pattern a.1 a.1) (same_pattern_refl a.0) (same_pattern_refl a.1)

-- ---- The states of a pattern

-- Whatever a byte leads to from a state of r is a state of r.
abbrev Closed : Pattern → Type 0
Closed r = (q : Pattern) (h : Head) → Member q (states r) → Member h (heads q) → Member h.rest (rests r)

heads_of : {p q : Pattern} (h : Head) → q ≡ p → Member h (heads q) → Member h (heads p)
heads_of h e m = subst (λ p. Member h (heads p)) e m

word_closed : (w : Text) → Closed (word w)
unfolding states rests word_rests heads
word_closed [] q h (inl e) m = absurd (heads_of h e m)
word_closed [] q h (inr n) m = elim n [ ]
word_closed (c ∷ w) q h (inl e) m = inl (ap (λ k. k.rest) (member_one h _ (heads_of h e m)))
word_closed (c ∷ w) q h (inr n) m = inr (word_closed w q h n m)

class_closed : (c : Class) → Closed (one_of c)
unfolding states rests heads
class_closed c q h (inl e) m = inl (ap (λ k. k.rest) (member_one h _ (heads_of h e m)))
class_closed c q h (inr (inr x3)) m = elim x3 [ ]
class_closed c q h (inr (inl e)) m = absurd (heads_of h e m)

-- After one byte of `concat k s`, either k goes on, or k was empty and s has begun.
before_closed :
    (r s : Pattern) (xs : List Pattern)
    → Closed r
    → ((p : Pattern) → Member p (map (λ k. concat k s) (rests r)) → Member p xs)
    → (k : Pattern) (h : Head)
    → Member k (states r)
    → Member h (map (before s) (heads k))
    → Member h.rest xs
unfolding before
before_closed r s xs f into k h i m =
    let (j, l, e) = map_member (before s) h (heads k) m in
    into h.rest (rw e (member_map (λ k. concat k s) j.rest (rests r) (f k j i l)))

after_closed :
    (r s : Pattern) (xs : List Pattern)
    → Closed r
    → ((p : Pattern) → Member p (map (λ k. concat k s) (rests r)) → Member p xs)
    → (q : Pattern) (h : Head)
    → (Member h (heads s) → Member h.rest xs)
    → Member q (map (λ k. concat k s) (states r))
    → Member h (heads q)
    → Member h.rest xs
unfolding heads
after_closed r s xs f into q h begun i m =
    let (k, n, e) = map_member (λ k. concat k s) q (states r) i in
    ⊎_elim
    (before_closed r s xs f into k h n)
    (λ o. begun (member_cond (nullable k) h (heads s) o).1)
    (member_append h (map (before s) (heads k)) (cond (nullable k) (heads s) []) (heads_of h e m))

concat_closed : (r s : Pattern) → Closed r → Closed s → Closed (concat r s)
unfolding states rests
concat_closed r s f g q h n m =
    ⊎_elim
    (λ i. after_closed r s (goes ++ rests s) f (λ p. member_left p goes (rests s)) q h (second s (inl refl)) i m)
    (λ i. second q (inr i) m)
    (member_append q (map (λ k. concat k s) (states r)) (rests s) n)
  where
    goes : List Pattern
    goes = map (λ k. concat k s) (rests r)

    second : (p : Pattern) → Member p (states s) → Member h (heads p) → Member h.rest (goes ++ rests s)
    second p i l = member_right h.rest goes (rests s) (g p h i l)

alt_closed : (r s : Pattern) → Closed r → Closed s → Closed (alt r s)
unfolding states rests heads
alt_closed r s f g q h n m = start n
  where
    first : (p : Pattern) → Member p (states r) → Member h (heads p) → Member h.rest (rests r ++ rests s)
    first p i j = member_left h.rest (rests r) (rests s) (f p h i j)

    second : (p : Pattern) → Member p (states s) → Member h (heads p) → Member h.rest (rests r ++ rests s)
    second p i j = member_right h.rest (rests r) (rests s) (g p h i j)

    start : Member q (states (alt r s)) → Member h.rest (rests r ++ rests s)
    start (inl e) = ⊎_elim (first r (inl refl)) (second s (inl refl)) (member_append h (heads r) (heads s) (heads_of h e m))
    start (inr i) = ⊎_elim (λ j. first q (inr j) m) (λ j. second q (inr j) m) (member_append q (rests r) (rests s) i)

star_closed : (r : Pattern) → Closed r → Closed (star r)
unfolding states rests heads
star_closed r f q h n m = start n
  where
    goes : List Pattern
    goes = map (λ k. concat k (star r)) (rests r)

    again : Member h (heads (star r)) → Member h.rest goes
    again = before_closed r (star r) goes f (λ p l. l) r h (inl refl)

    start : Member q (states (star r)) → Member h.rest goes
    start (inl e) = again (heads_of h e m)
    start (inr i) = after_closed r (star r) goes f (λ p l. l) q h again (inr i) m

closed : (r : Pattern) → Closed r
closed (word w) = word_closed w
closed (one_of c) = class_closed c
closed (concat r s) = concat_closed r s (closed r) (closed s)
closed (alt r s) = alt_closed r s (closed r) (closed s)
closed (star r) = star_closed r (closed r)

-- so the states of two patterns are closed too
pub states_closed : (r s q : Pattern) (h : Head) → Member q (states r ++ states s) → Member h (heads q) → Member h.rest (states r ++ states s)
unfolding states
states_closed r s q h n m =
    ⊎_elim
    (λ i. member_left h.rest (states r) (states s) (inr (closed r q h i m)))
    (λ i. member_right h.rest (states r) (states s) (inr (closed s q h i m)))
    (member_append q (states r) (states s) n)
