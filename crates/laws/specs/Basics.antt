-- Small laws on tests, lists, members and joined parts that the other files cite.
use Rattle.std.specs.Prelude.{◌≡◌, Bool, false, ◌&&◌, ◌||◌, cond, ◌⊎◌, ℕ, zero, suc, ◌≤◌, eqb}
use Rattle.std.proofs.Math.Path.{refl}
use Rattle.std.proofs.Common.{sym, ap, ◌∙◌, subst, true≢false, not-suc-le-zero, le_of_suc-le-suc, le_refl, arith, eqb-true, eq-eqb}
use Rattle.std.proofs.Math.Bool.{true}
use Rattle.std.proofs.lemmas.Bool.{false≢true}
use mathlib.Core.List.{List, [], ◌∷◌, ◌++◌, map}
use Rattle.std.proofs.Math.Logic.{inl, inr}
use Rattle.semantics.specs.Text.{Text, same_text, least, joined, some_passes, All, Member}

-- two constructors are never equal: it would make 0 and 1 equal
pub never : {A : Type 0} → ◌≡◌ {A = ℕ} 0 1 → A
never e = absurd (omega arith)

-- ---- Tests

pub bool_cases : (b : Bool) → (b ≡ true) ⊎ (b ≡ false)
bool_cases true = inl refl
bool_cases false = inr refl

pub not_both : {b : Bool} → b ≡ true → b ≡ false → ⊥
not_both p q = true≢false (sym p ∙ q)

pub false_of_not_true : (b : Bool) → (b ≡ true → ⊥) → b ≡ false
false_of_not_true true h = absurd (h refl)
false_of_not_true false h = refl

pub and_both : (a b : Bool) → a && b ≡ true → (a ≡ true) × (b ≡ true)
and_both true b e = (refl, e)
and_both false b e = absurd (false≢true e)

pub and_of : (a b : Bool) → a ≡ true → b ≡ true → a && b ≡ true
and_of true b p q = q
and_of false b p q = absurd (false≢true p)

pub or_neither : (a b : Bool) → a || b ≡ false → (a ≡ false) × (b ≡ false)
or_neither true b e = absurd (true≢false e)
or_neither false b e = (refl, e)

pub or_either : (a b : Bool) → a || b ≡ true → (a ≡ true) ⊎ (b ≡ true)
or_either true b e = inl refl
or_either false b e = inr e

pub or_left : (a b : Bool) → a ≡ true → a || b ≡ true
or_left true b p = refl
or_left false b p = absurd (false≢true p)

pub or_right : (a b : Bool) → b ≡ true → a || b ≡ true
or_right true b p = refl
or_right false b p = p

module _ {ℓ} {A : Type ℓ} where
  pub cond_true : (b : Bool) (x y : A) → b ≡ true → cond b x y ≡ x
  cond_true true x y e = refl
  cond_true false x y e = absurd (false≢true e)

  pub cond_false : (b : Bool) (x y : A) → b ≡ false → cond b x y ≡ y
  cond_false true x y e = absurd (true≢false e)
  cond_false false x y e = refl

pub same_text_refl : (t : Text) → same_text t t ≡ true
unfolding same_text
same_text_refl [] = refl
same_text_refl (x ∷ xs) = and_of (eqb x x) (same_text xs xs) (eq-eqb x x refl) (same_text_refl xs)

pub same_text_eq : (t u : Text) → same_text t u ≡ true → t ≡ u
unfolding same_text
same_text_eq [] [] e = refl
same_text_eq [] (y ∷ ys) e = absurd (false≢true e)
same_text_eq (x ∷ xs) [] e = absurd (false≢true e)
same_text_eq (x ∷ xs) (y ∷ ys) e =
    let h = and_both (eqb x y) (same_text xs ys) e in
    let p : x ≡ y = eqb-true x y h.0 in
    let q : xs ≡ ys = same_text_eq xs ys h.1 in
    cc

-- `least` finds a place that passes, if there is one up to n
pub least_passes : (n : ℕ) (test : ℕ → Bool) (k : ℕ) → k ≤ n → test k ≡ true → test (least n test) ≡ true
unfolding least
least_passes zero test zero h e = e
least_passes zero test (suc k) h e = absurd (not-suc-le-zero h)
least_passes (suc n) test k h e = go (test zero) refl k h e (least_passes n (λ i. test (suc i)))
  where
    go :
        (b : Bool)
        → test zero ≡ b
        → (k : ℕ)
        → k ≤ suc n
        → test k ≡ true
        → ((j : ℕ) → j ≤ n → test (suc j) ≡ true → test (suc (least n (λ i. test (suc i)))) ≡ true)
        → test (cond b zero (suc (least n (λ i. test (suc i))))) ≡ true
    go true p k h e rec = p
    go false p zero h e rec = absurd (not_both e p)
    go false p (suc k) h e rec = rec k (le_of_suc-le-suc h) e

pub least_le : (n : ℕ) (test : ℕ → Bool) → least n test ≤ n
unfolding least
least_le zero test = le_refl zero
least_le (suc n) test = go (test zero) (least_le n (λ i. test (suc i)))
  where
    go : (b : Bool) → least n (λ i. test (suc i)) ≤ n → cond b zero (suc (least n (λ i. test (suc i)))) ≤ suc n
    go true h = omega arith
    go false h = omega arith

-- ---- Members

module _ {A : Type 0} where
  pub member_left : (x : A) (xs ys : List A) → Member x xs → Member x (xs ++ ys)
  member_left x (y ∷ xs) ys (inl e) = inl e
  member_left x [] ys x'' = elim x'' [ ]
  member_left x (y ∷ xs) ys (inr m) = inr (member_left x xs ys m)

  pub member_right : (x : A) (xs ys : List A) → Member x ys → Member x (xs ++ ys)
  member_right x [] ys m = m
  member_right x (y ∷ xs) ys m = inr (member_right x xs ys m)

  pub member_append : (x : A) (xs ys : List A) → Member x (xs ++ ys) → Member x xs ⊎ Member x ys
  member_append x [] ys m = inr m
  member_append x (y ∷ xs) ys (inl e) = inl (inl e)
  member_append x (y ∷ xs) ys (inr m) = go (member_append x xs ys m)
    where
      go : Member x xs ⊎ Member x ys → Member x (y ∷ xs) ⊎ Member x ys
      go (inl h) = inl (inr h)
      go (inr h) = inr h

  pub all_at : (P : A → Type 0) (x : A) (xs : List A) → All P xs → Member x xs → P x
  all_at P x (y ∷ xs) h (inl e) = subst P (sym e) h.0
  all_at P x [] h x3 = elim x3 [ ]
  all_at P x (y ∷ xs) h (inr m) = all_at P x xs h.1 m

  pub all_of : (P : A → Type 0) (xs : List A) → ((x : A) → Member x xs → P x) → All P xs
  all_of P [] f = tt
  all_of P (x ∷ xs) f = (f x (inl refl), all_of P xs (λ y m. f y (inr m)))

  pub all_append : (P : A → Type 0) (xs ys : List A) → All P xs → All P ys → All P (xs ++ ys)
  all_append P [] ys h k = k
  all_append P (x ∷ xs) ys h k = (h.0, all_append P xs ys h.1 k)

  pub passes_at : (test : A → Bool) (xs : List A) → some_passes test xs ≡ true → (x : A) × Member x xs × (test x ≡ true)
  unfolding some_passes
  passes_at test [] e = absurd (false≢true e)
  passes_at test (x ∷ xs) e = go (passes_at test xs) (or_either (test x) (some_passes test xs) e)
    where
      go :
          (some_passes test xs ≡ true → (y : A) × Member y xs × (test y ≡ true))
          → (test x ≡ true) ⊎ (some_passes test xs ≡ true)
          → (y : A) × Member y (x ∷ xs) × (test y ≡ true)
      go rec (inl p) = (x, inl refl, p)
      go rec (inr p) = let r = rec p in (r.0, inr r.1, r.2)

  pub passes_of : (test : A → Bool) (x : A) (xs : List A) → Member x xs → test x ≡ true → some_passes test xs ≡ true
  unfolding some_passes
  passes_of test x (y ∷ xs) (inl e) p = or_left (test y) (some_passes test xs) (ap test (sym e) ∙ p)
  passes_of test x [] x3 p = elim x3 [ ]
  passes_of test x (y ∷ xs) (inr m) p = or_right (test y) (some_passes test xs) (passes_of test x xs m p)

  -- ---- Joined parts

  pub member_joined : (x : A) (p : List A) (ps : List (List A)) → Member x p → Member p ps → Member x (joined ps)
  unfolding joined
  member_joined x p (q ∷ ps) m (inl e) = member_left x q (joined ps) (subst (Member x) e m)
  member_joined x p [] m x3 = elim x3 [ ]
  member_joined x p (q ∷ ps) m (inr n) = member_right x q (joined ps) (member_joined x p ps m n)

  pub joined_member : (x : A) (ps : List (List A)) → Member x (joined ps) → (p : List A) × Member p ps × Member x p
  unfolding joined
  joined_member x [] m = elim m [ ]
  joined_member x (p ∷ ps) m = go (joined_member x ps) (member_append x p (joined ps) m)
    where
      go : (Member x (joined ps) → (q : List A) × Member q ps × Member x q) → Member x p ⊎ Member x (joined ps) → (q : List A) × Member q (p ∷ ps) × Member x q
      go rec (inl h) = (p, inl refl, h)
      go rec (inr h) = let r = rec h in (r.0, inr r.1, r.2)

module _ {A B : Type 0} where
  pub member_map : (f : A → B) (x : A) (xs : List A) → Member x xs → Member (f x) (map f xs)
  member_map f x (y ∷ xs) (inl e) = inl (ap f e)
  member_map f x [] x'' = elim x'' [ ]
  member_map f x (y ∷ xs) (inr m) = inr (member_map f x xs m)

  pub map_member : (f : A → B) (y : B) (xs : List A) → Member y (map f xs) → (x : A) × Member x xs × (y ≡ f x)
  map_member f y (x ∷ xs) (inl e) = (x, inl refl, e)
  map_member f y [] x' = elim x' [ ]
  map_member f y (x ∷ xs) (inr m) = let r = map_member f y xs m in (r.0, inr r.1, r.2)
