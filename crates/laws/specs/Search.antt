-- The search of the typing tests: it keeps to what the pairs due lead to, and it misses nothing of it.
use Rattle.std.specs.Prelude.{◌≡◌, refl, Bool, false, cond}
use Rattle.std.proofs.Common.{sym, ap, inl, inr, length-append}
use Rattle.std.proofs.Math.Path.{subst}
use Rattle.std.proofs.Math.Bool.{true}
use mathlib.Core.List.{List, [], ◌∷◌, ◌++◌, map, append-nil}
use Rattle.std.proofs.Math.Logic.{⊎_elim}
use Prim.Native.Nat.{ℕ, zero, suc, ◌+◌, ◌*◌, ◌≤◌, ◌<◌}
use native.Mathlib.Omega.{arith}
use Rattle.std.proofs.Math.ListN.{length}
use Rattle.std.proofs.lemmas.List.{length-map}
use Rattle.semantics.specs.Text.{Text, joined, some_passes, All, Member, Different}
use Rattle.semantics.specs.Pattern.{in_class, Pattern, In, Head, heads}
use Rattle.semantics.specs.Ambiguity.{Pair, share_byte, next_pairs, same_pair, visit, explore, states, reached}
use Rattle.laws.specs.Basics.{bool_cases, not_both, member_left, member_right, member_append, all_at, all_of, all_append, passes_at, passes_of, member_map}
use Rattle.laws.specs.Classes.{shared_byte, byte_shared}
use Rattle.laws.specs.Membership.{head_in, in_head}
use Rattle.laws.specs.States.{member_one, member_cond, cond_member, member_joined_map, joined_map_member, same_pair_eq, same_pair_refl, states_closed}

-- ---- Lists

module _ {A : Type 0} where
  -- a member, and what stands before and after it
  member_split : (x : A) (ys : List A) → Member x ys → (us : List A) × (vs : List A) × (ys ≡ us ++ x ∷ vs)
  member_split x (y ∷ ys) (inl e) = ([], ys, rw e)
  member_split x [] x'' = elim x'' [ ]
  member_split x (y ∷ ys) (inr m) = let r = member_split x ys m in (y ∷ r.0, r.1, ap (λ l. y ∷ l) r.2)

  -- A list without repeats is no longer than a list that holds its members.
  different_length : (xs ys : List A) → Different xs → ((x : A) → Member x xs → Member x ys) → length xs ≤ length ys
  different_length [] ys d f = omega arith
  different_length (x ∷ xs) ys d f =
      let (us, vs, e) = member_split x ys (f x (inl refl)) in
      let shorter : length xs ≤ length (us ++ vs) = different_length xs (us ++ vs) d.1 (λ y m. others us vs y m (subst (Member y) e (f y (inr m)))) in
      omega (arith, simp length-append at shorter, simp length-append at (ap length e))
    where
      others : (us vs : List A) (y : A) → Member y xs → Member y (us ++ x ∷ vs) → Member y (us ++ vs)
      others us vs y m n =
          ⊎_elim
          (member_left y us vs)
          (⊎_elim (λ q. absurd (d.0 (subst (λ z. Member z xs) q m))) (member_right y us vs))
          (member_append y us (x ∷ vs) n)

  -- what holds of both outcomes holds of the outcome
  cond_either : (P : A → Type 0) (b : Bool) (x y : A) → P x → P y → P (cond b x y)
  cond_either P true x y p q = p
  cond_either P false x y p q = q

module _ {A B : Type 0} where
  -- all pairs of a member of xs and a member of ys
  abbrev product : List A → List B → List (A × B)
  product [] ys = []
  product (x ∷ xs) ys = map (λ y. (x, y)) ys ++ product xs ys

  product_length : (xs : List A) (ys : List B) → length (product xs ys) ≡ length xs * length ys
  product_length [] ys = omega arith
  product_length (x ∷ xs) ys = simp (length-append, length-map, product_length xs ys) (omega arith)

  member_product : (x : A) (y : B) (xs : List A) (ys : List B) → Member x xs → Member y ys → Member (x, y) (product xs ys)
  member_product x y (z ∷ xs) ys (inl e) n = member_left (x, y) (map (λ v. (z, v)) ys) (product xs ys) (rw e (member_map (λ v. (z, v)) y ys n))
  member_product x y [] ys x3 n = elim x3 [ ]
  member_product x y (z ∷ xs) ys (inr m) n = member_right (x, y) (map (λ v. (z, v)) ys) (product xs ys) (member_product x y xs ys m n)

-- ---- The next pairs

-- the byte c leads from p to q
abbrev Leads : Pattern → ℕ → Pattern → Type 0
Leads p c q = (h : Head) × Member h (heads p) × (in_class h.class c ≡ true) × (q ≡ h.rest)

-- the next pairs by one way to read the byte on the left, and by one on each side
abbrev next_by : Head → Head → List Pair
next_by h k = cond (share_byte h.class k.class) ((h.rest, k.rest) ∷ []) []

abbrev next_from : Pattern → Head → List Pair
next_from q h = joined (map (next_by h) (heads q))

-- The next pairs are those to which one byte leads on both sides.
next_leads : (a b : Pair) → Member b (next_pairs a) → (c : ℕ) × Leads a.0 c b.0 × Leads a.1 c b.1
unfolding next_pairs
next_leads a b m =
    let (h, i, n) = joined_map_member (next_from a.1) b (heads a.0) m in
    let (k, j, o) = joined_map_member (next_by h) b (heads a.1) n in
    let (e, l) = member_cond (share_byte h.class k.class) b ((h.rest, k.rest) ∷ []) o in
    let (c, p, q) = shared_byte h.class k.class e in
    let ends = member_one b (h.rest, k.rest) l in
    (c, (h, i, p, ap (λ x. x.0) ends), (k, j, q, ap (λ x. x.1) ends))

leads_next : (a b : Pair) (c : ℕ) → Leads a.0 c b.0 → Leads a.1 c b.1 → Member b (next_pairs a)
unfolding next_pairs
leads_next a b c left right =
    let (h, i, p, d) = left in
    let (k, j, q, e) = right in
    let here = cond_member (share_byte h.class k.class) b ((h.rest, k.rest) ∷ []) (byte_shared h.class k.class c p q) (inl (λ t. (d t, e t))) in
    member_joined_map (next_from a.1) h b (heads a.0) i (member_joined_map (next_by h) k b (heads a.1) j here)

leads_in : (p : Pattern) (c : ℕ) (q : Pattern) → Leads p c q → (t : Text) → In q t → In p (c ∷ t)
leads_in p c q l t i = head_in p l.0 c t l.1 l.2 (subst (λ k. In k t) l.3 i)

-- the byte that leads to a next pair, put before texts of that pair
pub next_in :
    (a b : Pair) → Member b (next_pairs a) → (c : ℕ) × ((t : Text) → In b.0 t → In a.0 (c ∷ t)) × ((t : Text) → In b.1 t → In a.1 (c ∷ t))
next_in a b m = let (c, left, right) = next_leads a b m in (c, leads_in a.0 c b.0 left, leads_in a.1 c b.1 right)

-- two texts that begin with the same byte go on from a next pair
pub in_next :
    (a : Pair) (c : ℕ) (t u : Text) → In a.0 (c ∷ t) → In a.1 (c ∷ u) → (b : Pair) × Member b (next_pairs a) × In b.0 t × In b.1 u
in_next a c t u i j =
    let (h, m, p, i') = in_head a.0 c t i in
    let (k, n, q, j') = in_head a.1 c u j in
    ((h.rest, k.rest), leads_next a (h.rest, k.rest) c (h, m, p, refl) (k, n, q, refl), i', j')

-- ---- What the search keeps to

-- What holds of the pairs due, and is kept by a byte, holds of all pairs that the search finds.
module _ (P : Pair → Type 0) (next : (a b : Pair) → P a → Member b (next_pairs a) → P b) where
  abbrev Keeps : (List Pair → List Pair → List Pair) → Type 0
  Keeps go = (seen due : List Pair) → All P seen → All P due → All P (go seen due)

  visit_keeps : (go : List Pair → List Pair → List Pair) → Keeps go → Keeps (visit go)
  unfolding visit
  visit_keeps go f seen [] s d = s
  visit_keeps go f seen (p ∷ due) s d =
      cond_either
      (All P)
      (some_passes (same_pair p) seen)
      (visit go seen due)
      (go (p ∷ seen) (next_pairs p ++ due))
      (visit_keeps go f seen due s d.1)
      (f (p ∷ seen) (next_pairs p ++ due) (d.0, s) (all_append P (next_pairs p) due (all_of P (next_pairs p) (λ b. next p b d.0)) d.1))

  explore_keeps : (n : ℕ) → Keeps (explore n)
  unfolding explore
  explore_keeps zero seen due s d = s
  explore_keeps (suc n) seen due s d = visit_keeps (explore n) (explore_keeps n) seen due s d

  pub reached_keeps : (r s : Pattern) (starts : List Pair) → All P starts → All P (reached r s starts)
  unfolding reached
  reached_keeps r s starts = explore_keeps _ [] starts tt

-- ---- What the search finds

-- The result holds the pairs asked for, and whatever a byte leads to from a pair that it holds.
pub record Found (starts result : List Pair) : Type 0 where
  pub holds : (a : Pair) → Member a starts → Member a result
  pub goes_on : (a b : Pair) → Member a result → Member b (next_pairs a) → Member b result

-- fewer pairs asked for
found_less : (xs ys result : List Pair) → ((a : Pair) → Member a ys → Member a xs) → Found xs result → Found ys result
found_less xs ys result f h = record { holds = λ a m. h.holds a (f a m); goes_on = h.goes_on }

-- a pair over the states of two patterns
abbrev pub Among : Pattern → Pattern → Pair → Type 0
Among r s a = Member a.0 (states r ++ states s) × Member a.1 (states r ++ states s)

leads_state : (r s p : Pattern) (c : ℕ) (q : Pattern) → Member p (states r ++ states s) → Leads p c q → Member q (states r ++ states s)
leads_state r s p c q i l = rw l.3 (states_closed r s p l.0 i l.1)

pub next_among : (r s : Pattern) (a b : Pair) → Among r s a → Member b (next_pairs a) → Among r s b
next_among r s a b i m =
    let (c, left, right) = next_leads a b m in
    (leads_state r s a.0 c b.0 i.0 left, leads_state r s a.1 c b.1 i.1 right)

-- how the search stands with n turns left: that no pair is seen twice bounds the turns still needed
record Stands (r s : Pattern) (n : ℕ) (seen due : List Pair) : Type 0 where
  different : Different seen
  seen_among : All (Among r s) seen
  due_among : All (Among r s) due
  known : (a b : Pair) → Member a seen → Member b (next_pairs a) → Member b (seen ++ due)
  enough : length (states r ++ states s) * length (states r ++ states s) < n + length seen

-- the pair due is seen already
module _ (p : Pair) (seen due : List Pair) (m : Member p seen) where
  skip : (b : Pair) → Member b (seen ++ p ∷ due) → Member b (seen ++ due)
  skip b n =
      ⊎_elim
      (member_left b seen due)
      (⊎_elim (λ e. member_left b seen due (subst (λ a. Member a seen) (sym e) m)) (member_right b seen due))
      (member_append b seen (p ∷ due) n)

  skip_stands : (r s : Pattern) (n : ℕ) → Stands r s n seen (p ∷ due) → Stands r s n seen due
  skip_stands r s n h =
      record {
        different = h.different;
        seen_among = h.seen_among;
        due_among = h.due_among.1;
        known = λ a b i j. skip b (h.known a b i j);
        enough = h.enough;
      }

-- the pair due is new
module _ (p : Pair) (seen due : List Pair) where
  add : (b : Pair) → Member b (seen ++ p ∷ due) → Member b (p ∷ seen ++ (next_pairs p ++ due))
  add b n =
      ⊎_elim
      (λ m. inr (member_left b seen (next_pairs p ++ due) m))
      (⊎_elim inl (λ m. inr (member_right b seen (next_pairs p ++ due) (member_right b (next_pairs p) due m))))
      (member_append b seen (p ∷ due) n)

  add_stands : (r s : Pattern) (n : ℕ) → ¬ Member p seen → Stands r s (suc n) seen (p ∷ due) → Stands r s n (p ∷ seen) (next_pairs p ++ due)
  add_stands r s n new h =
      record {
        different = (new, h.different);
        seen_among = (h.due_among.0, h.seen_among);
        due_among =
            all_append
            (Among r s)
            (next_pairs p)
            due
            (all_of (Among r s) (next_pairs p) (λ b. next_among r s p b h.due_among.0))
            h.due_among.1;
        known =
            λ a b i j.
            ⊎_elim
            (λ e. inr (member_right b seen (next_pairs p ++ due) (member_left b (next_pairs p) due (subst (λ q. Member b (next_pairs q)) e j))))
            (λ m. add b (h.known a b m j))
            i;
        enough = omega (arith, h.enough);
      }

module _ (r s : Pattern) where
  abbrev Finds : ℕ → (List Pair → List Pair → List Pair) → Type 0
  Finds n go = (seen due : List Pair) → Stands r s n seen due → Found (seen ++ due) (go seen due)

  visit_finds : (n : ℕ) (go : List Pair → List Pair → List Pair) → Finds n go → Finds (suc n) (visit go)
  unfolding visit
  visit_finds n go f seen [] h = rw (append-nil seen) (record { holds = λ a m. m; goes_on = λ a b i j. rw (append-nil seen) at (h.known a b i j) })
  visit_finds n go f seen (p ∷ due) h = ⊎_elim (skipped (visit_finds n go f seen due)) added (bool_cases (some_passes (same_pair p) seen))
    where
      skipped :
          (Stands r s (suc n) seen due → Found (seen ++ due) (visit go seen due))
          → some_passes (same_pair p) seen ≡ true
          → Found (seen ++ p ∷ due) (cond (some_passes (same_pair p) seen) (visit go seen due) (go (p ∷ seen) (next_pairs p ++ due)))
      skipped rec e =
          let (q, i, same) = passes_at (same_pair p) seen e in
          let m : Member p seen = subst (λ a. Member a seen) (sym (same_pair_eq p q same)) i in
          rw e (found_less (seen ++ due) (seen ++ p ∷ due) _ (skip p seen due m) (rec (skip_stands p seen due m r s (suc n) h)))

      added :
          some_passes (same_pair p) seen ≡ false
          → Found (seen ++ p ∷ due) (cond (some_passes (same_pair p) seen) (visit go seen due) (go (p ∷ seen) (next_pairs p ++ due)))
      added e =
          let new : ¬ Member p seen = λ m. not_both (passes_of (same_pair p) p seen m (same_pair_refl p)) e in
          rw e (found_less _ (seen ++ p ∷ due) _ (add p seen due) (f (p ∷ seen) (next_pairs p ++ due) (add_stands p seen due r s n new h)))

  explore_finds : (n : ℕ) → Finds n (explore n)
  unfolding explore
  explore_finds zero seen due h =
      let v = states r ++ states s in
      let few : length seen ≤ length (product v v) =
      different_length
      seen
      (product v v)
      h.different
      (λ a m. let i = all_at (Among r s) a seen h.seen_among m in member_product a.0 a.1 v v i.0 i.1) in
      absurd (omega (arith, few, product_length v v, h.enough))
  explore_finds (suc n) seen due h = visit_finds n (explore n) (explore_finds n) seen due h

  pub reached_finds : (starts : List Pair) → All (Among r s) starts → Found starts (reached r s starts)
  unfolding reached
  reached_finds starts h =
      explore_finds
      _
      []
      starts
      (record { different = tt; seen_among = tt; due_among = h; known = λ a b i j. absurd i; enough = omega arith })
