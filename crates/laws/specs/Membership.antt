-- The test for membership is true exactly for the members.
use Rattle.std.specs.Prelude.{◌≡◌, refl, Bool, true, false, ◌&&◌, cond, ◌⊎◌, ◌↔◌, ℕ}
use Rattle.std.proofs.Common.{sym, ap, inl, inr, ⊎_elim}
use Rattle.std.proofs.lemmas.Bool.{false≢true}
use mathlib.Core.List.{List, [], ◌∷◌, ◌++◌, map, nil≢cons, cons≢nil, head-eq_of_cons-eq, tail-eq_of_cons-eq}
use Rattle.std.proofs.Math.Logic.{⊎_map}
use Rattle.semantics.specs.Text.{Text, joined, All, Member}
use Rattle.semantics.specs.Pattern.{range, in_class, Pattern, word, one_of, concat, alt, star, In, nullable, Head, before, heads, matches}
use Rattle.laws.specs.Basics.{
  and_both,
  and_of,
  or_either,
  or_left,
  or_right,
  cond_true,
  member_left,
  member_right,
  member_append,
  member_map,
  map_member,
  passes_at,
  passes_of,
}
use Rattle.laws.specs.Classes.{one_byte, only_byte}

-- ---- The empty text

-- where the test for the empty text is true, the empty text belongs
pub nullable_in : (r : Pattern) → nullable r ≡ true → In r []
unfolding nullable In joined
nullable_in (word []) e = refl
nullable_in (word (c ∷ w)) e = absurd (false≢true e)
nullable_in (one_of k) e = absurd (false≢true e)
nullable_in (concat r s) e = let h = and_both (nullable r) (nullable s) e in ([], [], refl, nullable_in r h.0, nullable_in s h.1)
nullable_in (alt r s) e = ⊎_elim (λ p. inl (nullable_in r p)) (λ p. inr (nullable_in s p)) (or_either (nullable r) (nullable s) e)
nullable_in (star r) e = ([], refl, tt)

-- two texts that join to the empty one are empty
empty_halves : (u v : Text) → [] ≡ u ++ v → (u ≡ []) × (v ≡ [])
empty_halves [] v e = (refl, sym e)
empty_halves (c ∷ u) v e = absurd (nil≢cons e)

-- and where it belongs, the test is true
pub in_nullable : (r : Pattern) → In r [] → nullable r ≡ true
unfolding nullable In
in_nullable (word []) i = refl
in_nullable (word (c ∷ w)) i = absurd (nil≢cons i)
in_nullable (one_of k) i = absurd (nil≢cons i.1)
in_nullable (concat r s) (u, v, e, i, j) =
    let h = empty_halves u v e in
    and_of (nullable r) (nullable s) (in_nullable r (rw h.0 at i)) (in_nullable s (rw h.1 at j))
in_nullable (alt r s) (inl i) = or_left (nullable r) (nullable s) (in_nullable r i)
in_nullable (alt r s) (inr i) = or_right (nullable r) (nullable s) (in_nullable s i)
in_nullable (star r) i = refl

-- ---- The first byte

-- one of these ways reads the byte c and leaves the text t
abbrev Reads : List Head → ℕ → Text → Type 0
Reads hs c t = (h : Head) × Member h hs × (in_class h.class c ≡ true) × In h.rest t

-- one of these ways reads the byte c and leaves a first half of t, and the other half is a text of s
abbrev ReadsThen : List Head → Pattern → ℕ → Text → Type 0
ReadsThen hs s c t = (u : Text) × (v : Text) × (t ≡ u ++ v) × Reads hs c u × In s v

-- to read by a way before s is to read by the way and then a text of s
then_of : (hs : List Head) (s : Pattern) (c : ℕ) (t : Text) → Reads (map (before s) hs) c t → ReadsThen hs s c t
unfolding In before
then_of hs s c t (h, m, e, i) =
    let (k, n, p) = map_member (before s) h hs m in
    let (u, v, q, x, y) = rw p at i in
    (u, v, q, (k, n, rw p at e, x), y)

of_then : (hs : List Head) (s : Pattern) (c : ℕ) (t : Text) → ReadsThen hs s c t → Reads (map (before s) hs) c t
unfolding In before
of_then hs s c t (u, v, q, (k, n, e, x), y) = (before s k, member_map (before s) k hs n, e, (u, v, q, x, y))

-- to read by one of two lists of ways is to read by either list
reads_left : (hs ks : List Head) (c : ℕ) (t : Text) → Reads hs c t → Reads (hs ++ ks) c t
reads_left hs ks c t (h, m, e, i) = (h, member_left h hs ks m, e, i)

reads_right : (hs ks : List Head) (c : ℕ) (t : Text) → Reads ks c t → Reads (hs ++ ks) c t
reads_right hs ks c t (h, m, e, i) = (h, member_right h hs ks m, e, i)

reads_either : (hs ks : List Head) (c : ℕ) (t : Text) → Reads (hs ++ ks) c t → Reads hs c t ⊎ Reads ks c t
unfolding ⊎_map
reads_either hs ks c t (h, m, e, i) = ⊎_map (λ n. (h, n, e, i)) (λ n. (h, n, e, i)) (member_append h hs ks m)

-- ways to read a first byte give members
reads_in : (r : Pattern) (c : ℕ) (t : Text) → Reads (heads r) c t → In r (c ∷ t)
unfolding heads In joined ⊎_map
reads_in (word []) c t (h, m, e, i) = absurd m
reads_in (word (d ∷ w)) c t (h, inl p, e, i) =
    let q = only_byte d c (rw p at e) in
    let rest : t ≡ w = rw p at i in
    cc
reads_in (word (d ∷ w)) c t (h, inr x8, e, i) = elim x8 [ ]
reads_in (one_of k) c t (h, inr x6, e, i) = elim x6 [ ]
reads_in (one_of k) c t (h, inl p, e, i) =
    let rest : t ≡ [] = rw p at i in
    (c, cc, rw p at e)
reads_in (concat r s) c t m =
    ⊎_elim
    (λ x. let (u, v, q, i, j) = then_of (heads r) s c t x in (c ∷ u, v, ap (λ w. c ∷ w) q, reads_in r c u i, j))
    (skip (nullable r) refl (reads_in s c t))
    (reads_either (map (before s) (heads r)) (cond (nullable r) (heads s) []) c t m)
  where
    -- the first half is empty
    skip : (b : Bool) → nullable r ≡ b → (Reads (heads s) c t → In s (c ∷ t)) → Reads (cond b (heads s) []) c t → In (concat r s) (c ∷ t)
    skip true p right x = ([], c ∷ t, refl, nullable_in r p, right x)
    skip false p right x = absurd x.1
reads_in (alt r s) c t m = ⊎_map (reads_in r c t) (reads_in s c t) (reads_either (heads r) (heads s) c t m)
reads_in (star r) c t m =
    let (u, v, q, i, (ps, e, all)) = then_of (heads r) (star r) c t m in
    ((c ∷ u) ∷ ps, cc (q, e), (reads_in r c u i, all))

-- the same, said of one way
pub head_in :
    (r : Pattern) (h : Head) (c : ℕ) (t : Text)
    → Member h (heads r)
    → in_class h.class c ≡ true
    → In h.rest t
    → In r (c ∷ t)
head_in r h c t m e i = reads_in r c t (h, m, e, i)

-- in a list of parts, the first part that is not empty is read first
first_part_lem :
    (r : Pattern) (c : ℕ) (t : Text)
    → ((u : Text) → In r (c ∷ u) → Reads (heads r) c u)
    → (ps : List Text)
    → c ∷ t ≡ joined ps
    → All (In r) ps
    → ReadsThen (heads r) (star r) c t
unfolding joined In
first_part_lem r c t reads [] e all = absurd (cons≢nil e)
first_part_lem r c t reads ([] ∷ ps) e (i, all) = first_part_lem r c t reads ps e all
first_part_lem r c t reads ((d ∷ u) ∷ ps) e (i, all) =
    (u, joined ps, tail-eq_of_cons-eq e, reads u (rw (head-eq_of_cons-eq e) i), (ps, refl, all))

-- each member that is not empty comes from a way to read its first byte
pub in_head :
    (r : Pattern) (c : ℕ) (t : Text) → In r (c ∷ t) → (h : Head) × Member h (heads r) × (in_class h.class c ≡ true) × In h.rest t
unfolding heads In
in_head (word []) c t e = absurd (cons≢nil e)
in_head (word (d ∷ w)) c t e =
    (record { class = range d d; rest = word w }, inl refl, rw (head-eq_of_cons-eq e) (one_byte d), tail-eq_of_cons-eq e)
in_head (one_of k) c t (b, e, p) =
    (record { class = k; rest = word [] }, inl refl, rw (head-eq_of_cons-eq e) p, tail-eq_of_cons-eq e)
in_head (concat r s) c t ([], v, e, i, j) =
    reads_right
    (map (before s) (heads r))
    (cond (nullable r) (heads s) [])
    c
    t
    (rw (cond_true (nullable r) (heads s) [] (in_nullable r i)) (in_head s c t (rw e j)))
in_head (concat r s) c t (d ∷ u, v, e, i, j) =
    reads_left
    (map (before s) (heads r))
    (cond (nullable r) (heads s) [])
    c
    t
    (of_then (heads r) s c t (u, v, tail-eq_of_cons-eq e, in_head r c u (rw (head-eq_of_cons-eq e) i), j))
in_head (alt r s) c t (inl i) = reads_left (heads r) (heads s) c t (in_head r c t i)
in_head (alt r s) c t (inr i) = reads_right (heads r) (heads s) c t (in_head s c t i)
in_head (star r) c t (ps, e, all) = of_then (heads r) (star r) c t (first_part_lem r c t (in_head r c) ps e all)

-- ---- The test

-- where the test is true, the text belongs
pub matches_in_lem : (r : Pattern) (t : Text) → matches r t ≡ true → In r t
unfolding matches
matches_in_lem r [] e = nullable_in r e
matches_in_lem r (c ∷ t) e =
    let (h, m, p) = passes_at (λ h. in_class h.class c && matches h.rest t) (heads r) e in
    let b = and_both (in_class h.class c) (matches h.rest t) p in
    head_in r h c t m b.0 (matches_in_lem h.rest t b.1)

-- and where the text belongs, the test is true
pub in_matches : (r : Pattern) (t : Text) → In r t → matches r t ≡ true
unfolding matches
in_matches r [] i = in_nullable r i
in_matches r (c ∷ t) i =
    let (h, m, e, j) = in_head r c t i in
    passes_of
    (λ h. in_class h.class c && matches h.rest t)
    h
    (heads r)
    m
    (and_of (in_class h.class c) (matches h.rest t) e (in_matches h.rest t j))

-- both at once
pub matches_iff : (r : Pattern) (t : Text) → (matches r t ≡ true) ↔ In r t
matches_iff r t = (matches_in_lem r t, in_matches r t)
