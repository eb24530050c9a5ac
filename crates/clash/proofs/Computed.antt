-- The text that is given, in a form that computes: two readings of one text, byte by byte.
use Rattle.std.specs.Prelude.{◌≡◌, Bool, ◌&&◌, cond, ◌⊎◌, ◌↔◌, ℕ, zero, suc, length}
use Rattle.std.proofs.Math.Path.{refl, ap}
use Rattle.std.proofs.Common.{sym, ◌∙◌, subst, arith}
use Rattle.std.proofs.Math.Bool.{true, false}
use Rattle.std.proofs.lemmas.Bool.{false≢true}
use mathlib.Core.List.{List, [], ◌∷◌, ◌++◌, map}
use Rattle.std.proofs.Math.Logic.{inl, inr, ⊎_elim, ⊎_map}
use Rattle.std.proofs.Math.Logic.Iff
use Rattle.semantics.specs.Text.{Text, joined, All, Member, some_passes, least}
use Rattle.semantics.specs.Pattern.{Class, in_class, Pattern, concat, star, In, nullable, Head, heads}
use Rattle.semantics.specs.Ambiguity.{share_byte, same_pair}
use Rattle.laws.specs.Basics.{
  bool_cases,
  and_both,
  and_of,
  cond_true,
  cond_false,
  member_left,
  member_right,
  member_append,
  passes_at,
  passes_of,
  member_map,
  map_member,
}
use Rattle.laws.specs.Membership.{nullable_in, in_nullable, head_in, in_head}
use Rattle.laws.specs.States.{member_one, member_cond, cond_member, member_joined_map, joined_map_member, same_pair_eq}
use Rattle.laws.specs.Classes.{shared_byte, byte_shared}
use Rattle.laws.specs.Bytes.{IsByte}
use Rattle.clash.specs.Clash.{Rule, one_cut, one_arm, one_list, cut_twice, breaks, some_text, lowest_text, max_clash, shortest_text, clash_text}
use Rattle.clash.proofs.Ends.{same_test, least_first}
use Rattle.clash.proofs.Twofold.{Apart, ReadOn, arm_iff, apart_end, apart_cons_iff, apart_iff}
use Rattle.clash.proofs.Given.{some_at, some_of}

-- ---- Two readings of one text

-- `both p q`: texts of p and of q. `apart s p q`: texts with a part in p and the rest in s, and with a part in q, a byte or more longer, and the rest in s.
pub data Twofold : Type 0 where
  both : Pattern → Pattern → Twofold
  apart : Pattern → Pattern → Pattern → Twofold

-- what each of them reads
unfoldable Reads : Twofold → Text → Type 0
Reads (both p q) t = In p t × In q t
Reads (apart s p q) t = Apart p q s t

-- One way to read a first byte: any byte that is in both classes, and then a text of `rest`.
pub record Way : Type 0 where
  pub class : Class
  pub class' : Class
  pub rest : Twofold

-- the way of one reading and of the other together
abbrev pub way : (Pattern → Pattern → Twofold) → Head → Head → Way
way make h k = record { class = h.class; class' = k.class; rest = make h.rest k.rest }

-- each head of the one with each of the other
unfoldable pub pairs : (Pattern → Pattern → Twofold) → List Head → List Head → List Way
pairs make hs ks = joined (map (λ h. map (way make h) ks) hs)

-- the second reading goes on and s follows it, while the first is in s already
abbrev pub onward : Pattern → Pattern → Pattern → Twofold
onward s q s' = both (concat q s) s'

-- All the ways. Where the first reading may be cut, s begins, and the second reading has a byte more.
unfoldable pub ways : Twofold → List Way
ways (both p q) = pairs both (heads p) (heads q)
ways (apart s p q) = pairs (apart s) (heads p) (heads q) ++ cond (nullable p) (pairs (onward s) (heads q) (heads s)) []

-- whether the empty text is read
unfoldable pub ends : Twofold → Bool
ends (both p q) = nullable p && nullable q
ends (apart s p q) = false

-- whether they are the same
unfoldable pub same_twofold : Twofold → Twofold → Bool
same_twofold (both p q) b = elim b [ both p' q' ↦ same_pair (p, q) (p', q') | apart s' p' q' ↦ false ]
same_twofold (apart s p q) b = elim b [ both p' q' ↦ false | apart s' p' q' ↦ same_pair (concat s p, q) (concat s' p', q') ]

-- a reading more, unless it is there
unfoldable pub added : Twofold → List Twofold → List Twofold
added a xs = cond (some_passes (same_twofold a) xs) xs (a ∷ xs)

-- what the ways that pass leave
unfoldable pub kept : (Way → Bool) → List Way → List Twofold
kept test [] = []
kept test (w ∷ ws) = let more = kept test ws in cond (test w) (added w.rest more) more

-- the readings left after this byte
unfoldable pub after : ℕ → List Twofold → List Twofold
after c xs = kept (λ w. in_class w.class c && in_class w.class' c) (joined (map ways xs))

-- and after some byte
unfoldable pub next : List Twofold → List Twofold
next xs = kept (λ w. share_byte w.class w.class') (joined (map ways xs))

-- whether one of them reads a text of n bytes
unfoldable pub some_left : ℕ → List Twofold → Bool
some_left zero xs = some_passes ends xs
some_left (suc n) xs = some_left n (next xs)

-- the lowest such text
unfoldable pub lowest_left : ℕ → List Twofold → Text
lowest_left zero xs = []
lowest_left (suc n) xs = let c = least 256 (λ c. some_left n (after c xs)) in c ∷ lowest_left n (after c xs)

-- the lowest of the shortest texts that one of them reads
unfoldable pub lowest_read : List Twofold → Text
lowest_read xs = lowest_left (least max_clash (λ n. some_left n xs)) xs

-- the text that is given for the rule
unfoldable pub clashed : Rule → Text
clashed (one_cut r s) = lowest_read (apart s r r ∷ [])
clashed (one_arm r s) = lowest_read (both r s ∷ [])
clashed (one_list r) = let found = lowest_read (apart (star r) r r ∷ []) in cond (nullable r) [] found

-- ---- One byte

-- P holds of some member of the list
abbrev Some : {A : Type 0} → (A → Type 0) → List A → Type 0
Some {A} P xs = (x : A) × Member x xs × P x

-- the way reads this byte, and then this text
abbrev Leads : ℕ → Text → Way → Type 0
Leads c t w = (in_class w.class c ≡ true) × (in_class w.class' c ≡ true) × Reads w.rest t

module _ (make : Pattern → Pattern → Twofold) (hs ks : List Head) where
  -- each pair of heads has its way
  member_pairs : (h k : Head) → Member h hs → Member k ks → Member (way make h k) (pairs make hs ks)
  unfolding pairs
  member_pairs h k m n = member_joined_map (λ h. map (way make h) ks) h (way make h k) hs m (member_map (way make h) k ks n)

  -- and each way is that of a pair
  pairs_member : (w : Way) → Member w (pairs make hs ks) → (h : Head) × (k : Head) × Member h hs × Member k ks × (w ≡ way make h k)
  unfolding pairs
  pairs_member w m =
      let (h, i, n) = joined_map_member (λ h. map (way make h) ks) w hs m in
      let (k, j, e) = map_member (way make h) w ks n in
      (h, k, i, j, e)

-- h is a head of p and reads the byte c
abbrev Heads : Pattern → ℕ → Head → Type 0
Heads p c h = Member h (heads p) × (in_class h.class c ≡ true)

-- by its first byte a text of p is read on in the rest of such a head
head_on : (p : Pattern) (c : ℕ) → ReadOn p c (Heads p c) (λ h. h.rest)
head_on p c t = (
  λ i. let (h, m, e, j) = in_head p c t i in (h, (m, e), j),
  λ x. let (h, (m, e), j) = x in head_in p h c t m e j,
)

-- both readings have the byte, or the first is at its cut
apart_heads_iff :
    (s p q : Pattern) (c : ℕ) (t : Text)
    → Apart p q s (c ∷ t)
    ↔ (((h : Head) × (k : Head) × Heads p c h × Heads q c k × Apart h.rest k.rest s t)
    ⊎ (In p [] × ((h : Head) × (k : Head) × Heads q c h × Heads s c k × In (concat h.rest s) t × In k.rest t)))
apart_heads_iff s p q c =
    apart_cons_iff p q s c (Heads p c) (λ h. h.rest) (Heads q c) (λ h. h.rest) (Heads s c) (λ h. h.rest) (head_on p c) (head_on q c) (head_on s c)

-- A text that is not empty is read by way of its first byte.
reads_way : (a : Twofold) (c : ℕ) (t : Text) → Reads a (c ∷ t) → Some (Leads c t) (ways a)
unfolding Reads ways
reads_way (both p q) c t (i, j) =
    let (h, m, e, i') = in_head p c t i in
    let (k, n, f, j') = in_head q c t j in
    (way both h k, member_pairs both (heads p) (heads q) h k m n, (e, f, (i', j')))
reads_way (apart s p q) c t a =
    ⊎_elim
    (λ x.
    let (h, k, (m, e), (n, f), b) = x in
    (way (apart s) h k, member_left _ early late (member_pairs (apart s) (heads p) (heads q) h k m n), (e, f, b)))
    (λ x.
    let (i, (h, k, (m, e), (n, f), y, z)) = x in
    let later = member_pairs (onward s) (heads q) (heads s) h k m n in
    let there = cond_member (nullable p) (way (onward s) h k) (pairs (onward s) (heads q) (heads s)) (in_nullable p i) later in
    (way (onward s) h k, member_right _ early late there, (e, f, (y, z))))
    ((apart_heads_iff s p q c t).0 a)
  where
    -- the ways on which both go on
    early : List Way
    early = pairs (apart s) (heads p) (heads q)

    -- and those on which the first is at its cut
    late : List Way
    late = cond (nullable p) (pairs (onward s) (heads q) (heads s)) []

-- And what a way reads, with its byte in front, is read.
way_reads : (a : Twofold) (w : Way) (c : ℕ) (t : Text) → Member w (ways a) → Leads c t w → Reads a (c ∷ t)
unfolding Reads ways
way_reads (both p q) w c t m l =
    let (h, k, i, j, e) = pairs_member both (heads p) (heads q) w m in
    let (f, g, (x, y)) : Leads c t (way both h k) = subst (Leads c t) e l in
    (head_in p h c t i f x, head_in q k c t j g y)
way_reads (apart s p q) w c t m l =
    (apart_heads_iff s p q c t).1
    (⊎_map
    (λ n.
    let (h, k, i, j, e) = pairs_member (apart s) (heads p) (heads q) w n in
    let (f, g, a) : Leads c t (way (apart s) h k) = subst (Leads c t) e l in
    (h, k, (i, f), (j, g), a))
    (λ n.
    let (null, n') = member_cond (nullable p) w (pairs (onward s) (heads q) (heads s)) n in
    let (h, k, i, j, e) = pairs_member (onward s) (heads q) (heads s) w n' in
    let (f, g, (y, z)) : Leads c t (way (onward s) h k) = subst (Leads c t) e l in
    (nullable_in p null, (h, k, (i, f), (j, g), y, z)))
    (member_append w (pairs (apart s) (heads p) (heads q)) (cond (nullable p) (pairs (onward s) (heads q) (heads s)) []) m))

-- the empty text is read only where both readings end
reads_ends : (a : Twofold) → Reads a [] → ends a ≡ true
unfolding Reads ends
reads_ends (both p q) (i, j) = and_of (nullable p) (nullable q) (in_nullable p i) (in_nullable q j)
reads_ends (apart s p q) a = absurd (apart_end p q s a)

-- and it is read there
ends_reads : (a : Twofold) → ends a ≡ true → Reads a []
unfolding Reads ends
ends_reads (both p q) e = let (f, g) = and_both (nullable p) (nullable q) e in (nullable_in p f, nullable_in q g)
ends_reads (apart s p q) e = absurd (false≢true e)

-- ---- Lists of readings

-- what passes as the same is the same
same_twofold_eq : (a b : Twofold) → same_twofold a b ≡ true → a ≡ b
unfolding same_twofold
same_twofold_eq (both p q) b =
    elim b as (λ k. same_twofold (both p q) k ≡ true → both p q ≡ k) [
      | both p' q' ↦ λ e. let f = same_pair_eq (p, q) (p', q') e in ap (λ x. both x.0 x.1) f
      | apart s' p' q' ↦ λ e. absurd (false≢true e)
    ]
same_twofold_eq (apart s p q) b =
    elim b as (λ k. same_twofold (apart s p q) k ≡ true → apart s p q ≡ k) [
      | both p' q' ↦ λ e. absurd (false≢true e)
      | apart s' p' q' ↦ λ e.
          let f = same_pair_eq (concat s p, q) (concat s' p', q') e in
          let g : concat s p ≡ concat s' p' = ap (λ x. x.0) f in
          let k : q ≡ q' = ap (λ x. x.1) f in
          let y : s ≡ s' = cc in
          let z : p ≡ p' = cc in
          cc
    ]

-- a reading that is added is there
added_new : (a : Twofold) (xs : List Twofold) → Member a (added a xs)
unfolding added
added_new a xs = go (some_passes (same_twofold a) xs) refl
  where
    go : (b : Bool) → some_passes (same_twofold a) xs ≡ b → Member a (cond b xs (a ∷ xs))
    go true e = let (x, m, f) = passes_at (same_twofold a) xs e in subst (λ y. Member y xs) (sym (same_twofold_eq a x f)) m
    go false e = inl refl

-- so are the others
added_old : (a b : Twofold) (xs : List Twofold) → Member b xs → Member b (added a xs)
unfolding added
added_old a b xs m = go (some_passes (same_twofold a) xs)
  where
    go : (c : Bool) → Member b (cond c xs (a ∷ xs))
    go true = m
    go false = inr m

-- and no other
added_only : (a b : Twofold) (xs : List Twofold) → Member b (added a xs) → (b ≡ a) ⊎ Member b xs
unfolding added
added_only a b xs = go (some_passes (same_twofold a) xs)
  where
    go : (c : Bool) → Member b (cond c xs (a ∷ xs)) → (b ≡ a) ⊎ Member b xs
    go true m = inr m
    go false m = m

module _ (test : Way → Bool) where
  -- what is kept is left by a way that passes
  kept_way : (b : Twofold) (ws : List Way) → Member b (kept test ws) → (w : Way) × Member w ws × (test w ≡ true) × (b ≡ w.rest)
  unfolding kept
  kept_way b [] m = elim m [ ]
  kept_way b (w ∷ ws) m = go (test w) refl (kept_way b ws) m
    where
      go :
          (c : Bool)
          → test w ≡ c
          → (Member b (kept test ws) → (v : Way) × Member v ws × (test v ≡ true) × (b ≡ v.rest))
          → Member b (cond c (added w.rest (kept test ws)) (kept test ws))
          → (v : Way) × Member v (w ∷ ws) × (test v ≡ true) × (b ≡ v.rest)
      go true e rec m =
          ⊎_elim
          (λ f. (w, inl refl, e, f))
          (λ n. let (v, i, f, g) = rec n in (v, inr i, f, g))
          (added_only w.rest b (kept test ws) m)
      go false e rec m = let (v, i, f, g) = rec m in (v, inr i, f, g)

  -- and each way that passes leaves its rest
  way_kept : (w : Way) (ws : List Way) → Member w ws → test w ≡ true → Member w.rest (kept test ws)
  unfolding kept
  way_kept w [] m p = elim m [ ]
  way_kept w (v ∷ ws) (inl e) p =
      let q : test v ≡ true = ap test (sym e) ∙ p in
      rw (q, e) (added_new v.rest (kept test ws))
  way_kept w (v ∷ ws) (inr m) p = go (test v) (way_kept w ws m p)
    where
      go : (c : Bool) → Member w.rest (kept test ws) → Member w.rest (cond c (added v.rest (kept test ws)) (kept test ws))
      go true n = added_old v.rest w.rest (kept test ws) n
      go false n = n

-- some reading of the list reads the text
abbrev SomeReads : List Twofold → Text → Type 0
SomeReads xs t = Some (λ a. Reads a t) xs

module _ (test : Way → Bool) (t : Text) (xs : List Twofold) where
  -- If a kept reading reads the text, some way passes by whose bytes a reading of the list comes to it.
  kept_reads :
      SomeReads (kept test (joined (map ways xs))) t
      → (w : Way) × (test w ≡ true) × ((c : ℕ) → in_class w.class c ≡ true → in_class w.class' c ≡ true → SomeReads xs (c ∷ t))
  kept_reads (b, m, i) =
      let (w, n, e, f) = kept_way test b (joined (map ways xs)) m in
      let (a, o, l) = joined_map_member ways w xs n in
      (w, e, λ c g h. (a, o, way_reads a w c t l (g, h, subst (λ b. Reads b t) f i)))

  -- If a reading of the list reads the text behind a byte, a kept one reads the text, where every way of that byte passes.
  reads_kept :
      (c : ℕ)
      → ((w : Way) → in_class w.class c ≡ true → in_class w.class' c ≡ true → test w ≡ true)
      → SomeReads xs (c ∷ t)
      → SomeReads (kept test (joined (map ways xs))) t
  reads_kept c passes (a, m, i) =
      let (w, n, (e, f, j)) = reads_way a c t i in
      (w.rest, way_kept test w (joined (map ways xs)) (member_joined_map ways a w xs m n) (passes w e f), j)

-- what reads the text after a byte comes from what reads both
after_reads : (c : ℕ) (t : Text) (xs : List Twofold) → SomeReads (after c xs) t → SomeReads xs (c ∷ t)
unfolding after
after_reads c t xs h =
    let (w, e, reads-with) = kept_reads (λ w. in_class w.class c && in_class w.class' c) t xs h in
    let (f, g) = and_both (in_class w.class c) (in_class w.class' c) e in
    reads-with c f g

-- and leads to it
reads_after : (c : ℕ) (t : Text) (xs : List Twofold) → SomeReads xs (c ∷ t) → SomeReads (after c xs) t
unfolding after
reads_after c t xs = reads_kept _ t xs c (λ w. and_of (in_class w.class c) (in_class w.class' c))

-- what reads the text after some byte comes from what reads it behind one
next_reads : (t : Text) (xs : List Twofold) → SomeReads (next xs) t → (c : ℕ) × SomeReads xs (c ∷ t)
unfolding next
next_reads t xs h =
    let (w, e, reads-with) = kept_reads (λ w. share_byte w.class w.class') t xs h in
    let (c, f, g) = shared_byte w.class w.class' e in
    (c, reads-with c f g)

-- and leads to it
reads_next : (c : ℕ) (t : Text) (xs : List Twofold) → SomeReads xs (c ∷ t) → SomeReads (next xs) t
unfolding next
reads_next c t xs = reads_kept _ t xs c (λ w. byte_shared w.class w.class' c)

-- whether some reading of the list reads the text
unfoldable reads : List Twofold → Text → Bool
reads xs [] = some_passes ends xs
reads xs (c ∷ t) = reads (after c xs) t

-- the test is true only where one does
reads_some : (xs : List Twofold) (t : Text) → reads xs t ≡ true → SomeReads xs t
unfolding reads
reads_some xs [] e = let (a, m, f) = passes_at ends xs e in (a, m, ends_reads a f)
reads_some xs (c ∷ t) e = after_reads c t xs (reads_some (after c xs) t e)

-- and where one does it is true
some_reads : (xs : List Twofold) (t : Text) → SomeReads xs t → reads xs t ≡ true
unfolding reads
some_reads xs [] (a, m, i) = passes_of ends a xs m (reads_ends a i)
some_reads xs (c ∷ t) h = some_reads (after c xs) t (reads_after c t xs h)

-- ---- Texts of n bytes

-- `some_left` is true only where one of them reads a text of n bytes
left_at : (n : ℕ) (xs : List Twofold) → some_left n xs ≡ true → (t : Text) × (length t ≡ n) × SomeReads xs t
unfolding some_left
left_at zero xs e = let (a, m, f) = passes_at ends xs e in ([], refl, (a, m, ends_reads a f))
left_at (suc n) xs e =
    let (t, l, h) = left_at n (next xs) e in
    let (c, k) = next_reads t xs h in
    (c ∷ t, ap suc l, k)

-- and where one does it is true
left_of : (n : ℕ) (xs : List Twofold) (t : Text) → length t ≡ n → SomeReads xs t → some_left n xs ≡ true
unfolding some_left
left_of zero xs [] l (a, m, i) = passes_of ends a xs m (reads_ends a i)
left_of zero xs (c ∷ t) l h = absurd (omega arith)
left_of (suc n) xs [] l h = absurd (omega arith)
left_of (suc n) xs (c ∷ t) l h = left_of n (next xs) t (omega arith) (reads_next c t xs h)

-- all texts that some reading reads are made of bytes
abbrev ReadBytes : List Twofold → Type 0
ReadBytes xs = (t : Text) → reads xs t ≡ true → All IsByte t

-- `some_left` is the test that tries all texts of n bytes
left_is : (n : ℕ) (xs : List Twofold) → ReadBytes xs → some_left n xs ≡ some_text n (reads xs)
left_is n xs bytes =
    same_test (some_left n xs) (some_text n (reads xs)) (
      λ e. let (t, l, h) = left_at n xs e in let r = some_reads xs t h in some_of n (reads xs) t (bytes t r) l r,
      λ e. let (t, l, r) = some_at n (reads xs) e in left_of n xs t l (reads_some xs t r),
    )

-- what is read after a byte is made of bytes too
after_bytes : (c : ℕ) (xs : List Twofold) → ReadBytes xs → ReadBytes (after c xs)
unfolding reads
after_bytes c xs bytes t e = (bytes (c ∷ t) e).1

-- so the lowest text is the same
lowest_is : (n : ℕ) (xs : List Twofold) → ReadBytes xs → lowest_left n xs ≡ lowest_text n (reads xs)
unfolding lowest_left lowest_text reads
lowest_is zero xs bytes = refl
lowest_is (suc n) xs bytes =
    let start : (c : ℕ) → some_left n (after c xs) ≡ some_text n (reads (after c xs)) = λ c. left_is n (after c xs) (after_bytes c xs bytes) in
    let same : least 256 (λ c. some_left n (after c xs)) ≡ least 256 (λ c. some_text n (reads (after c xs))) = λ i. least 256 (λ c. start c i) in
    let rest : (c : ℕ) → lowest_left n (after c xs) ≡ lowest_text n (reads (after c xs)) = λ c. lowest_is n (after c xs) (after_bytes c xs bytes) in
    let c : ℕ = least 256 (λ c. some_text n (reads (after c xs))) in
    ap (λ c. c ∷ lowest_left n (after c xs)) same ∙ ap (λ t. c ∷ t) (rest c)

-- and so is the lowest of the shortest
read_is : (xs : List Twofold) → ReadBytes xs → lowest_read xs ≡ lowest_text (shortest_text (reads xs)) (reads xs)
unfolding lowest_read shortest_text
read_is xs bytes =
    let same : least max_clash (λ n. some_left n xs) ≡ least max_clash (λ n. some_text n (reads xs)) = λ i. least max_clash (λ n. left_is n xs bytes i) in
    ap (λ n. lowest_left n xs) same ∙ lowest_is (least max_clash (λ n. some_text n (reads xs))) xs bytes

-- ---- The rules

-- the test of one reading alone
reads_one : (a : Twofold) (t : Text) → (reads (a ∷ []) t ≡ true) ↔ Reads a t
reads_one a t = (
  λ e. let (b, m, i) = reads_some (a ∷ []) t e in subst (λ b. Reads b t) (member_one b a m) i,
  λ i. some_reads (a ∷ []) t (a, inl refl, i),
)

-- the test of the rule is the test of its readings: of a join
cut_reads : (r s : Pattern) (t : Text) → reads (apart s r r ∷ []) t ≡ cut_twice r s t
unfolding Reads
cut_reads r s t = same_test (reads (apart s r r ∷ []) t) (cut_twice r s t) (Iff.trans (reads_one (apart s r r) t) (Iff.symm (apart_iff r s t)))

-- of a union
arm_reads : (r s : Pattern) (t : Text) → reads (both r s ∷ []) t ≡ breaks (one_arm r s) t
unfolding Reads
arm_reads r s t = same_test (reads (both r s ∷ []) t) (breaks (one_arm r s) t) (Iff.trans (reads_one (both r s) t) (Iff.symm (arm_iff r s t)))

-- and of a repeat whose child does not hold the empty text
list_reads : (r : Pattern) (t : Text) → nullable r ≡ false → reads (apart (star r) r r ∷ []) t ≡ breaks (one_list r) t
unfolding breaks reads some_passes ends
list_reads r [] e = sym e
list_reads r (c ∷ t) e = cut_reads r (star r) (c ∷ t)

-- where the test of the readings is that of the rule, their text is the given one
reads_clash :
    (rule : Rule) (xs : List Twofold)
    → ((u : Text) → breaks rule u ≡ true → All IsByte u)
    → ((t : Text) → reads xs t ≡ breaks rule t)
    → lowest_read xs ≡ clash_text rule
unfolding clash_text
reads_clash rule xs bytes same =
    read_is xs (λ t e. bytes t (sym (same t) ∙ e)) ∙ (λ i. lowest_text (shortest_text (λ t. same t i)) (λ t. same t i))

-- the empty text passes, where a repeat's child holds it
passes_empty : (r : Pattern) → nullable r ≡ true → some_text 0 (breaks (one_list r)) ≡ true
unfolding some_text breaks
passes_empty r e = e

-- so it is given
empty_clash : (r : Pattern) → nullable r ≡ true → clash_text (one_list r) ≡ []
unfolding clash_text shortest_text lowest_text
empty_clash r e = ap (λ n. lowest_text n (breaks (one_list r))) none
  where
    none : least max_clash (λ n. some_text n (breaks (one_list r))) ≡ 0
    none = omega (arith, least_first max_clash (λ n. some_text n (breaks (one_list r))) 0 (passes_empty r e))

-- The text that this form computes is the text that is given.
pub clashed_is : (rule : Rule) → ((u : Text) → breaks rule u ≡ true → All IsByte u) → clashed rule ≡ clash_text rule
unfolding clashed breaks
clashed_is (one_cut r s) bytes = reads_clash (one_cut r s) (apart s r r ∷ []) bytes (cut_reads r s)
clashed_is (one_arm r s) bytes = reads_clash (one_arm r s) (both r s ∷ []) bytes (arm_reads r s)
clashed_is (one_list r) bytes =
    ⊎_elim
    (λ e. cond_true (nullable r) [] (lowest_read (apart (star r) r r ∷ [])) e ∙ sym (empty_clash r e))
    (λ e.
    cond_false (nullable r) [] (lowest_read (apart (star r) r r ∷ [])) e
    ∙ reads_clash (one_list r) (apart (star r) r r ∷ []) bytes (λ t. list_reads r t e))
    (bool_cases (nullable r))
