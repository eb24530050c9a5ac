-- The position automaton of a pattern (Glushkov): its states are the positions, numbered from 0 in the order of the written-out pattern.
-- Definitions, and the three laws by which it reads exactly the texts of the pattern.
use Rattle.std.specs.Prelude.{◌≡◌, refl, Bool, ◌&&◌, ◌||◌, cond, List, [], ◌∷◌, ◌++◌, map, ◌↔◌, ℕ, ◌+◌, ◌-◌, ◌≤◌, ◌<◌, eqb, ltb, length, drop, get_or}
use Rattle.std.proofs.Common.{sym, ◌∙◌, append-nil, inl, ⊎_elim, add-one, drop_of_length-le, drop-cons, ltb-true, ltb-false, lt-ltb, le-ltb, eqb-true, eq-eqb, ne_eqb}
use Rattle.std.proofs.Math.Path.{ap}
use Rattle.std.proofs.Math.Bool.{true, false, and_comm, and-true}
use Rattle.std.proofs.lemmas.Bool.{false≢true}
use native.Mathlib.Omega.{arith}
use Rattle.semantics.specs.Text.{Text, Member}
use Rattle.semantics.specs.Pattern.{Class, range, in_class, Pattern, word, one_of, concat, alt, star, In, nullable, Head, before, heads}
use Rattle.semantics.specs.Table.{positions}
use Rattle.laws.specs.Basics.{
  bool_cases,
  and_both,
  and_of,
  or_either,
  or_left,
  or_right,
  cond_true,
  cond_false,
  member_left,
  member_right,
  member_append,
  member_map,
  map_member,
}
use Rattle.laws.specs.Membership.{nullable_in, in_nullable, head_in, in_head}

-- below n by the first, from n on by the second
unfoldable pub split : {A : Type 0} → ℕ → (ℕ → A) → (ℕ → A) → ℕ → A
split n f g p = cond (ltb p n) (f p) (g (p - n))

-- the class of a position
unfoldable pub class_at : Pattern → ℕ → Class
class_at (word w) p = range (get_or w p 0) (get_or w p 0)
class_at (one_of c) p = c
class_at (concat r s) p = split (positions r) (class_at r) (class_at s) p
class_at (alt r s) p = split (positions r) (class_at r) (class_at s) p
class_at (star r) p = class_at r p

-- 'byte c may stand at position p'
unfoldable pub stands_at : Pattern → ℕ → ℕ → Bool
stands_at r p c = in_class (class_at r p) c

-- the positions at which a text can begin
unfoldable pub first_at : Pattern → ℕ → Bool
first_at (word w) p = eqb p 0 && ltb 0 (length w)
first_at (one_of c) p = eqb p 0
first_at (concat r s) p = split (positions r) (first_at r) (λ q. nullable r && first_at s q) p
first_at (alt r s) p = split (positions r) (first_at r) (first_at s) p
first_at (star r) p = first_at r p

-- those at which it can end
unfoldable pub last_at : Pattern → ℕ → Bool
last_at (word w) p = eqb (p + 1) (length w)
last_at (one_of c) p = eqb p 0
last_at (concat r s) p = split (positions r) (λ q. nullable s && last_at r q) (last_at s) p
last_at (alt r s) p = split (positions r) (last_at r) (last_at s) p
last_at (star r) p = last_at r p

-- and those that may follow position p
unfoldable pub follow_at : Pattern → ℕ → ℕ → Bool
follow_at (word w) p q = eqb q (p + 1) && ltb q (length w)
follow_at (one_of c) p q = false
follow_at (concat r s) p q =
    split (positions r) (λ i. split (positions r) (follow_at r i) (λ j. last_at r i && first_at s j) q) (λ i. split (positions r) (λ j. false) (follow_at s i) q) p
follow_at (alt r s) p q =
    split (positions r) (λ i. split (positions r) (follow_at r i) (λ j. false) q) (λ i. split (positions r) (λ j. false) (follow_at s i) q) p
follow_at (star r) p q = follow_at r p q || last_at r p && first_at r q

-- what may stand behind position p
unfoldable pub rest_at : Pattern → ℕ → Pattern
rest_at (word w) p = word (drop (p + 1) w)
rest_at (one_of c) p = word []
rest_at (concat r s) p = split (positions r) (λ q. concat (rest_at r q) s) (rest_at s) p
rest_at (alt r s) p = split (positions r) (rest_at r) (rest_at s) p
rest_at (star r) p = concat (rest_at r p) (star r)

-- One way to read `c ∷ t`, beginning at one of the positions that `may` allows.
pub record ReadsAt (r : Pattern) (may : ℕ → Bool) (c : ℕ) (t : Text) : Type 0 where
  pub position : ℕ
  pub in_pattern : position < positions r
  pub allowed : may position ≡ true
  pub stands : stands_at r position c ≡ true
  pub rest_in : In (rest_at r position) t

-- ---- The two halves of a split

-- a number below n + m is below n, or it is n and a number below m
pub halves : (n m p : ℕ) → p < n + m → {C : Type 0} → (p < n → C) → ((q : ℕ) → q < m → p ≡ n + q → C) → C
halves n m p h left right =
    ⊎_elim
    (λ e. left (ltb-true p n e))
    (λ e. let k = ltb-false p n e in right (p - n) (omega arith) (omega arith))
    (bool_cases (ltb p n))

module _ {A : Type 0} (n : ℕ) (f g : ℕ → A) where
  -- the split is the first function below n, and the second from n on
  pub split_left : (p : ℕ) → p < n → split n f g p ≡ f p
  unfolding split
  split_left p h = cond_true (ltb p n) (f p) (g (p - n)) (lt-ltb p n h)

  pub split_right : (q : ℕ) → split n f g (n + q) ≡ g q
  unfolding split
  split_right q =
      let back : (n + q) - n ≡ q = omega arith in
      cond_false (ltb (n + q) n) (f (n + q)) (g ((n + q) - n)) (le-ltb (n + q) n (omega arith)) ∙ ap g back

  -- what holds of the values of both functions holds of the split's
  split_either : (P : A → Type 0) → ((i : ℕ) → P (f i)) → ((i : ℕ) → P (g i)) → (p : ℕ) → P (split n f g p)
  unfolding split
  split_either P left right p = go (ltb p n)
    where
      go : (b : Bool) → P (cond b (f p) (g (p - n)))
      go true = left p
      go false = right (p - n)

-- to split what a function makes is to make it of the split
split_map : {A B : Type 0} (h : A → B) (n : ℕ) (f g : ℕ → A) (p : ℕ) → split n (λ q. h (f q)) (λ q. h (g q)) p ≡ h (split n f g p)
unfolding split
split_map h n f g p = go (ltb p n)
  where
    go : (b : Bool) → cond b (h (f p)) (h (g (p - n))) ≡ h (cond b (f p) (g (p - n)))
    go true = refl
    go false = refl

-- ---- The empty text

-- a word has a byte at k, or it ends there
word_rest : (w : Text) (k : ℕ) {C : Type 0} → (k < length w → drop k w ≡ get_or w k 0 ∷ drop (k + 1) w → C) → (length w ≤ k → drop k w ≡ [] → C) → C
word_rest w k more ends =
    ⊎_elim
    (λ e. let h = ltb-true k (length w) e in more h (rw add-one (drop-cons w k 0 h)))
    (λ e. let h = ltb-false k (length w) e in ends h (drop_of_length-le w h))
    (bool_cases (ltb k (length w)))

-- behind a position nothing need stand exactly if a text can end at it
nullable_rest : (r : Pattern) (p : ℕ) → p < positions r → nullable (rest_at r p) ≡ last_at r p
unfolding nullable rest_at last_at positions
nullable_rest (word w) p h =
    word_rest
    w
    (p + 1)
    (λ k e. rw e (sym (ne_eqb (p + 1) (length w) (λ q. omega arith))))
    (λ k e. rw e (sym (eq-eqb (p + 1) (length w) (omega arith))))
nullable_rest (one_of c) p h = sym (eq-eqb p 0 (omega arith))
nullable_rest (concat r s) p h =
    halves
    (positions r)
    (positions s)
    p
    h
    (λ k. simp (split_left, nullable_rest r p k) (and_comm (last_at r p) (nullable s)))
    (λ q k e. rw e (simp split_right (nullable_rest s q k)))
nullable_rest (alt r s) p h =
    halves (positions r) (positions s) p h (λ k. simp split_left (nullable_rest r p k)) (λ q k e. rw e (simp split_right (nullable_rest s q k)))
nullable_rest (star r) p h = and-true (nullable (rest_at r p)) ∙ nullable_rest r p h

-- a text can end at a position exactly if the empty text may stand behind it
pub last_law : (r : Pattern) (p : ℕ) → p < positions r → In (rest_at r p) [] ↔ (last_at r p ≡ true)
last_law r p h =
    let e = nullable_rest r p h in
    (λ i. sym e ∙ in_nullable (rest_at r p) i, λ l. nullable_in (rest_at r p) (e ∙ l))

-- ---- The ways to read a first byte, listed and by position

-- position p as a way to read a first byte
head_at : Pattern → ℕ → Head
head_at r p = record { class = class_at r p; rest = rest_at r p }

-- The ways in the list are those of the positions below n that `may` allows.
record WaysAt (hs : List Head) (n : ℕ) (may : ℕ → Bool) (way : ℕ → Head) : Type 0 where
  found : (h : Head) → Member h hs → (p : ℕ) × (p < n) × (may p ≡ true) × (h ≡ way p)
  listed : (p : ℕ) → p < n → may p ≡ true → Member (way p) hs

-- no position is allowed
none : {n : ℕ} {may : ℕ → Bool} {way : ℕ → Head} → ((p : ℕ) → may p ≡ true → p < n → ⊥) → WaysAt [] n may way
none barred = record { found = λ h i. absurd i; listed = λ p l a. barred p a l }

-- one position is
one :
    {n : ℕ} {may : ℕ → Bool} {way : ℕ → Head} (p : ℕ)
    → p < n
    → may p ≡ true
    → ((q : ℕ) → may q ≡ true → q ≡ p)
    → WaysAt (way p ∷ []) n may way
one {way = way} p l a only =
    record { found = λ h i. ⊎_elim (λ e. (p, l, a, e)) (λ z. absurd z) i; listed = λ q k e. inl (ap way (only q e)) }

-- the positions of a second pattern come after those of a first
beside :
    {hs ks : List Head} {n m : ℕ} {a b : ℕ → Bool} {f g : ℕ → Head}
    → WaysAt hs n a f
    → WaysAt ks m b g
    → WaysAt (hs ++ ks) (n + m) (split n a b) (split n f g)
beside {hs} {ks} {n} {m} {a} {b} {f} {g} left right =
    record {
      found =
          λ h i.
          ⊎_elim
          (λ i. let (p, l, e, w) = left.found h i in (p, omega arith, simp split_left e, simp split_left w))
          (λ i. let (q, l, e, w) = right.found h i in (n + q, omega arith, simp split_right e, simp split_right w))
          (member_append h hs ks i);
      listed =
          λ p l e.
          halves
          n
          m
          p
          l
          (λ k. simp split_left (member_left (f p) hs ks (left.listed p k (simp split_left at e))))
          (λ q k z. rw z (simp split_right (member_right (g q) hs ks (right.listed q k (simp (z, split_right) at e)))));
    }

-- two lists of ways at the same positions
both :
    {hs ks : List Head} {n : ℕ} {a b : ℕ → Bool} {f : ℕ → Head}
    → WaysAt hs n a f
    → WaysAt ks n b f
    → WaysAt (hs ++ ks) n (λ p. a p || b p) f
both {hs} {ks} {a = a} {b = b} {f = f} left right =
    record {
      found =
          λ h i.
          ⊎_elim
          (λ i. let (p, l, e, w) = left.found h i in (p, l, or_left (a p) (b p) e, w))
          (λ i. let (p, l, e, w) = right.found h i in (p, l, or_right (a p) (b p) e, w))
          (member_append h hs ks i);
      listed =
          λ p l e.
          ⊎_elim
          (λ k. member_left (f p) hs ks (left.listed p l k))
          (λ k. member_right (f p) hs ks (right.listed p l k))
          (or_either (a p) (b p) e);
    }

-- a text of s comes after each way
then : {hs : List Head} {n : ℕ} {a : ℕ → Bool} {f : ℕ → Head} (s : Pattern) → WaysAt hs n a f → WaysAt (map (before s) hs) n a (λ p. before s (f p))
then {hs} {f = f} s ways =
    record {
      found =
          λ h i.
          let (k, j, e) = map_member (before s) h hs i in
          let (p, l, x, w) = ways.found k j in
          (p, l, x, e ∙ ap (before s) w);
      listed = λ p l e. member_map (before s) (f p) hs (ways.listed p l e);
    }

-- only where a test is true
under : {hs : List Head} {n : ℕ} {a : ℕ → Bool} {f : ℕ → Head} (b : Bool) → WaysAt hs n a f → WaysAt (cond b hs []) n (λ p. b && a p) f
under true ways = ways
under false ways = none (λ p e l. false≢true e)

-- to split the parts of the ways is to split the ways
split_ways :
    (n : ℕ) (f g : ℕ → Head)
    → ◌≡◌
    {A = ℕ → Head}
    (λ p. record { class = split n (λ q. (f q).class) (λ q. (g q).class) p; rest = split n (λ q. (f q).rest) (λ q. (g q).rest) p })
    (split n f g)
split_ways n f g =
    λ i p. record { class = split_map (λ h. h.class) n f g p i; rest = split_map (λ h. h.rest) n f g p i }

-- the ways of a pattern's positions, from those of its children
ways_concat : (r s : Pattern) → head_at (concat r s) ≡ split (positions r) (λ p. before s (head_at r p)) (head_at s)
unfolding head_at before class_at rest_at
ways_concat r s = split_ways (positions r) (λ p. before s (head_at r p)) (head_at s)

ways_alt : (r s : Pattern) → head_at (alt r s) ≡ split (positions r) (head_at r) (head_at s)
unfolding head_at class_at rest_at
ways_alt r s = split_ways (positions r) (head_at r) (head_at s)

ways_star : (r : Pattern) → head_at (star r) ≡ (λ p. before (star r) (head_at r p))
unfolding head_at before class_at rest_at
ways_star r = refl

-- what is left of a word from k on begins at position k, unless the word ends there
word_ways :
    (w : Text) (k : ℕ) (may : ℕ → Bool)
    → (k < length w → may k ≡ true)
    → ((q : ℕ) → may q ≡ true → q ≡ k)
    → WaysAt (heads (word (drop k w))) (length w) may (head_at (word w))
unfolding head_at heads class_at rest_at
word_ways w k may allowed only =
    word_rest w k (λ h e. rw e (one k h (allowed h) only)) (λ h e. rw e (none (λ p a l. omega (arith, only p a))))

-- a class has one way, at its one position
class_ways : (c : Class) → WaysAt (heads (one_of c)) 1 (λ p. eqb p 0) (head_at (one_of c))
unfolding heads head_at class_at rest_at
class_ways c = one 0 (omega arith) refl (λ q e. eqb-true q 0 e)

-- ---- The first byte of a text, and the next byte behind a position

-- the ways to read a first byte in r are the positions at which a text can begin
first_ways : (r : Pattern) → WaysAt (heads r) (positions r) (first_at r) (head_at r)
unfolding heads positions first_at
first_ways (word w) =
    word_ways w 0 (first_at (word w)) (lt-ltb 0 (length w)) (λ q e. eqb-true q 0 (and_both (eqb q 0) (ltb 0 (length w)) e).0)
first_ways (one_of c) = class_ways c
first_ways (concat r s) = rw ways_concat (beside (then s (first_ways r)) (under (nullable r) (first_ways s)))
first_ways (alt r s) = rw ways_alt (beside (first_ways r) (first_ways s))
first_ways (star r) = rw ways_star (then (star r) (first_ways r))

-- The ways to read on behind a position of r are the positions that may follow it.
abbrev Follows : Pattern → Type 0
Follows r = (p : ℕ) → p < positions r → WaysAt (heads (rest_at r p)) (positions r) (follow_at r p) (head_at r)

-- the same for each kind of pattern, from its children
follow_word : (w : Text) → Follows (word w)
unfolding heads positions rest_at follow_at
follow_word w p h =
    word_ways
    w
    (p + 1)
    (follow_at (word w) p)
    (λ l. and_of (eqb (p + 1) (p + 1)) (ltb (p + 1) (length w)) (eq-eqb (p + 1) (p + 1) refl) (lt-ltb (p + 1) (length w) l))
    (λ q e. eqb-true q (p + 1) (and_both (eqb q (p + 1)) (ltb q (length w)) e).0)

follow_class : (c : Class) → Follows (one_of c)
unfolding heads rest_at follow_at
follow_class c p h = none (λ q e l. false≢true e)

-- of two patterns, s the second: none of the first's positions follows one of s
follow_two :
    (n : ℕ) (s : Pattern) (rest : ℕ → Pattern) (may : ℕ → ℕ → Bool) (way : ℕ → Head)
    → ((p : ℕ) → p < n → WaysAt (heads (rest p)) (n + positions s) (may p) (split n way (head_at s)))
    → Follows s
    → (p : ℕ)
    → p < n + positions s
    → WaysAt
    (heads (split n rest (rest_at s) p))
    (n + positions s)
    (λ q. split n (λ i. may i q) (λ i. split n (λ j. false) (follow_at s i) q) p)
    (split n way (head_at s))
follow_two n s rest may way left right p h =
    halves
    n
    (positions s)
    p
    h
    (λ k. simp split_left (left p k))
    (λ q k e. rw e (simp split_right (beside (none (λ j a l. false≢true a)) (right q k))))

follow_concat : (r s : Pattern) → Follows r → Follows s → Follows (concat r s)
unfolding heads positions rest_at follow_at
follow_concat r s left right =
    rw
    ways_concat
    (follow_two
    (positions r)
    s
    (λ q. concat (rest_at r q) s)
    (λ i. split (positions r) (follow_at r i) (λ j. last_at r i && first_at s j))
    (λ q. before s (head_at r q))
    (λ i k. rw (nullable_rest r i k) (beside (then s (left i k)) (under (last_at r i) (first_ways s))))
    right)

follow_alt : (r s : Pattern) → Follows r → Follows s → Follows (alt r s)
unfolding positions rest_at follow_at
follow_alt r s left right =
    rw
    ways_alt
    (follow_two
    (positions r)
    s
    (rest_at r)
    (λ i. split (positions r) (follow_at r i) (λ j. false))
    (head_at r)
    (λ i k. rw (← append-nil (heads (rest_at r i))) (beside (left i k) (none (λ j a l. false≢true a))))
    right)

follow_star : (r : Pattern) → Follows r → Follows (star r)
unfolding heads positions rest_at follow_at
follow_star r follow p h =
    rw
    (ways_star, nullable_rest r p h)
    (both (then (star r) (follow p h)) (under (last_at r p) (then (star r) (first_ways r))))

-- and so for every pattern
follow_ways : (r : Pattern) → Follows r
follow_ways (word w) = follow_word w
follow_ways (one_of c) = follow_class c
follow_ways (concat r s) = follow_concat r s (follow_ways r) (follow_ways s)
follow_ways (alt r s) = follow_alt r s (follow_ways r) (follow_ways s)
follow_ways (star r) = follow_star r (follow_ways r)

-- where the ways to read a first byte in k are positions of r, a text of k is read by one of them
by_ways :
    (k r : Pattern) (may : ℕ → Bool)
    → WaysAt (heads k) (positions r) may (head_at r)
    → (c : ℕ) (t : Text)
    → In k (c ∷ t) ↔ ReadsAt r may c t
unfolding stands_at head_at
by_ways k r may ways c t = (
  λ i.
      let (h, m, e, j) = in_head k c t i in
      let (p, l, a, w) = ways.found h m in
      record { position = p; in_pattern = l; allowed = a; stands = rw w at e; rest_in = rw w at j },
  λ x. head_in k (head_at r x.position) c t (ways.listed x.position x.in_pattern x.allowed) x.stands x.rest_in,
)

-- a text begins at a position at which it can begin
pub first_law : (r : Pattern) (c : ℕ) (t : Text) → In r (c ∷ t) ↔ ReadsAt r (first_at r) c t
first_law r = by_ways r r (first_at r) (first_ways r)

-- and goes on behind a position at one that may follow
pub follow_law : (r : Pattern) (p : ℕ) → p < positions r → (c : ℕ) (t : Text) → In (rest_at r p) (c ∷ t) ↔ ReadsAt r (follow_at r p) c t
follow_law r p h = by_ways (rest_at r p) r (follow_at r p) (follow_ways r p h)

-- ---- Nothing beyond the positions begins, ends or follows

-- where the second test is true only below m, the split is true only below n + m
split_within : (n m : ℕ) (f g : ℕ → Bool) → ((q : ℕ) → g q ≡ true → q < m) → (p : ℕ) → split n f g p ≡ true → p < n + m
unfolding split
split_within n m f g right p e = go (ltb p n) refl e
  where
    go : (b : Bool) → ltb p n ≡ b → cond b (f p) (g (p - n)) ≡ true → p < n + m
    go true a e = omega (arith, ltb-true p n a)
    go false a e = omega (arith, right (p - n) e)

pub first_within : (r : Pattern) (p : ℕ) → first_at r p ≡ true → p < positions r
unfolding first_at positions
first_within (word w) p e =
    let h = and_both (eqb p 0) (ltb 0 (length w)) e in
    omega (arith, eqb-true p 0 h.0, ltb-true 0 (length w) h.1)
first_within (one_of c) p e = omega (arith, eqb-true p 0 e)
first_within (concat r s) p e =
    split_within
    (positions r)
    (positions s)
    (first_at r)
    (λ q. nullable r && first_at s q)
    (λ q h. first_within s q (and_both (nullable r) (first_at s q) h).1)
    p
    e
first_within (alt r s) p e = split_within (positions r) (positions s) (first_at r) (first_at s) (first_within s) p e
first_within (star r) p e = first_within r p e

pub last_within : (r : Pattern) (p : ℕ) → last_at r p ≡ true → p < positions r
unfolding last_at positions
last_within (word w) p e = omega (arith, eqb-true (p + 1) (length w) e)
last_within (one_of c) p e = omega (arith, eqb-true p 0 e)
last_within (concat r s) p e =
    split_within (positions r) (positions s) (λ q. nullable s && last_at r q) (last_at s) (last_within s) p e
last_within (alt r s) p e = split_within (positions r) (positions s) (last_at r) (last_at s) (last_within s) p e
last_within (star r) p e = last_within r p e

-- the same of what may follow in two patterns, where `first` and `second` say what may follow in each and `cross` from one to the other
two_within :
    (n m : ℕ) (first cross second : ℕ → ℕ → Bool)
    → ((i j : ℕ) → cross i j ≡ true → j < m)
    → ((i j : ℕ) → second i j ≡ true → j < m)
    → (p q : ℕ)
    → split n (λ i. split n (first i) (cross i) q) (λ i. split n (λ j. false) (second i) q) p ≡ true
    → q < n + m
two_within n m first cross second over within p q =
    split_either
    n
    (λ i. split n (first i) (cross i) q)
    (λ i. split n (λ j. false) (second i) q)
    (λ b. b ≡ true → q < n + m)
    (λ i. split_within n m (first i) (cross i) (over i) q)
    (λ i. split_within n m (λ j. false) (second i) (within i) q)
    p

pub follow_within : (r : Pattern) (p q : ℕ) → follow_at r p q ≡ true → q < positions r
unfolding follow_at positions
follow_within (word w) p q e = ltb-true q (length w) (and_both (eqb q (p + 1)) (ltb q (length w)) e).1
follow_within (one_of c) p q e = absurd (false≢true e)
follow_within (concat r s) p q e =
    two_within
    (positions r)
    (positions s)
    (follow_at r)
    (λ i j. last_at r i && first_at s j)
    (follow_at s)
    (λ i j h. first_within s j (and_both (last_at r i) (first_at s j) h).1)
    (follow_within s)
    p
    q
    e
follow_within (alt r s) p q e =
    two_within (positions r) (positions s) (follow_at r) (λ i j. false) (follow_at s) (λ i j h. absurd (false≢true h)) (follow_within s) p q e
follow_within (star r) p q e =
    ⊎_elim
    (follow_within r p q)
    (λ h. first_within r q (and_both (last_at r p) (first_at r q) h).1)
    (or_either (follow_at r p q) (last_at r p && first_at r q) e)
