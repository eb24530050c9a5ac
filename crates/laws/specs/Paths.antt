-- A path through the position automaton of a pattern: the positions at which the bytes of a text are read, one for each byte. Where the
-- pattern stands inside a larger one, its positions are numbered from `base` on. The least path takes at each byte the lowest position from
-- which the rest of the text can be read; all that the text is cut into can be read off it, constructor by constructor.
use Rattle.std.specs.Prelude.{◌≡◌, refl, Bool, true, false, ◌&&◌, ◌||◌, cond, List, [], ◌∷◌, ℕ, suc, ◌+◌, ◌-◌, ◌≤◌, ◌<◌, ltb, length, take, drop}
use Rattle.std.proofs.Common.{sym, ap, ◌∙◌, ⊎_elim, not-suc-le-zero, arith, take-append-drop, ltb-true, ltb-false}
use Rattle.std.proofs.lemmas.Bool.{false≢true}
use Rattle.semantics.specs.Text.{Text}
use Rattle.semantics.specs.Pattern.{Class, Pattern, concat, alt, star, In, nullable}
use Rattle.semantics.specs.Table.{positions}
use Rattle.laws.specs.Basics.{bool_cases, not_both, and_both, and_of, or_either, or_left, or_right, cond_true, cond_false}
use Rattle.laws.specs.Membership.{nullable_in, in_nullable}
use Rattle.laws.specs.PositionAutomaton.{
  split,
  class_at,
  stands_at,
  first_at,
  last_at,
  follow_at,
  rest_at,
  ReadsAt,
  halves,
  split_left,
  split_right,
  last_law,
  first_law,
  follow_law,
}

-- Byte c is read at q, one of the positions that `may` allows; t comes behind it. From no lower one of them could c and then t be read.
pub record LeastStep (r : Pattern) (base : ℕ) (may : ℕ → Bool) (q c : ℕ) (t : Text) : Type 0 where
  pub place : ℕ
  pub place_is : q ≡ base + place
  pub in_pattern : place < positions r
  pub allowed : may place ≡ true
  pub stands : stands_at r place c ≡ true
  pub lowest : (p : ℕ) → p < place → may p ≡ true → stands_at r p c ≡ true → ¬ In (rest_at r p) t

-- The path reads the text from where it may begin at one of the positions that `may` allows, and may end at once if `ends`.
abbrev pub LeastFrom : Pattern → ℕ → Bool → (ℕ → Bool) → List ℕ → Text → Type 0
LeastFrom r base ends may [] [] = ends ≡ true
LeastFrom r base ends may [] (c ∷ t) = ⊥
LeastFrom r base ends may (q ∷ path) [] = ⊥
LeastFrom r base ends may (q ∷ path) (c ∷ t) =
    (s : LeastStep r base may q c t) × LeastFrom r base (last_at r s.place) (follow_at r s.place) path t

-- The least path of a text of the pattern.
pub record LeastPath (r : Pattern) (base : ℕ) (path : List ℕ) (t : Text) : Type 0 where
  pub steps : LeastFrom r base (nullable r) (first_at r) path t

-- ---- What is read off a path

-- how many positions at its front are below n: where a join is cut
unfoldable pub border : ℕ → List ℕ → ℕ
border n [] = 0
border n (q ∷ path) = cond (ltb q n) (suc (border n path)) 0

-- whether the path of a union goes by the left arm, whose positions are those below n; `empty` tells whether that arm holds the empty text
unfoldable pub goes_left : ℕ → Bool → List ℕ → Bool
goes_left n empty [] = empty
goes_left n empty (q ∷ path) = ltb q n

-- how many positions stand behind p up to the first step from a last position to a first one
unfoldable pub until_loop : (ℕ → Bool) → (ℕ → Bool) → ℕ → List ℕ → ℕ
until_loop last first p [] = 0
until_loop last first p (q ∷ path) = cond (last p && first q) 0 (suc (until_loop last first q path))

-- the length of the first part of a repeat, up to the first such step
unfoldable pub first_loop : (ℕ → Bool) → (ℕ → Bool) → List ℕ → ℕ
first_loop last first [] = 0
first_loop last first (p ∷ path) = suc (until_loop last first p path)

-- ---- Bounds

-- a join is cut within its path
pub border_within : (n : ℕ) (path : List ℕ) → border n path ≤ length path
unfolding border
border_within n [] = omega arith
border_within n (q ∷ path) = go (ltb q n) (border_within n path)
  where
    go : (b : Bool) → border n path ≤ length path → cond b (suc (border n path)) 0 ≤ suc (length path)
    go true h = omega arith
    go false h = omega arith

-- the loop is found within the positions behind p
until_within : (last first : ℕ → Bool) (p : ℕ) (path : List ℕ) → until_loop last first p path ≤ length path
unfolding until_loop
until_within last first p [] = omega arith
until_within last first p (q ∷ path) = go (last p && first q) (until_within last first q path)
  where
    go : (b : Bool) → until_loop last first q path ≤ length path → cond b 0 (suc (until_loop last first q path)) ≤ suc (length path)
    go true h = omega arith
    go false h = omega arith

-- so a repeat is cut within its path
pub loop_within : (last first : ℕ → Bool) (path : List ℕ) → first_loop last first path ≤ length path
unfolding first_loop
loop_within last first [] = omega arith
loop_within last first (p ∷ path) = omega (arith, until_within last first p path)

-- and not at its begin
pub loop_some : (last first : ℕ → Bool) (path : List ℕ) → 0 < length path → 0 < first_loop last first path
unfolding first_loop
loop_some last first [] h = h
loop_some last first (p ∷ path) h = omega arith

-- ---- What a path reads

-- a path from anywhere has a position for each byte
from_length :
    (r : Pattern) (base : ℕ) (ends : Bool) (may : ℕ → Bool) (path : List ℕ) (t : Text)
    → LeastFrom r base ends may path t
    → length path ≡ length t
from_length r base ends may [] [] l = refl
from_length r base ends may [] (c ∷ t) l = absurd l
from_length r base ends may (q ∷ path) [] l = absurd l
from_length r base ends may (q ∷ path) (c ∷ t) (step, later) =
    ap suc (from_length r base (last_at r step.place) (follow_at r step.place) path t later)

-- a path has a position for each byte
pub least_length : {r : Pattern} {base : ℕ} {path : List ℕ} {t : Text} → LeastPath r base path t → length path ≡ length t
least_length {r} {base} {path} {t} l = from_length r base (nullable r) (first_at r) path t l.steps

-- where k holds all that is read from the positions allowed, and the empty text if the path may end, it holds the text of the path
from_in :
    (r : Pattern) (base : ℕ) (ends : Bool) (may : ℕ → Bool) (k : Pattern)
    → (ends ≡ true → In k [])
    → ((c : ℕ) (t : Text) → ReadsAt r may c t → In k (c ∷ t))
    → (path : List ℕ) (t : Text)
    → LeastFrom r base ends may path t
    → In k t
from_in r base ends may k empty reads [] [] l = empty l
from_in r base ends may k empty reads [] (c ∷ t) l = absurd l
from_in r base ends may k empty reads (q ∷ path) [] l = absurd l
from_in r base ends may k empty reads (q ∷ path) (c ∷ t) (step, later) =
    let p = step.place in
    let h = step.in_pattern in
    let rest = from_in r base (last_at r p) (follow_at r p) (rest_at r p) (last_law r p h).1 (λ d u. (follow_law r p h d u).1) path t later in
    reads c t record { position = p; in_pattern = h; allowed = step.allowed; stands = step.stands; rest_in = rest }

-- a text that has a path belongs
pub least_in : {r : Pattern} {base : ℕ} {path : List ℕ} {t : Text} → LeastPath r base path t → In r t
least_in {r} {base} {path} {t} l =
    from_in r base (nullable r) (first_at r) r (nullable_in r) (λ c u. (first_law r c u).1) path t l.steps

-- ---- A pattern inside another: position p of the part is position `to p` of the whole

-- At each position of the part the same bytes stand as in the whole.
abbrev SameBytes : Pattern → Pattern → (ℕ → ℕ) → Type 0
SameBytes whole part to = (p c : ℕ) → p < positions part → stands_at whole (to p) c ≡ stands_at part p c

-- A byte read in the whole with t behind it may be read in the part with u behind it: the same bytes stand at the part's positions, the
-- whole allows those that the part allows, and what makes u a text behind one of them in the part makes t one in the whole.
record StepIn (whole part : Pattern) (to : ℕ → ℕ) (may may' : ℕ → Bool) (t u : Text) : Type 0 where
  same : SameBytes whole part to
  more : (p : ℕ) → p < positions part → may' p ≡ true → may (to p) ≡ true
  rest : (p : ℕ) → p < positions part → In (rest_at part p) u → In (rest_at whole (to p)) t

-- so a step of the whole at a position of the part is a step of the part
abbrev step_in :
    {whole part : Pattern} {to : ℕ → ℕ} {base base' : ℕ} {may may' : ℕ → Bool} {q c : ℕ} {t u : Text}
    → StepIn whole part to may may' t u
    → ((p : ℕ) → base' + p ≡ base + to p)
    → (step : LeastStep whole base may q c t) (p : ℕ)
    → step.place ≡ to p
    → p < positions part
    → may' p ≡ true
    → LeastStep part base' may' q c u
step_in {part = part} {to = to} {c = c} inside shift step p e h allowed =
    record {
      place = p;
      place_is = omega (arith, step.place_is, shift p);
      in_pattern = h;
      allowed = allowed;
      stands = sym (inside.same p c h) ∙ rw (← e) step.stands;
      lowest =
          λ j l a x i.
          let k : j < positions part = omega arith in
          step.lowest (to j) (omega (arith, shift j, shift p)) (inside.more j k a) (inside.same j c k ∙ x) (inside.rest j k i);
    }

-- The part is closed in the whole: its positions have the same rests, ends and followers there, and no other position follows them.
record Inside (whole part : Pattern) (to : ℕ → ℕ) : Type 0 where
  same : SameBytes whole part to
  rest : (p : ℕ) → p < positions part → rest_at whole (to p) ≡ rest_at part p
  last : (p : ℕ) → p < positions part → last_at whole (to p) ≡ last_at part p
  follow : (p q : ℕ) → p < positions part → q < positions part → follow_at whole (to p) (to q) ≡ follow_at part p q
  closed :
      (p q : ℕ)
      → p < positions part
      → q < positions whole
      → follow_at whole (to p) q ≡ true
      → (j : ℕ) × (q ≡ to j) × (j < positions part)

-- a step of the whole at a position of a closed part is a step of the part, where both allow the same positions of the part
abbrev closed_step :
    {whole part : Pattern} {to : ℕ → ℕ} {base base' : ℕ} {may may' : ℕ → Bool} {q c : ℕ} {t : Text}
    → Inside whole part to
    → ((p : ℕ) → base' + p ≡ base + to p)
    → ((p : ℕ) → p < positions part → may (to p) ≡ may' p)
    → (step : LeastStep whole base may q c t) (p : ℕ)
    → step.place ≡ to p
    → p < positions part
    → LeastStep part base' may' q c t
closed_step {may = may} inside shift agree step p e h =
    step_in
    record { same = inside.same; more = λ j k a. agree j k ∙ a; rest = λ j k i. rw (inside.rest j k) i }
    shift
    step
    p
    e
    h
    (sym (agree p h) ∙ ap may (sym e) ∙ step.allowed)

-- and a path of the whole from a position of a closed part is a path of the part
closed_from :
    {whole part : Pattern} {to : ℕ → ℕ} (base base' : ℕ)
    → Inside whole part to
    → ((p : ℕ) → base' + p ≡ base + to p)
    → (i p : ℕ)
    → i ≡ to p
    → p < positions part
    → (path : List ℕ) (t : Text)
    → LeastFrom whole base (last_at whole i) (follow_at whole i) path t
    → LeastFrom part base' (last_at part p) (follow_at part p) path t
closed_from {whole} base base' inside shift i p e h [] [] l = sym (inside.last p h) ∙ ap (last_at whole) (sym e) ∙ l
closed_from base base' inside shift i p e h [] (c ∷ t) l = absurd l
closed_from base base' inside shift i p e h (q ∷ path) [] l = absurd l
closed_from {whole} {to = to} base base' inside shift i p e h (q ∷ path) (c ∷ t) (step, later) =
    let (j, z, k) = inside.closed p step.place h step.in_pattern (rw e at step.allowed) in (
      closed_step inside shift (λ x l. ap (λ y. follow_at whole y (to x)) e ∙ inside.follow p x h l) step j z k,
      closed_from base base' inside shift step.place j z k path t later,
    )

-- the second of two patterns is closed in a whole that splits at the first one's positions
second_inside :
    {whole s : Pattern} (n : ℕ) (class : ℕ → Class) (rest : ℕ → Pattern) (last : ℕ → Bool) (follow : ℕ → ℕ → Bool)
    → positions whole ≡ n + positions s
    → ((p : ℕ) → class_at whole p ≡ split n class (class_at s) p)
    → ((p : ℕ) → rest_at whole p ≡ split n rest (rest_at s) p)
    → ((p : ℕ) → last_at whole p ≡ split n last (last_at s) p)
    → ((p q : ℕ) → follow_at whole p q ≡ split n (λ i. follow i q) (λ i. split n (λ j. false) (follow_at s i) q) p)
    → Inside whole s (λ p. n + p)
unfolding stands_at
second_inside {whole} {s} n class rest last follow size classes rests lasts follows =
    record {
      same = λ p c h. simp (classes, split_right);
      rest = λ p h. rests (n + p) ∙ split_right n rest (rest_at s) p;
      last = λ p h. lasts (n + p) ∙ split_right n last (last_at s) p;
      follow = λ p q h k. simp (follows, split_right);
      closed =
          λ p q h k e.
          halves
          n
          (positions s)
          q
          (omega arith)
          (λ l. let z : false ≡ true = simp (follows, split_right, split_left) at e in absurd (false≢true z))
          (λ j l x. (j, x, l));
    }

-- so is the second half of a join, the second arm of a union, and the first
join_second : (r s : Pattern) → Inside (concat r s) s (λ p. positions r + p)
unfolding positions class_at rest_at last_at follow_at
join_second r s =
    second_inside
    (positions r)
    (class_at r)
    (λ q. concat (rest_at r q) s)
    (λ q. nullable s && last_at r q)
    (λ i. split (positions r) (follow_at r i) (λ j. last_at r i && first_at s j))
    refl
    (λ p. refl)
    (λ p. refl)
    (λ p. refl)
    (λ p q. refl)

union_second : (r s : Pattern) → Inside (alt r s) s (λ p. positions r + p)
unfolding positions class_at rest_at last_at follow_at
union_second r s =
    second_inside
    (positions r)
    (class_at r)
    (rest_at r)
    (last_at r)
    (λ i. split (positions r) (follow_at r i) (λ j. false))
    refl
    (λ p. refl)
    (λ p. refl)
    (λ p. refl)
    (λ p q. refl)

union_first : (r s : Pattern) → Inside (alt r s) r (λ p. p)
unfolding positions stands_at class_at rest_at last_at follow_at
union_first r s =
    record {
      same = λ p c h. simp split_left;
      rest = λ p h. split_left (positions r) (rest_at r) (rest_at s) p h;
      last = λ p h. split_left (positions r) (last_at r) (last_at s) p h;
      follow = λ p q h k. simp split_left;
      closed =
          λ p q h k e.
          halves
          (positions r)
          (positions s)
          q
          k
          (λ l. (q, refl, l))
          (λ j l x. let z : false ≡ true = simp (x, split_right, split_left) at e in absurd (false≢true z));
    }

-- ---- Unions

-- the path of a union that goes left is a path of the left arm
union_left :
    (r s : Pattern) (base : ℕ) (path : List ℕ) (t : Text)
    → LeastFrom (alt r s) base (nullable (alt r s)) (first_at (alt r s)) path t
    → goes_left (base + positions r) (nullable r) path ≡ true
    → LeastFrom r base (nullable r) (first_at r) path t
unfolding goes_left first_at
union_left r s base [] [] l g = g
union_left r s base [] (c ∷ t) l g = absurd l
union_left r s base (q ∷ path) [] l g = absurd l
union_left r s base (q ∷ path) (c ∷ t) (step, later) g =
    let h : step.place < positions r = omega (arith, ltb-true q (base + positions r) g, step.place_is) in (
      closed_step (union_first r s) (λ p. refl) (split_left (positions r) (first_at r) (first_at s)) step step.place refl h,
      closed_from base base (union_first r s) (λ p. refl) step.place step.place refl h path t later,
    )

-- and one that does not is a path of the right arm, and the left arm does not hold its text
union_right :
    (r s : Pattern) (base : ℕ) (path : List ℕ) (t : Text)
    → LeastFrom (alt r s) base (nullable (alt r s)) (first_at (alt r s)) path t
    → goes_left (base + positions r) (nullable r) path ≡ false
    → LeastFrom s (base + positions r) (nullable s) (first_at s) path t × (¬ In r t)
unfolding goes_left first_at nullable positions
union_right r s base [] [] l g =
    (⊎_elim (λ e. absurd (not_both e g)) (λ e. e) (or_either (nullable r) (nullable s) l), λ i. not_both (in_nullable r i) g)
union_right r s base [] (c ∷ t) l g = absurd l
union_right r s base (q ∷ path) [] l g = absurd l
union_right r s base (q ∷ path) (c ∷ t) (step, later) g =
    let n = positions r in
    let j = step.place - n in
    let h : n ≤ step.place = omega (arith, ltb-false q (base + n) g, step.place_is) in
    let e : step.place ≡ n + j = omega arith in
    let k : j < positions s = omega (arith, step.in_pattern) in
    let shift : (p : ℕ) → (base + n) + p ≡ base + (n + p) = λ p. omega arith in (
      (
        closed_step (union_second r s) shift (λ p l. split_right n (first_at r) (first_at s) p) step j e k,
        closed_from base (base + n) (union_second r s) shift step.place j e k path t later,
      ),
      λ i.
          let x = (first_law r c t).0 i in
          let p = x.position in
          let l = x.in_pattern in
          step.lowest
          p
          (omega arith)
          (split_left n (first_at r) (first_at s) p l ∙ x.allowed)
          ((union_first r s).same p c l ∙ x.stands)
          (rw ((union_first r s).rest p l) x.rest_in),
    )

-- the path of a union goes left exactly if the left arm holds the text
pub least_left :
    {r s : Pattern} {base : ℕ} {path : List ℕ} {t : Text} → LeastPath (alt r s) base path t
    → goes_left (base + positions r) (nullable r) path ≡ true → LeastPath r base path t
least_left {r} {s} {base} {path} {t} l g = record { steps = union_left r s base path t l.steps g }

pub least_right :
    {r s : Pattern} {base : ℕ} {path : List ℕ} {t : Text} → LeastPath (alt r s) base path t
    → goes_left (base + positions r) (nullable r) path ≡ false → LeastPath s (base + positions r) path t × (¬ In r t)
least_right {r} {s} {base} {path} {t} l g =
    let (steps, not) = union_right r s base path t l.steps g in
    (record { steps = steps }, not)

-- ---- Joins and repeats: the path is cut

-- The first i positions read the first i bytes, as a path of r from where it may begin by `may`; the others read the others, in s.
abbrev Cut : Pattern → ℕ → Bool → (ℕ → Bool) → Pattern → ℕ → List ℕ → Text → ℕ → Type 0
Cut r base ends may s base' path t i = LeastFrom r base ends may (take i path) (take i t) × LeastPath s base' (drop i path) (drop i t)

-- The whole begins with r, and s comes behind it.
record Begins (whole r s : Pattern) : Type 0 where
  same : SameBytes whole r (λ p. p)
  rest : (p : ℕ) → p < positions r → rest_at whole p ≡ concat (rest_at r p) s

-- so a join begins with its first half, and a repeat with a part, behind which the repeat comes again
join_begins : (r s : Pattern) → Begins (concat r s) r s
unfolding stands_at class_at rest_at
join_begins r s =
    record { same = λ p c h. simp split_left; rest = split_left (positions r) (λ q. concat (rest_at r q) s) (rest_at s) }

repeat_begins : (r : Pattern) → Begins (star r) r (star r)
unfolding stands_at class_at rest_at
repeat_begins r = record { same = λ p c h. refl; rest = λ p h. refl }

-- two texts side by side belong to a join
in_join : (r s : Pattern) (i : ℕ) (t : Text) → In r (take i t) → In s (drop i t) → In (concat r s) t
unfolding In
in_join r s i t left right = (take i t, drop i t, sym (take-append-drop i t), left, right)

-- so a byte may be read in r with the first i bytes behind it, where the others belong to s
begin_step :
    {whole r s : Pattern} {may may' : ℕ → Bool} {t : Text} (i : ℕ)
    → Begins whole r s
    → ((p : ℕ) → p < positions r → may' p ≡ true → may p ≡ true)
    → In s (drop i t)
    → StepIn whole r (λ p. p) may may' t (take i t)
begin_step {r = r} {s = s} {t = t} i begins more right =
    record { same = begins.same; more = more; rest = λ p k x. rw (begins.rest p k) (in_join (rest_at r p) s i t x right) }

-- where a path is cut behind one of r's positions, it is cut one later from before that position
cut_step :
    {whole r s : Pattern} {base : ℕ} {may may' : ℕ → Bool} {q c : ℕ} {t : Text} (ends : Bool) (base' : ℕ) (path : List ℕ) (i : ℕ)
    → Begins whole r s
    → ((p : ℕ) → p < positions r → may' p ≡ true → may p ≡ true)
    → (step : LeastStep whole base may q c t)
    → step.place < positions r
    → may' step.place ≡ true
    → Cut r base (last_at r step.place) (follow_at r step.place) s base' path t i
    → Cut r base ends may' s base' (q ∷ path) (c ∷ t) (suc i)
cut_step ends base' path i begins more step h allowed (left, right) =
    ((step_in (begin_step i begins more (least_in right)) (λ p. refl) step step.place refl h allowed, left), right)

-- the border is behind a position below it, and before one that is not
border_in : (n q : ℕ) (path : List ℕ) → ltb q n ≡ true → border n (q ∷ path) ≡ suc (border n path)
unfolding border
border_in n q path e = cond_true (ltb q n) (suc (border n path)) 0 e

border_out : (n q : ℕ) (path : List ℕ) → ltb q n ≡ false → border n (q ∷ path) ≡ 0
unfolding border
border_out n q path e = cond_false (ltb q n) (suc (border n path)) 0 e

-- The path of a join may end, and goes on, as one does that stands in the first half, where it may end and goes on by the dashed ones.
record InFirst (r s : Pattern) (ends : Bool) (may : ℕ → Bool) (ends' : Bool) (may' : ℕ → Bool) : Type 0 where
  both : ends ≡ true → (ends' ≡ true) × (nullable s ≡ true)
  on : (q : ℕ) → may q ≡ split (positions r) may' (λ j. ends' && first_at s j) q

-- so it does at its begin
first_begin : (r s : Pattern) → InFirst r s (nullable (concat r s)) (first_at (concat r s)) (nullable r) (first_at r)
unfolding nullable first_at
first_begin r s = record { both = and_both (nullable r) (nullable s); on = λ q. refl }

-- and behind each position of the first half
first_behind :
    (r s : Pattern) (p : ℕ)
    → p < positions r
    → InFirst r s (last_at (concat r s) p) (follow_at (concat r s) p) (last_at r p) (follow_at r p)
unfolding last_at follow_at
first_behind r s p h =
    let n = positions r in
    record {
      both =
          λ e.
          let (second, first) = and_both (nullable s) (last_at r p) (sym (split_left n (λ q. nullable s && last_at r q) (last_at s) p h) ∙ e) in
          (first, second);
      on =
          λ q.
          split_left
          n
          (λ i. split n (follow_at r i) (λ j. last_at r i && first_at s j) q)
          (λ i. split n (λ j. false) (follow_at s i) q)
          p
          h;
    }

-- a path of a join that goes on at a position of the second half is one of that half, and the first half may end before it
join_over :
    {r s : Pattern} {base : ℕ} {ends : Bool} {may : ℕ → Bool} {ends' : Bool} {may' : ℕ → Bool} {q c : ℕ} {t : Text} (path : List ℕ)
    → InFirst r s ends may ends' may'
    → (step : LeastStep (concat r s) base may q c t)
    → positions r ≤ step.place
    → LeastFrom (concat r s) base (last_at (concat r s) step.place) (follow_at (concat r s) step.place) path t
    → (ends' ≡ true) × LeastPath s (base + positions r) (q ∷ path) (c ∷ t)
unfolding positions
join_over {r} {s} {base} {may = may} {ends' = ends'} {may' = may'} {t = t} path at_first step h later =
    let n = positions r in
    let j = step.place - n in
    let e : step.place ≡ n + j = omega arith in
    let k : j < positions s = omega (arith, step.in_pattern) in
    let on : (p : ℕ) → may (n + p) ≡ (ends' && first_at s p) = λ p. at_first.on (n + p) ∙ split_right n may' (λ x. ends' && first_at s x) p in
    let z = (and_both ends' (first_at s j) (sym (on j) ∙ ap may (sym e) ∙ step.allowed)).0 in
    let shift : (p : ℕ) → (base + n) + p ≡ base + (n + p) = λ p. omega arith in (
      z,
      record {
        steps = (
          closed_step (join_second r s) shift (λ p l. on p ∙ ap (λ b. b && first_at s p) z) step j e k,
          closed_from base (base + n) (join_second r s) shift step.place j e k path t later,
        );
      },
    )

-- the path of a join from anywhere in its first half is cut at the border
join_from :
    {r s : Pattern} {ends : Bool} {may : ℕ → Bool} {ends' : Bool} {may' : ℕ → Bool} (base : ℕ)
    → InFirst r s ends may ends' may'
    → (path : List ℕ) (t : Text)
    → LeastFrom (concat r s) base ends may path t
    → Cut r base ends' may' s (base + positions r) path t (border (base + positions r) path)
unfolding border
join_from base at_first [] [] l = let (first, second) = at_first.both l in (first, record { steps = second })
join_from base at_first [] (c ∷ t) l = absurd l
join_from base at_first (q ∷ path) [] l = absurd l
join_from {r} {s} {ends = ends} {may = may} {ends' = ends'} {may' = may'} base at_first (q ∷ path) (c ∷ t) (step, later) =
    let n = positions r in
    let p = step.place in
    let on : (x : ℕ) → x < n → _ ≡ may' x = λ x h. at_first.on x ∙ split_left n may' (λ j. ends' && first_at s j) x h in
    ⊎_elim
    (λ e.
    let h : p < n = omega (arith, ltb-true q (base + n) e, step.place_is) in
    let behind = join_from {ends = last_at (concat r s) p} {may = follow_at (concat r s) p} base (first_behind r s p h) path t later in
    let allowed = sym (on p h) ∙ step.allowed in
    rw
    (border_in (base + n) q path e)
    (cut_step ends' (base + n) path (border (base + n) path) (join_begins r s) (λ x l a. on x l ∙ a) step h allowed behind))
    (λ e.
    let h : n ≤ p = omega (arith, ltb-false q (base + n) e, step.place_is) in
    rw (border_out (base + n) q path e) (join_over path at_first step h later))
    (bool_cases (ltb q (base + n)))

-- the path of a join is cut where the second half's positions begin
pub least_join :
    {r s : Pattern} {base : ℕ} {path : List ℕ} {t : Text} → LeastPath (concat r s) base path t
    → let i = border (base + positions r) path in
    LeastPath r base (take i path) (take i t) × LeastPath s (base + positions r) (drop i path) (drop i t)
least_join {r} {s} {base} {path} {t} l =
    let (left, right) = join_from base (first_begin r s) path t l.steps in
    (record { steps = left }, right)

-- the loop is before a first position behind a last one, and behind all others
loop_here : (last first : ℕ → Bool) (p q : ℕ) (path : List ℕ) → last p && first q ≡ true → until_loop last first p (q ∷ path) ≡ 0
unfolding until_loop
loop_here last first p q path e = cond_true (last p && first q) 0 (suc (until_loop last first q path)) e

loop_later :
    (last first : ℕ → Bool) (p q : ℕ) (path : List ℕ)
    → last p && first q ≡ false
    → until_loop last first p (q ∷ path) ≡ suc (until_loop last first q path)
unfolding until_loop
loop_later last first p q path e = cond_false (last p && first q) 0 (suc (until_loop last first q path)) e

-- of two tests one is true, and it is not the second
or_other : (a b : Bool) → a || b ≡ true → b ≡ false → a ≡ true
or_other a b e f = ⊎_elim (λ h. h) (λ h. absurd (not_both h f)) (or_either a b e)

-- behind its position p a repeat goes on where its part does
stays : (r : Pattern) (p y : ℕ) → y < positions r → follow_at r p y ≡ true → follow_at (star r) p y ≡ true
unfolding follow_at
stays r p y l e = or_left (follow_at r p y) (last_at r p && first_at r y) e

-- and, where the part may end at p, also where the repeat begins
again : (r : Pattern) (p : ℕ) (t : Text) → last_at r p ≡ true → StepIn (star r) (star r) (λ y. y) (follow_at (star r) p) (first_at (star r)) t t
unfolding follow_at first_at
again r p t z =
    record {
      same = λ y c l. refl;
      more = λ y l e. or_right (follow_at r p y) (last_at r p && first_at r y) (and_of (last_at r p) (first_at r y) z e);
      rest = λ y l i. i;
    }

-- `last` and `first` tell the last and the first positions, as positions from base on.
record Tells (r : Pattern) (base : ℕ) (last first : ℕ → Bool) : Type 0 where
  lasts : (p : ℕ) → p < positions r → last (base + p) ≡ last_at r p
  firsts : (p : ℕ) → p < positions r → first (base + p) ≡ first_at r p

-- the path of a repeat from behind its position p, which is x from base on, is cut at the first loop
repeat_from :
    {r : Pattern} {base : ℕ} {last first : ℕ → Bool}
    → Tells r base last first
    → (x p : ℕ)
    → x ≡ base + p
    → p < positions r
    → (path : List ℕ) (t : Text)
    → LeastFrom (star r) base (last_at (star r) p) (follow_at (star r) p) path t
    → Cut r base (last_at r p) (follow_at r p) (star r) base path t (until_loop last first x path)
unfolding positions nullable first_at last_at follow_at until_loop
repeat_from tells x p e h [] [] l = (l, record { steps = refl })
repeat_from tells x p e h [] (c ∷ t) l = absurd l
repeat_from tells x p e h (q ∷ path) [] l = absurd l
repeat_from {r} {base} {last} {first} tells x p e h (q ∷ path) (c ∷ t) (step, later) =
    let j = step.place in
    let k = step.in_pattern in
    let loops : last x && first q ≡ (last_at r p && first_at r j) = rw (e, step.place_is, tells.lasts p h, tells.firsts j k) in
    ⊎_elim
    (λ b.
    let (z, a) = and_both (last_at r p) (first_at r j) (sym loops ∙ b) in
    rw (loop_here last first x q path b) (z, record { steps = (step_in (again r p t z) (λ y. refl) step j refl k a, later) }))
    (λ b.
    let on = or_other (follow_at r p j) (last_at r p && first_at r j) step.allowed (sym loops ∙ b) in
    let behind = repeat_from tells q j step.place_is k path t later in
    rw
    (loop_later last first x q path b)
    (cut_step (last_at r p) base path (until_loop last first q path) (repeat_begins r) (stays r p) step k on behind))
    (bool_cases (last x && first q))

-- and so is its path from the begin
repeat_begin :
    {r : Pattern} {base : ℕ} {last first : ℕ → Bool}
    → Tells r base last first
    → (path : List ℕ) (t : Text)
    → LeastFrom (star r) base true (first_at (star r)) path t
    → 0 < length path
    → Cut r base (nullable r) (first_at r) (star r) base path t (first_loop last first path)
unfolding positions first_at first_loop
repeat_begin tells [] t l h = absurd (not-suc-le-zero h)
repeat_begin tells (q ∷ path) [] l h = absurd l
repeat_begin {r} {base} {last} {first} tells (q ∷ path) (c ∷ t) (step, later) h =
    let k = step.in_pattern in
    let behind = repeat_from tells q step.place step.place_is k path t later in
    cut_step (nullable r) base path (until_loop last first q path) (repeat_begins r) (λ y l f. f) step k step.allowed behind

-- the path of a repeat is cut at its first step from a last position to a first one; `last` and `first` tell these, as positions from base on
pub least_part :
    {r : Pattern} {base : ℕ} {path : List ℕ} {t : Text} (last first : ℕ → Bool)
    → ((p : ℕ) → p < positions r → last (base + p) ≡ last_at r p)
    → ((p : ℕ) → p < positions r → first (base + p) ≡ first_at r p)
    → LeastPath (star r) base path t → 0 < length path
    → let i = first_loop last first path in
    LeastPath r base (take i path) (take i t) × LeastPath (star r) base (drop i path) (drop i t)
unfolding nullable
least_part {r} {base} {path} {t} last first lasts firsts l h =
    let (left, right) = repeat_begin record { lasts = lasts; firsts = firsts } path t l.steps h in
    (record { steps = left }, right)
