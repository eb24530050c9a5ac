-- A shortest text that breaks a rule of at most 128 positions has at most 16,512 bytes. Two readings of a text are followed as pairs of positions of a
-- position automaton; where a pair comes up again, what lies between can be left out.
use Rattle.std.specs.Prelude.{◌≡◌, Bool, cond, ◌⊎◌, ◌↔◌, ℕ, zero, suc, ◌+◌, ◌≤◌, ◌<◌, eqb}
use Rattle.std.proofs.Math.Path.{refl, ap, subst}
use Rattle.std.proofs.Common.{sym, ◌∙◌, inl, inr, ⊎_elim, arith, length-append}
use Rattle.std.proofs.Math.Bool.{true, false}
use mathlib.Core.List.{List, [], ◌∷◌, ◌++◌, append-nil, head-eq_of_cons-eq, tail-eq_of_cons-eq}
use Rattle.std.proofs.Math.Option.{Option, none, some}
use Rattle.std.proofs.Math.Dec.{leb}
use Rattle.std.proofs.Math.ListN.{length}
use borrow.Author.Tests.{leb-true, leb-false, eqb-true, eq-eqb}
use Rattle.semantics.specs.Text.{Text, some_passes, All, Member, Different}
use Rattle.semantics.specs.Pattern.{Pattern, concat, alt, star, In}
use Rattle.semantics.specs.Table.{positions, below}
use Rattle.laws.specs.Basics.{bool_cases, not_both, member_left, member_right, member_append, all_at, passes_at, passes_of}
use Rattle.laws.specs.PositionAutomaton.{rest_at, first_law, follow_law, split_left, split_right}
use Rattle.laws.specs.Walks.{State, StateOf, rest_of, read_iff}
use Rattle.clash.specs.Clash.{Rule, one_cut, one_arm, one_list, breaks}
use Rattle.clash.proofs.Ends.{member_below}
use Rattle.clash.proofs.Twofold.{Whole, join_whole, repeat_whole, Apart, ReadBy, position_on, arm_iff, apart_end, apart_iff}

-- ---- Different numbers below n are at most n

module _ {A : Type 0} where
  -- a member, and what stands before and after it
  member_split : (x : A) (ys : List A) → Member x ys → (us : List A) × (vs : List A) × (ys ≡ us ++ x ∷ vs)
  member_split x [] m = elim m [ ]
  member_split x (y ∷ ys) (inl e) = ([], ys, rw e)
  member_split x (y ∷ ys) (inr m) = let r = member_split x ys m in (y ∷ r.0, r.1, ap (λ l. y ∷ l) r.2)

  -- a list without repeats is no longer than a list that holds its members
  pub different_length : (xs ys : List A) → Different xs → ((x : A) → Member x xs → Member x ys) → length xs ≤ length ys
  different_length [] ys d f = omega arith
  different_length (x ∷ xs) ys d f =
      let (us, vs, e) = member_split x ys (f x (inl refl)) in
      let shorter : length xs ≤ length (us ++ vs) = different_length xs (us ++ vs) d.1 (λ y m. others us vs y m (subst (Member y) e (f y (inr m)))) in
      omega (arith, simp length-append at shorter, simp length-append at (ap length e))
    where
      others : (us vs : List A) (y : A) → Member y xs → Member y (us ++ x ∷ vs) → Member y (us ++ vs)
      others us vs y m n =
          ⊎_elim
          (member_left y us vs)
          (⊎_elim (λ q. absurd (d.0 (subst (λ z. Member z xs) q m))) (member_right y us vs))
          (member_append y us (x ∷ vs) n)

-- there are n numbers below n
below_length : (n : ℕ) → length (below n) ≡ n
unfolding below
below_length zero = refl
below_length (suc n) = rw (length-append, below_length n) (omega arith)

-- so a list of different numbers below n has at most n
different_below : (n : ℕ) (ks : List ℕ) → Different ks → All (λ k. k < n) ks → length ks ≤ n
different_below n ks d h =
    omega (arith, different_length ks (below n) d (λ k m. member_below n k (all_at (λ k. k < n) k ks h m)), below_length n)

-- ---- A walk need not meet a code twice

-- `P x t`: the text t can be read from x, the start (`none`) or a code. A first byte leads to a code below n, from which any other text will do.
module _
    (n : ℕ) (P : Option ℕ → Text → Type 0)
    (step : (x : Option ℕ) (c : ℕ) (t : Text) → P x (c ∷ t) → (k : ℕ) × (k < n) × P (some k) t × ((u : Text) → P (some k) u → P x (c ∷ u)))
  where
    -- the text can be read from x by way of these codes, one behind each byte
    abbrev Walk : Option ℕ → Text → List ℕ → Type 0
    Walk x [] [] = P x []
    Walk x [] (k ∷ ks) = ⊥
    Walk x (c ∷ t) [] = ⊥
    Walk x (c ∷ t) (k ∷ ks) = (k < n) × ((u : Text) → P (some k) u → P x (c ∷ u)) × Walk (some k) t ks

    -- a walk is a reading
    walk_reads : (x : Option ℕ) (t : Text) (ks : List ℕ) → Walk x t ks → P x t
    walk_reads x [] [] w = w
    walk_reads x [] (k ∷ ks) w = elim w [ ]
    walk_reads x (c ∷ t) [] w = elim w [ ]
    walk_reads x (c ∷ t) (k ∷ ks) (l, back, w) = back t (walk_reads (some k) t ks w)

    -- it has a code for each byte
    walk_length : (x : Option ℕ) (t : Text) (ks : List ℕ) → Walk x t ks → length t ≡ length ks
    walk_length x [] [] w = refl
    walk_length x [] (k ∷ ks) w = elim w [ ]
    walk_length x (c ∷ t) [] w = elim w [ ]
    walk_length x (c ∷ t) (k ∷ ks) (l, back, w) = ap suc (walk_length (some k) t ks w)

    -- all of them below n
    walk_below : (x : Option ℕ) (t : Text) (ks : List ℕ) → Walk x t ks → All (λ k. k < n) ks
    walk_below x [] [] w = tt
    walk_below x [] (k ∷ ks) w = elim w [ ]
    walk_below x (c ∷ t) [] w = elim w [ ]
    walk_below x (c ∷ t) (k ∷ ks) (l, back, w) = (l, walk_below (some k) t ks w)

    -- what is left of a walk behind a code that it meets
    walk_from :
        (x : Option ℕ) (t : Text) (ks : List ℕ) (k : ℕ)
        → Walk x t ks
        → Different ks
        → Member k ks
        → (u : Text) × (js : List ℕ) × Walk (some k) u js × Different (k ∷ js)
    walk_from x [] [] k w d m = absurd m
    walk_from x [] (j ∷ ks) k w d m = elim w [ ]
    walk_from x (c ∷ t) [] k w d m = elim w [ ]
    walk_from x (c ∷ t) (j ∷ ks) k (l, back, w) d (inl e) =
        (t, ks, subst (λ i. Walk (some i) t ks) (sym e) w, subst (λ i. Different (i ∷ ks)) (sym e) d)
    walk_from x (c ∷ t) (j ∷ ks) k (l, back, w) d (inr m) = walk_from (some j) t ks k w d.1 m

    -- If a text can be read from x, one can on a walk that meets no code twice.
    simple_walk : (x : Option ℕ) (t : Text) → P x t → (u : Text) × (ks : List ℕ) × Walk x u ks × Different ks
    simple_walk x [] p = ([], [], p, tt)
    simple_walk x (c ∷ t) p =
        let (k, l, q, back) = step x c t p in
        let (u, ks, w, d) = simple_walk (some k) t q in
        ⊎_elim
        (λ e.
        let (j, m, same) = passes_at (eqb k) ks e in
        let (v, js, w', d') = walk_from (some k) u ks k w d (subst (λ i. Member i ks) (sym (eqb-true k j same)) m) in
        (c ∷ v, k ∷ js, (l, back, w'), d'))
        (λ e. (c ∷ u, k ∷ ks, (l, back, w), (λ m. not_both (passes_of (eqb k) k ks m (eq-eqb k k refl)) e, d)))
        (bool_cases (some_passes (eqb k) ks))

    -- so one of at most n bytes can be read
    short_reading : (x : Option ℕ) (t : Text) → P x t → (u : Text) × P x u × (length u ≤ n)
    short_reading x t p =
        let (u, ks, w, d) = simple_walk x t p in
        (u, walk_reads x u ks w, omega (arith, walk_length x u ks w, different_below n ks d (walk_below x u ks w)))

-- ---- Codes of unordered pairs

-- the number of unordered pairs of numbers below n, a number with itself among them
triangle : ℕ → ℕ
triangle zero = 0
triangle (suc n) = suc n + triangle n

-- more numbers have no fewer pairs
triangle_le : (m n : ℕ) → m ≤ n → triangle m ≤ triangle n
unfolding triangle
triangle_le m zero h = let e : m ≡ 0 = omega arith in rw e (omega arith)
triangle_le m (suc n) h =
    ⊎_elim
    (λ e. let k = triangle_le m n (leb-true m n e) in omega arith)
    (λ e. let k = leb-false m n e in let same : m ≡ suc n = omega arith in rw same (omega arith))
    (bool_cases (leb m n))

-- up to 128 numbers have up to 8,256
triangle_size : (n : ℕ) → n ≤ 128 → triangle n ≤ 8256
unfolding triangle
triangle_size n h = triangle_le n 128 h

-- the number of the pair p, q with p ≤ q lies between two triangles
triangle_below : (p q n : ℕ) → p ≤ q → q < n → triangle q + p < triangle n
unfolding triangle
triangle_below p q n h l = omega (arith, triangle_le (suc q) n l)

-- so it tells the pair
triangle_same : (p q p' q' : ℕ) → p ≤ q → p' ≤ q' → triangle q + p ≡ triangle q' + p' → (p ≡ p') × (q ≡ q')
triangle_same p q p' q' h h' e =
    let not_lower : ¬ (q < q') = λ l. let k = triangle_below p q q' h l in omega arith in
    let not_higher : ¬ (q' < q) = λ l. let k = triangle_below p' q' q h' l in omega arith in
    let same : q ≡ q' = omega arith in
    let low : triangle q' + p ≡ triangle q' + p' = subst (λ i. triangle i + p ≡ triangle q' + p') same e in
    (omega arith, same)

-- the number of a pair in either order
code : ℕ → ℕ → ℕ
code p q = cond (leb p q) (triangle q + p) (triangle p + q)

-- P holds of a pair in either order if it holds in one.
module _ (P : ℕ → ℕ → Type 0) (mirror : (p q : ℕ) → P p q → P q p) where
  -- the code is that of the pair with its lower number first
  in_order : (p q : ℕ) → (low : ℕ) × (high : ℕ) × (low ≤ high) × (code p q ≡ triangle high + low) × (P p q ↔ P low high)
  unfolding code
  in_order p q = go (leb p q) refl
    where
      go :
          (b : Bool)
          → leb p q ≡ b
          → (low : ℕ) × (high : ℕ) × (low ≤ high) × (cond b (triangle q + p) (triangle p + q) ≡ triangle high + low) × (P p q ↔ P low high)
      go true e = (p, q, leb-true p q e, refl, (λ h. h, λ h. h))
      go false e = (q, p, (let l = leb-false p q e in omega arith), refl, (mirror p q, mirror q p))

  -- if P holds of a pair, it holds of each pair with the same code
  code_same : (p q p' q' : ℕ) → code p q ≡ code p' q' → P p q → P p' q'
  code_same p q p' q' e h =
      let (a, b, l, c, order) = in_order p q in
      let (a', b', l', c', order') = in_order p' q' in
      let (x, y) = triangle_same a b a' b' l l' (sym c ∙ e ∙ c') in
      order'.1 (subst (P a') y (subst (λ i. P i b) x (order.0 h)))

-- the codes of pairs below n are below the triangle
code_below : (p q n : ℕ) → p < n → q < n → code p q < triangle n
code_below p q n h k =
    let (a, b, l, c, order) = in_order (λ i j. (i < n) × (j < n)) (λ i j d. (d.1, d.0)) p q in
    rw c (triangle_below a b n l (order.0 (h, k)).1)

-- ---- Reading a first byte to a position

-- c ∷ t is one of the texts K, since c leads to a position of w and t may stand behind it; any other text behind it would do.
record Opens (w : Pattern) (K : Text → Type 0) (c : ℕ) (t : Text) : Type 0 where
  position : ℕ
  within : position < positions w
  rest_in : In (rest_at w position) t
  back : (u : Text) → In (rest_at w position) u → K (c ∷ u)

-- such a position is what the laws of the position automaton give
law_opens : (r k : Pattern) (may : ℕ → Bool) → ReadBy k r may → (c : ℕ) (t : Text) → In k (c ∷ t) → Opens r (In k) c t
law_opens r k may law c t i =
    let on = position_on k r may law c in
    let (p, step, j) = (on t).0 i in
    record { position = p; within = step.0; rest_in = j; back = λ u m. (on u).1 (p, step, m) }

-- a text of r begins at a position of r
first_opens : (r : Pattern) (c : ℕ) (t : Text) → In r (c ∷ t) → Opens r (In r) c t
first_opens r = law_opens r r _ (first_law r)

-- and goes on at one
follow_opens : (r : Pattern) (p : ℕ) → p < positions r → (c : ℕ) (t : Text) → In (rest_at r p) (c ∷ t) → Opens r (In (rest_at r p)) c t
follow_opens r p h = law_opens r (rest_at r p) _ (follow_law r p h)

-- either, from a state
state_opens : (r : Pattern) (x : State) → StateOf r x → (c : ℕ) (t : Text) → In (rest_of r x) (c ∷ t) → Opens r (In (rest_of r x)) c t
unfolding rest_of
state_opens r none h = first_opens r
state_opens r (some p) h = follow_opens r p h

-- a position of r is one of w, where w has all of them at places of its own
placed_opens :
    (r w : Pattern) (place : ℕ → ℕ)
    → ((p : ℕ) → p < positions r → (place p < positions w) × (rest_at w (place p) ≡ rest_at r p))
    → (K : Text → Type 0) (c : ℕ) (t : Text)
    → Opens r K c t
    → Opens w K c t
placed_opens r w place placed K c t o =
    let (l, e) = placed o.position o.within in
    record {
      position = place o.position;
      within = l;
      rest_in = subst (λ k. In k t) (sym e) o.rest_in;
      back = λ u j. o.back u (subst (λ k. In k u) e j);
    }

-- ---- Two readings at once

-- the text and v are of K, the text and v' of K', or the other way round
abbrev Either : (Text → Type 0) → (Text → Type 0) → Text → Text → Text → Type 0
Either K K' v v' t = (K (t ++ v) × K' (t ++ v')) ⊎ (K' (t ++ v) × K (t ++ v'))

-- so it is with what may stand behind positions a and b of w
abbrev Ahead : Pattern → Text → Text → ℕ → ℕ → Text → Type 0
Ahead w v v' a b t = Either (In (rest_at w a)) (In (rest_at w b)) v v' t

-- in which the order of the positions does not matter
mirrored : (w : Pattern) (v v' : Text) (t : Text) (a b : ℕ) → Ahead w v v' a b t → Ahead w v v' b a t
mirrored w v v' t a b (inl h) = inr h
mirrored w v v' t a b (inr h) = inl h

-- A first byte of `Start` leads to two positions of w, from which the readings go on.
record Begins (w : Pattern) (v v' : Text) (Start : Text → Type 0) (c : ℕ) (t : Text) : Type 0 where
  left : ℕ
  right : ℕ
  left_within : left < positions w
  right_within : right < positions w
  ahead : Ahead w v v' left right t
  back : (u : Text) → Ahead w v v' left right u → Start (c ∷ u)

-- so does a byte that leads two readings, of K and of K', to positions of w, where `Start` is what the two make
both_begin :
    (w : Pattern) (v v' : Text) (Start K K' : Text → Type 0) (c : ℕ) (t : Text)
    → ((u : Text) → Either K K' v v' u → Start u)
    → Opens w K c (t ++ v)
    → Opens w K' c (t ++ v')
    → Begins w v v' Start c t
both_begin w v v' Start K K' c t make o o' =
    record {
      left = o.position;
      right = o'.position;
      left_within = o.within;
      right_within = o'.within;
      ahead = inl (o.rest_in, o'.rest_in);
      back =
          λ u h.
          make (c ∷ u)
          (⊎_elim (λ k. inl (o.back (u ++ v) k.0, o'.back (u ++ v') k.1)) (λ k. inr (o'.back (u ++ v) k.0, o.back (u ++ v') k.1)) h);
    }

-- two readings at positions go on at positions
ahead_begins :
    (w : Pattern) (v v' : Text) (a b : ℕ)
    → a < positions w
    → b < positions w
    → (c : ℕ) (t : Text)
    → Ahead w v v' a b (c ∷ t)
    → Begins w v v' (Ahead w v v' a b) c t
ahead_begins w v v' a b la lb c t (inl (i, j)) =
    both_begin
    w
    v
    v'
    (Ahead w v v' a b)
    (In (rest_at w a))
    (In (rest_at w b))
    c
    t
    (λ u h. h)
    (follow_opens w a la c (t ++ v) i)
    (follow_opens w b lb c (t ++ v') j)
ahead_begins w v v' a b la lb c t (inr (i, j)) =
    both_begin
    w
    v
    v'
    (Ahead w v v' a b)
    (In (rest_at w b))
    (In (rest_at w a))
    c
    t
    (λ u. mirrored w v v' u b a)
    (follow_opens w b lb c (t ++ v) i)
    (follow_opens w a la c (t ++ v') j)

-- Two readings that begin with a first byte and go on at positions of w begin with some text that has at most a byte for each unordered pair of these.
module _ (w : Pattern) (v v' : Text) (Start : Text → Type 0) (begins : (c : ℕ) (t : Text) → Start (c ∷ t) → Begins w v v' Start c t) where
  -- what can be read from the start, and from a pair of the code
  abbrev Coded : Option ℕ → Text → Type 0
  Coded none t = Start t
  Coded (some k) t = (a : ℕ) × (b : ℕ) × (a < positions w) × (b < positions w) × (code a b ≡ k) × Ahead w v v' a b t

  -- a first byte leads to a code
  coded :
      (Before : Text → Type 0) (c : ℕ) (t : Text)
      → Begins w v v' Before c t
      → (k : ℕ) × (k < triangle (positions w)) × Coded (some k) t × ((u : Text) → Coded (some k) u → Before (c ∷ u))
  coded Before c t g =
      let a = g.left in
      let b = g.right in (
        code a b,
        code_below a b (positions w) g.left_within g.right_within,
        (a, b, g.left_within, g.right_within, refl, g.ahead),
        λ u h.
            let (p, q, lp, lq, e, k) = h in
            g.back u (code_same (λ i j. Ahead w v v' i j u) (mirrored w v v' u) p q a b e k),
      )

  -- also from a code
  coded_step :
      (x : Option ℕ) (c : ℕ) (t : Text)
      → Coded x (c ∷ t)
      → (k : ℕ) × (k < triangle (positions w)) × Coded (some k) t × ((u : Text) → Coded (some k) u → Coded x (c ∷ u))
  coded_step none c t h = coded Start c t (begins c t h)
  coded_step (some k) c t (a, b, la, lb, e, h) =
      let (j, l, m, back) = coded (Ahead w v v' a b) c t (ahead_begins w v v' a b la lb c t h) in
      (j, l, m, λ u i. (a, b, la, lb, e, back u i))

  -- so a start can be short
  short_start : (t : Text) → Start t → (u : Text) × Start u × (length u ≤ triangle (positions w))
  short_start t h = short_reading (triangle (positions w)) Coded coded_step none t h

-- ---- A union: a text of both arms

-- If the texts of K and of K' begin at positions of w and one text is of both, a short one is.
short_both :
    (w : Pattern) (K K' : Text → Type 0)
    → ((c : ℕ) (t : Text) → K (c ∷ t) → Opens w K c t)
    → ((c : ℕ) (t : Text) → K' (c ∷ t) → Opens w K' c t)
    → (t : Text)
    → K t
    → K' t
    → (u : Text) × (K u × K' u) × (length u ≤ triangle (positions w))
short_both w K K' opens opens' t h h' = short_start w [] [] (λ u. K u × K' u) begins t (h, h')
  where
    -- with nothing behind the text, both readings are of the same text
    both : (u : Text) → Either K K' [] [] u → K u × K' u
    both u = rw append-nil (⊎_elim (λ (k : K u × K' u). k) (λ (k : K' u × K u). (k.1, k.0)))

    begins : (c : ℕ) (u : Text) → K (c ∷ u) × K' (c ∷ u) → Begins w [] [] (λ u. K u × K' u) c u
    begins c u (i, j) = both_begin w [] [] (λ u. K u × K' u) K K' c u both (rw append-nil (opens c u i)) (rw append-nil (opens' c u j))

-- the positions of both arms are positions of the union
arms_placed :
    (r s : Pattern)
    → ((p : ℕ) → p < positions r → (p < positions (alt r s)) × (rest_at (alt r s) p ≡ rest_at r p))
    × ((p : ℕ) → p < positions s → (positions r + p < positions (alt r s)) × (rest_at (alt r s) (positions r + p) ≡ rest_at s p))
unfolding positions rest_at
arms_placed r s = (
  λ p l. (omega arith, split_left (positions r) (rest_at r) (rest_at s) p l),
  λ p l. (omega arith, split_right (positions r) (rest_at r) (rest_at s) p),
)

-- so a text of both arms can be short
short_overlap : (r s : Pattern) (t : Text) → In r t → In s t → (u : Text) × (In r u × In s u) × (length u ≤ triangle (positions (alt r s)))
short_overlap r s t i j =
    short_both
    (alt r s)
    (In r)
    (In s)
    (λ c u h. placed_opens r (alt r s) (λ p. p) (arms_placed r s).0 (In r) c u (first_opens r c u h))
    (λ c u h. placed_opens s (alt r s) (λ p. positions r + p) (arms_placed r s).1 (In s) c u (first_opens s c u h))
    t
    i
    j

-- ---- A join or a repeat: a text with two cuts

-- r reads a text, and the text with v behind it
abbrev Twice : Pattern → Text → Text → Type 0
Twice r v t = In r t × In r (t ++ v)

-- if there is such a text, there is a short one
short_twice : (r : Pattern) (v t : Text) → Twice r v t → (u : Text) × Twice r v u × (length u ≤ triangle (positions r))
short_twice r v t h = short_start r [] v (Twice r v) begins t h
  where
    twice : (u : Text) → Either (In r) (In r) [] v u → Twice r v u
    twice u = rw append-nil (⊎_elim (λ (k : Twice r v u). k) (λ (k : Twice r v u). k))

    begins : (c : ℕ) (u : Text) → Twice r v (c ∷ u) → Begins r [] v (Twice r v) c u
    begins c u (i, j) = both_begin r [] v (Twice r v) (In r) (In r) c u twice (rw append-nil (first_opens r c u i)) (first_opens r c (u ++ v) j)

-- a text of the second half of a join begins at a position of the join
second_opens : (r s : Pattern) (c : ℕ) (t : Text) → In s (c ∷ t) → Opens (concat r s) (In s) c t
unfolding positions rest_at
second_opens r s c t i =
    placed_opens
    s
    (concat r s)
    (λ p. positions r + p)
    (λ p l. (omega arith, split_right (positions r) (λ q. concat (rest_at r q) s) (rest_at s) p))
    (In s)
    c
    t
    (first_opens s c t i)

-- the text is read from the state y of r for at least one byte, and then in s
abbrev Longer : Pattern → Pattern → State → Text → Type 0
Longer r s y t = (c : ℕ) × (x : Text) × (v : Text) × (t ≡ c ∷ x ++ v) × In (rest_of r y) (c ∷ x) × In s v

-- w is r and then s, and a text of s begins at a position of w.
module _ (r s w : Pattern) (whole : Whole r s w) (rest-opens : (c : ℕ) (t : Text) → In s (c ∷ t) → Opens w (In s) c t) where
  -- a text that is read so begins at a position of w
  longer_opens : (y : State) → StateOf r y → (c : ℕ) (t : Text) → Longer r s y (c ∷ t) → Opens w (Longer r s y) c t
  unfolding In
  longer_opens y h d t (c, x, v, e, i, j) =
      let o = state_opens r y h d x (subst (λ b. In (rest_of r y) (b ∷ x)) (sym (head-eq_of_cons-eq e)) i) in
      let rest_iff = whole.rest_iff o.position o.within in
      record {
        position = o.position;
        within = omega (arith, o.within, whole.more);
        rest_in = (rest_iff t).1 (x, v, tail-eq_of_cons-eq e, o.rest_in, j);
        back = λ z k. let (x', v', e', i', j') = (rest_iff z).0 k in (d, x', v', ap (λ l. d ∷ l) e', o.back x' i', j');
      }

  -- what stands behind the first cut can be short
  short_late : (t : Text) → Apart r r s t → (z : Text) × (d : Apart r r s z) × (length (d.c ∷ d.x ++ d.v) ≤ triangle (positions w))
  unfolding rest_of
  short_late t a =
      let (y, h, to-y, i) = (read_iff r none tt a.u (a.c ∷ a.x)).0 a.second_in in
      let (z, (j, (c, x, v, e, k, m)), l) =
      short_both
      w
      (In s)
      (Longer r s y)
      rest-opens
      (longer_opens y h)
      (a.c ∷ a.x ++ a.v)
      a.first_rest
      (a.c, a.x, a.v, refl, i, a.second_rest) in (
        a.u ++ c ∷ x ++ v,
        record {
          u = a.u;
          c = c;
          x = x;
          v = v;
          text_is = refl;
          first_in = a.first_in;
          first_rest = subst (In s) e j;
          second_in = (read_iff r none tt a.u (c ∷ x)).1 (y, h, to-y, k);
          second_rest = m;
        },
        subst (λ z. length z ≤ triangle (positions w)) e l,
      )

  -- so a text with two cuts can be short
  short_cuts : positions w ≤ 128 → (t : Text) → Apart r r s t → (z : Text) × Apart r r s z × (length z ≤ 16512)
  short_cuts few t a =
      let (t', d, l) = short_late t a in
      let x = d.c ∷ d.x in
      let (u, (i, j), k) = short_twice r x d.u (d.first_in, d.second_in) in
      let late = triangle_size (positions w) few in
      let early = triangle_le (positions r) (positions w) whole.more in (
        u ++ x ++ d.v,
        record {
          u = u;
          c = d.c;
          x = d.x;
          v = d.v;
          text_is = refl;
          first_in = i;
          first_rest = d.first_rest;
          second_in = j;
          second_rest = d.second_rest;
        },
        omega (arith, length-append (u ++ x) d.v, length-append u x, length-append x d.v),
      )

-- a text with two cuts passes the test of a repeat, since it is not empty
list_test : (r : Pattern) (t : Text) → Apart r r (star r) t → breaks (one_list r) t ≡ true
unfolding breaks
list_test r [] a = absurd (apart_end r r (star r) a)
list_test r (b ∷ t) a = (apart_iff r (star r) (b ∷ t)).1 a

-- ---- The bound

-- the positions of the rule's language: those of a join or union, or of a repeat's child
abbrev pub rule_positions : Rule → ℕ
rule_positions (one_cut r s) = positions r + positions s
rule_positions (one_arm r s) = positions r + positions s
rule_positions (one_list r) = positions r

-- If a text breaks the rule, one of at most 16,512 bytes does, where the rule has at most 128 positions.
pub short_clash : (rule : Rule) → rule_positions rule ≤ 128 → (t : Text) → breaks rule t ≡ true → (u : Text) × (breaks rule u ≡ true) × (length u ≤ 16512)
unfolding breaks positions
short_clash (one_cut r s) few t h =
    let (u, a, l) = short_cuts r s (concat r s) (join_whole r s) (second_opens r s) few t ((apart_iff r s t).0 h) in
    (u, (apart_iff r s u).1 a, l)
short_clash (one_arm r s) few t h =
    let (i, j) = (arm_iff r s t).0 h in
    let (u, both, l) = short_overlap r s t i j in
    let size = triangle_size (positions (alt r s)) few in
    (u, (arm_iff r s u).1 both, omega arith)
short_clash (one_list r) few [] h = ([], h, omega arith)
short_clash (one_list r) few (b ∷ t) h =
    let (u, a, l) = short_cuts r (star r) (star r) (repeat_whole r) (first_opens (star r)) few (b ∷ t) ((apart_iff r (star r) (b ∷ t)).0 h) in
    (u, list_test r u a, l)
