-- The pairs that share a byte, the rows that gain some of them, and the pairs that are led on: what the functions' proofs cite. Assumes nothing.
use mathlib.Core.Path.{◌≡◌, refl, sym, ap, ap₂, ◌∙◌}
use mathlib.Core.Bool.{Bool, true, false, not, ◌&&◌, cond}
use mathlib.Core.List.{List}
use mathlib.Core.Logic.{◌⊎◌, inl, inr, ⊎_elim}
use Prim.Native.Nat.{ℕ, ◌+◌, ◌-◌, ◌*◌, ◌^◌, ◌≤◌, ◌<◌}
use native.Mathlib.Omega.{arith}
use borrow.Author.Tests.{eqb-true, eqb-false, eq-eqb, ne_eqb, not-true}
use lib.Dec.{eqb}
use lib.ListN.{length, get_or}
use Rattle.laws.specs.Basics.{bool_cases, not_both, and_both, and_of, or_either, or_left, or_right}
use Rattle.positions.specs.declared.Set.{Set}
use Rattle.positions.specs.declared.Below.{Below}
use Rattle.positions.specs.Positions.{holds, Empty, Added, Removed, Less, Met, FirstFrom}
use Rattle.positions.specs.Below.{Taken, Done}
use Rattle.positions.proofs.Walk.{WalkAt, at_start, at_first, at_next, at_end}
use Rattle.language.specs.Sets.{Stored}
use Rattle.positions.proofs.Bits.{holds_past}
use Rattle.classes.specs.Classes.{any_below}
use Rattle.classes.proofs.Anys.{split_at}
use Rattle.automaton.specs.declared.Automaton.{Automaton}
use Rattle.automaton.specs.Rows.{follow_of, alike_in}
use Rattle.automaton.proofs.Standing.{alike_shares}
use Rattle.pairs.specs.Pairs.{Gathered, by_follow, by_sharing, same_as_last, row_of, held, total, Gained, Meets, Shares, Joins, RowIn, Noted, Poured, Onward, Reached, begins, goes, Sound, Led, Settled, Spread, Blank, Filled}
use Rattle.pairs.proofs.Cells.{gathered_iff, sharing_iff, total_bound, case_row}

-- ---- Shares

-- a position with the same bytes as another shares a byte with the same positions
shares_alike :
    (prepared : List ℕ) (row row' start : ℕ) {count : ℕ} {r : Set}
    → alike_in prepared row row' ≡ true
    → Gathered count (by_sharing prepared row start) r
    → Gathered count (by_sharing prepared row' start) r
shares_alike prepared row row' start {count} same gathered =
    record {
      holds_is =
          λ q.
          gathered.holds_is q
          ∙ ap (any_below count) (λ j p. alike_shares prepared row row' (start + p) same j && eqb q p);
    }

-- one that has the same bytes as the one before it is not the first
pub last_alike : (prepared : List ℕ) (start x : ℕ) → same_as_last prepared start x ≡ true → (0 < x) × (alike_in prepared (start + (x - 1)) (start + x) ≡ true)
unfolding same_as_last
last_alike prepared start x e = go (eqb x 0) refl e
  where
    go : (b : Bool) → eqb x 0 ≡ b → cond b false (alike_in prepared (start + (x - 1)) (start + x)) ≡ true → (0 < x) × (alike_in prepared (start + (x - 1)) (start + x) ≡ true)
    go true z f = absurd (not_both f refl)
    go false z f = let some = eqb-false x 0 z in (omega arith, f)

module _ {prepared : List ℕ} {start : ℕ} {b : Automaton} where
  pub shares_none : {cells : List ℕ} → length cells ≡ 256 → Shares prepared start b 0 cells
  shares_none size = record { size = size; row_is = λ x l. absurd (omega arith) }

  -- a position with the same bytes as the one before it has its row
  pub shares_last :
      {x : ℕ} {cells : List ℕ}
      → same_as_last prepared start x ≡ true
      → Shares prepared start b x cells
      → Gathered b.count (by_sharing prepared (start + x) b.start) (row_of cells (x - 1))
  shares_last {x} same s =
      let (some, alike) = last_alike prepared start x same in
      shares_alike prepared (start + (x - 1)) (start + x) b.start alike (s.row_is (x - 1) (omega arith))

  -- one row more
  pub shares_more :
      {x : ℕ} {found : Set} {cells after : List ℕ}
      → Shares prepared start b x cells
      → Gathered b.count (by_sharing prepared (start + x) b.start) found
      → Stored cells x found after
      → Shares prepared start b (x + 1) after
  shares_more {x} {found} {cells} s found_is stored =
      record {
        size = stored.same_length ∙ s.size;
        row_is =
            λ i k.
            case_row
            i
            x
            (λ e. rw (e, stored.stored) found_is)
            (λ n. rw (stored.kept i n) (s.row_is i (omega arith)));
      }

-- what the shares join is what meets
module _ {prepared shares : List ℕ} (a : Automaton) {b : Automaton} (s : Shares prepared a.start b a.count shares) {xs ys : Set} {x y : ℕ} where
  joins_meets : x < a.count → Joins shares xs ys x y → Meets prepared a b xs ys x y
  joins_meets l m =
      let (r, k) = (sharing_iff prepared (a.start + x) b (s.row_is x l) y).0 m.share in
      record { left = l; right = r; in_left = m.in_left; in_right = m.in_right; share = k }

  meets_joins : Meets prepared a b xs ys x y → Joins shares xs ys x y
  meets_joins m =
      record {
        in_left = m.in_left;
        in_right = m.in_right;
        share = (sharing_iff prepared (a.start + x) b (s.row_is x m.left) y).1 (m.right, m.share);
      }

-- ---- Pouring

noted_none : {n : ℕ} {cells : List ℕ} {due : Set} → Noted n cells cells due due
noted_none = record { still = λ x h. h; same = λ x y h. refl; gained = λ x h. inl h }

-- a row that is not due now was not due before
not_due : {n : ℕ} {A B : List ℕ} {due due' : Set} → Noted n A B due due' → (x : ℕ) → holds due' x ≡ false → holds due x ≡ false
not_due {due = due} f x h = ⊎_elim (λ k. absurd (not_both (f.still x k) h)) (λ k. k) (bool_cases (holds due x))

-- one row more, where no pair is lost
noted_more :
    {n : ℕ} {A B C : List ℕ} {due due' due'' : Set}
    → ((x : ℕ) → RowIn x A B)
    → ((x : ℕ) → RowIn x B C)
    → Noted n A B due due'
    → Noted (n + 1) B C due' due''
    → Noted (n + 1) A C due due''
noted_more {n} keeps keeps' f g =
    record {
      still = λ x h. g.still x (f.still x h);
      same = λ x y h. g.same x y h ∙ f.same x y (not_due g x h);
      gained =
          λ x h.
          ⊎_elim
          (λ k. ⊎_elim (λ d. inl d) (λ w. inr (omega (arith, w.0), λ r. w.1 (λ y e. r y (keeps' x y e)))) (f.gained x k))
          (λ w. inr (w.0, λ r. w.1 (λ y e. keeps x y (r y e))))
          (g.gained x h);
    }

-- The rows of xs that have come on a walk over it have gained their pairs, those before some place.
pub record PouredOn (shares : List ℕ) (xs ys : Set) (count : ℕ) (walk : Below) (before after : List ℕ) (due due' : Set) : Type 0 where
  pub place : ℕ
  pub comes : WalkAt xs count walk place
  pub poured : Poured shares xs ys 0 place before after due due'

module _ {shares : List ℕ} {xs ys : Set} where
  poured_none : {cells : List ℕ} {due : Set} → Poured shares xs ys 0 0 cells cells due due
  poured_none =
      record { noted = noted_none; keeps = λ x y h. h; only = λ x y h. inl h; all = λ x y l k m. absurd (omega arith) }

  -- one row more
  poured_more :
      {n : ℕ} {A B C : List ℕ} {due due' due'' : Set}
      → Poured shares xs ys 0 n A B due due'
      → Poured shares xs ys n (n + 1) B C due' due''
      → Poured shares xs ys 0 (n + 1) A C due due''
  poured_more {n} f g =
      record {
        noted = noted_more f.keeps g.keeps f.noted g.noted;
        keeps = λ x y h. g.keeps x y (f.keeps x y h);
        only = λ x y h. ⊎_elim (λ k. ⊎_elim (λ d. inl d) (λ m. inr (omega (arith, m.0), m.1)) (f.only x y k)) (λ m. inr m) (g.only x y h);
        all = λ x y l k m. split_at x n (λ i. g.keeps x y (f.all x y l i m)) (λ i. g.all x y i k m);
      }

  -- rows that are not asked for
  poured_skip :
      {n m : ℕ} {A B : List ℕ} {due due' : Set}
      → n ≤ m
      → ((x : ℕ) → n ≤ x → x < m → holds xs x ≡ false)
      → Poured shares xs ys 0 n A B due due'
      → Poured shares xs ys 0 m A B due due'
  poured_skip {n} {m} up out f =
      record {
        noted =
            record {
              still = f.noted.still;
              same = f.noted.same;
              gained = λ x h. ⊎_elim (λ d. inl d) (λ w. inr (omega (arith, w.0), w.1)) (f.noted.gained x h);
            };
        keeps = f.keeps;
        only = λ x y h. ⊎_elim (λ d. inl d) (λ w. inr (omega (arith, w.0), w.1)) (f.only x y h);
        all = λ x y l k j. split_at x n (λ i. f.all x y l i j) (λ i. absurd (not_both j.in_left (out x i k)));
      }

  -- The rows of xs alone, of those below a count.
  pub poured_begins : {count : ℕ} {walk of : Below} {cells : List ℕ} {due : Set} → walk ≡ of → of ≡ record { left = xs; end = count } → PouredOn shares xs ys count walk cells cells due due
  poured_begins same begun = record { place = 0; comes = at_start same begun; poured = poured_none }

  pub poured_next :
      {count p : ℕ} {walk on : Below} {A B C : List ℕ} {due due' due'' : Set}
      → PouredOn shares xs ys count walk A B due due'
      → Taken walk p on
      → (holds xs p ≡ true → Poured shares xs ys p (p + 1) B C due' due'')
      → PouredOn shares xs ys count on A C due due''
  poured_next {p = p} known taken row =
      let first = at_first known.comes taken in
      record {
        place = p + 1;
        comes = at_next known.comes taken;
        poured = poured_more (poured_skip first.from (λ i l k. first.skipped i l k) known.poured) (row (first.held taken.small));
      }

  pub poured_end : {count : ℕ} {walk : Below} {A B : List ℕ} {due due' : Set} → PouredOn shares xs ys count walk A B due due' → Done walk → Poured shares xs ys 0 count A B due due'
  poured_end known done = poured_skip known.comes.within (λ i l k. at_end known.comes done i l k) known.poured

-- What is found for row x: what its shares have of ys, less the pairs that it has.
pub record Found (shares : List ℕ) (ys : Set) (x : ℕ) (cells : List ℕ) (found : Set) : Type 0 where
  pub found_is : (y : ℕ) → holds found y ≡ ((holds ys y && held shares x y) && not (held cells x y))

-- it is worked out from the two rows
pub found_by :
    {shares cells : List ℕ} {x : ℕ} {ys found : Set} (r s both : Set)
    → r ≡ row_of shares x
    → s ≡ row_of cells x
    → Met ys r both
    → Less both s found
    → Found shares ys x cells found
found_by {ys = ys} r s both r-is s-is met less =
    record {
      found_is =
          λ y.
          less y ∙ ap₂ (λ (t : Bool) (c : Set). t && not (holds c y)) (met y ∙ ap (λ (c : Set). holds ys y && holds c y) r-is) s-is;
    }

module _ {shares : List ℕ} {ys : Set} {x : ℕ} {A : List ℕ} {found : Set} (new : Found shares ys x A found) where
  -- a pair that is joined is there, or found
  there : {xs : Set} → (i y : ℕ) → x ≤ i → i < x + 1 → Joins shares xs ys i y → (held A i y ≡ true) ⊎ ((i ≡ x) × (holds found y ≡ true))
  there {xs} i y l k m =
      let same : i ≡ x = omega arith in
      let m : Joins shares xs ys x y = rw same at m in
      rw same (
      ⊎_elim
      (λ h. inl h)
      (λ h. inr (refl, new.found_is y ∙ and_of _ _ (and_of _ _ m.in_right m.share) (ap not h)))
      (bool_cases (held A x y))
      )

  -- nothing is found
  pub poured_nothing : {xs due : Set} → Empty found → Poured shares xs ys x (x + 1) A A due due
  poured_nothing nothing =
      record {
        noted = noted_none;
        keeps = λ i y h. h;
        only = λ i y h. inl h;
        all = λ i y l k m. ⊎_elim (λ h. h) (λ h. absurd (not_both h.1 (nothing y))) (there i y l k m);
      }

  -- the row gains what is found
  pub poured_row :
      {xs due due' : Set} {B : List ℕ} {changed : Bool}
      → holds xs x ≡ true
      → ¬ Empty found
      → Gained x found A B changed
      → Added due x due'
      → Poured shares xs ys x (x + 1) A B due due'
  poured_row {xs} {due} {due'} {B} in-xs some gain added =
      record {
        noted =
            record {
              still = λ i h. added i ∙ or_right (eqb i x) (holds due i) h;
              same = λ i y h. gain.others i y (λ e. not_both (added i ∙ or_left _ (holds due i) (eq-eqb i x e)) h);
              gained =
                  λ i h.
                  ⊎_elim
                  (λ e. let same = eqb-true i x e in inr (omega arith, rw same more))
                  (λ k. inl k)
                  (or_either (eqb i x) (holds due i) (sym (added i) ∙ h));
            };
        keeps = keeps;
        only =
            λ i y h.
            case_row
            i
            x
            (λ e. ⊎_elim (λ k. inl (rw e k)) (λ k. inr (omega arith, rw e (joins y k))) (or_either _ _ (sym (gain.row_is y) ∙ (rw e at h))))
            (λ n. inl (sym (gain.others i y n) ∙ h));
        all =
            λ i y l k m.
            ⊎_elim
            (keeps i y)
            (λ h. rw h.0 (gain.row_is y ∙ or_right (held A x y) (holds found y) h.1))
            (there i y l k m);
      }
    where
      -- no pair is lost
      keeps : (i : ℕ) → RowIn i A B
      keeps i y h = case_row i x (λ e. rw e (gain.row_is y ∙ or_left (held A x y) (holds found y) (rw e at h))) (λ n. gain.others i y n ∙ h)

      -- what is found is joined
      joins : (y : ℕ) → holds found y ≡ true → Joins shares xs ys x y
      joins y h =
          let (u, v) = and_both _ _ (sym (new.found_is y) ∙ h) in
          let (i, j) = and_both _ _ u in
          record { in_left = in-xs; in_right = i; share = j }

      -- what is found is in no pair that the row had, so the row has more now
      more : ¬ RowIn x B A
      more r = some (λ y. ⊎_elim (λ h. absurd (had y h)) (λ h. h) (bool_cases (holds found y)))
        where
          had : (y : ℕ) → holds found y ≡ true → ⊥
          had y h =
              let (u, v) = and_both (holds ys y && held shares x y) (not (held A x y)) (sym (new.found_is y) ∙ h) in
              not_both (r y (gain.row_is y ∙ or_right (held A x y) (holds found y) h)) (not-true (held A x y) v)

-- ---- Leading on

module _ {prepared : List ℕ} {a b : Automaton} where
  pub led_none : {cells : List ℕ} → Led prepared a b cells cells
  led_none = record { keeps = λ x y h. h; sound = λ begun s. s }

  pub led_more : {A B C : List ℕ} → Led prepared a b A B → Led prepared a b B C → Led prepared a b A C
  led_more f g = record { keeps = λ x y h. g.keeps x y (f.keeps x y h); sound = λ begun s. g.sound begun (f.sound begun s) }

-- A visit of row x: its pairs that had not been led on, the fresh ones, are led on. L and M have the pairs that are led on before and after it, A and B
-- those that are set.
pub record Visit (prepared : List ℕ) (a b : Automaton) (shares L M A B : List ℕ) (x : ℕ) (fresh ys due rest due' : Set) (changed : Bool) : Type 0 where
  pub row_below : x < a.count
  pub shares_are : Shares prepared a.start b a.count shares
  pub less : Less (row_of A x) (row_of L x) fresh
  pub gain : Gained x fresh L M changed
  pub gathered : Gathered b.count (by_follow prepared b.start fresh) ys
  pub removed : Removed due x rest
  pub poured : Poured shares (follow_of prepared (a.start + x)) ys 0 a.count A B rest due'

module _ {prepared : List ℕ} {a b : Automaton} {shares L M A B : List ℕ} {x : ℕ} {fresh ys due rest due' : Set} {changed : Bool}
    (v : Visit prepared a b shares L M A B x fresh ys due rest due' changed)
  where
    -- a fresh pair is one that was set
    fresh_set : (y : ℕ) → holds fresh y ≡ true → held A x y ≡ true
    fresh_set y h = (and_both _ _ (sym (v.less y) ∙ h)).0

    -- a pair that was set is led on now
    now_led : (y : ℕ) → held A x y ≡ true → held M x y ≡ true
    now_led y h =
        v.gain.row_is y
        ∙ ⊎_elim (λ e. or_left _ _ e) (λ e. or_right (held L x y) (holds fresh y) (v.less y ∙ and_of _ _ h (ap not e))) (bool_cases (held L x y))

    -- a pair that is led on now was so before, or is fresh
    led_by : (z y : ℕ) → held M z y ≡ true → (held L z y ≡ true) ⊎ ((z ≡ x) × (holds fresh y ≡ true))
    led_by z y h =
        case_row
        z
        x
        (λ e. ⊎_elim (λ k. inl (rw e k)) (λ k. inr (e, k)) (or_either _ _ (sym (v.gain.row_is y) ∙ (rw e at h))))
        (λ n. inl (sym (v.gain.others z y n) ∙ h))

    -- a row that is due without row x is another, and was due
    rest_other : (z : ℕ) → holds rest z ≡ true → (¬ (z ≡ x)) × (holds due z ≡ true)
    rest_other z k = let (n, d) = and_both (not (eqb z x)) (holds due z) (sym (v.removed z) ∙ k) in (eqb-false z x (not-true _ n), d)

    -- one common byte leads from a fresh pair to pairs that are set now
    fresh_onward : (y i j : ℕ) → y < b.count → holds fresh y ≡ true → Onward prepared a b x y i j → held B i j ≡ true
    fresh_onward y i j r h o =
        v.poured.all i j (omega arith) o.left (
        meets_joins
        a
        v.shares_are
        (record {
          left = o.left;
          right = o.right;
          in_left = o.in_left;
          in_right = (gathered_iff v.gathered j).1 (y, r, and_of _ _ h o.in_right);
          share = o.share;
        })
        )

    -- no pair is lost, and none is set that is not reached
    leads : Led prepared a b A B
    leads =
        record {
          keeps = v.poured.keeps;
          sound =
              λ begun t i j k h.
              ⊎_elim
              (t i j k)
              (λ k.
              let m = joins_meets a v.shares_are k.0 k.1 in
              let (y, u, w) = (gathered_iff v.gathered j).0 m.in_right in
              let (new, next) = and_both _ _ w in
              goes
              (t x y v.row_below (fresh_set y new))
              (record { left = m.left; right = m.right; in_left = m.in_left; in_right = next; share = m.share }))
              (v.poured.only i j h);
        }

    -- what is led on and what is due stay in order
    settles : Settled prepared a b due L A → Settled prepared a b due' M B
    settles t =
        record {
          below = λ z h. ⊎_elim (λ k. t.below z (rest_other z k).1) (λ w. w.0) (v.poured.noted.gained z h);
          inside = λ z k y h. v.poured.keeps z y (inside z k y h);
          onward =
              λ z y i j k r h o.
              ⊎_elim
              (λ e. v.poured.keeps i j (t.onward z y i j k r e o))
              (λ e. fresh_onward y i j r e.1 (rw e.0 at o))
              (led_by z y h);
          caught_up = caught_up;
          waiting =
              λ z h.
              ⊎_elim
              (λ k.
              let (n, d) = rest_other z k in
              λ r. t.waiting z d (λ y e. sym (v.gain.others z y n) ∙ r y (v.poured.keeps z y e)))
              (λ w. λ r. w.1 (λ y e. inside z w.0 y (r y e)))
              (v.poured.noted.gained z h);
        }
      where
        -- what is led on was set already before the visit
        inside : (z : ℕ) → z < a.count → RowIn z M A
        inside z k y h = ⊎_elim (λ e. t.inside z k y e) (λ e. rw e.0 (fresh_set y e.1)) (led_by z y h)

        caught_up : (z : ℕ) → z < a.count → holds due' z ≡ false → RowIn z B M
        caught_up z k out y h =
            let here : held A z y ≡ true = sym (v.poured.noted.same z y out) ∙ h in
            case_row
            z
            x
            (λ e. rw e (now_led y (rw e at here)))
            (λ n.
            let was : (not (eqb z x) && holds due z) ≡ false = sym (v.removed z) ∙ not_due v.poured.noted z out in
            let was : holds due z ≡ false = rw (ne_eqb z x n) at was in
            v.gain.others z y n ∙ t.caught_up z k was y here)

    -- a row with a fresh pair makes the sum of what is led on grow
    grows : ¬ RowIn x A L → total L < total M
    grows some =
        ⊎_elim
        (λ e. v.gain.change.grows e)
        (λ e. absurd (some (λ y h. rw (v.gain.change.same e) at (now_led y h))))
        (bool_cases changed)

    -- So the visit does what `spread` promises.
    pub spread_row : Spread prepared a b x L M A B due due'
    spread_row = record { leads = leads; settles = settles; grows = grows }

-- ---- Filling

-- past the last position of all, none is due
pub next_none : {due : Set} {x : ℕ} → FirstFrom due 0 x → 128 ≤ x → Empty due
next_none {due} {x} first l q = split_at q x (λ k. first.skipped q (omega arith) k) (λ k. holds_past due q (omega arith))

module _ {prepared : List ℕ} {a b : Automaton} where
  -- the pairs at which a text begins are in rows that are due, and none is led on
  pub settled_first :
      {shares L A B : List ℕ} {begun ys none due : Set}
      → Blank a.count L
      → Blank a.count A
      → Empty none
      → Poured shares begun ys 0 a.count A B none due
      → Settled prepared a b due L B
  settled_first {L = L} {A} {B} {due = due} unled blank nothing poured =
      record {
        below = λ x h. (begun x h).0;
        inside = λ x l y h. absurd (not_both h (unled.none_held x y l));
        onward = λ x y i j l r h o. absurd (not_both h (unled.none_held x y l));
        caught_up = λ x l out y h. absurd (not_both (sym (poured.noted.same x y out) ∙ h) (blank.none_held x y l));
        waiting = λ x h r. (begun x h).1 (λ y e. absurd (not_both (r y e) (unled.none_held x y (begun x h).0)));
      }
    where
      -- a due row has a pair at which a text begins
      begun : (x : ℕ) → holds due x ≡ true → (x < a.count) × ¬ RowIn x B A
      begun x h = ⊎_elim (λ k. absurd (not_both k (nothing x))) (λ w. w) (poured.noted.gained x h)

  -- a reached pair is one of positions
  pub reached_within : {begun : Set} {x y : ℕ} → Reached prepared a b begun x y → (x < a.count) × (y < b.count)
  reached_within (begins m) = (m.left, m.right)
  reached_within (goes r o) = (o.left, o.right)

  -- the pairs at which a text begins, led on until no row is due
  pub filled :
      {shares A B C L : List ℕ} {begun none due due' : Set}
      → Shares prepared a.start b a.count shares
      → Blank a.count A
      → Poured shares begun b.first 0 a.count A B none due
      → Led prepared a b B C
      → Settled prepared a b due' L C
      → Empty due'
      → Filled prepared a b begun C
  filled {shares} {A} {B} {C} {L} {begun} s blank poured led settled nothing =
      record { sound = led.sound begun first; complete = λ x y r. complete r }
    where
      first : Sound prepared a b begun B
      first x y l h = ⊎_elim (λ k. absurd (not_both k (blank.none_held x y l))) (λ k. begins (joins_meets a s k.0 k.1)) (poured.only x y h)

      complete : {x y : ℕ} → Reached prepared a b begun x y → held C x y ≡ true
      complete (begins m) = led.keeps _ _ (poured.all _ _ (omega arith) m.left (meets_joins a s m))
      complete (goes r o) =
          let (l, k) = reached_within r in
          settled.onward _ _ _ _ l k (settled.caught_up _ l (nothing _) _ (complete r)) o

  -- where no text begins, none is reached
  pub filled_none : {A : List ℕ} {begun : Set} → Blank a.count A → Empty begun → Filled prepared a b begun A
  filled_none {A} {begun} blank none = record { sound = λ x y l h. absurd (not_both h (blank.none_held x y l)); complete = λ x y r. absurd (never r) }
    where
      never : {x y : ℕ} → Reached prepared a b begun x y → ⊥
      never (begins m) = not_both m.in_left (none _)
      never (goes r o) = never r

  -- A row that is due has a pair that is not led on, so that the sum of those that are grows; and it has a bound.
  pub spread_less :
      {due due' : Set} {L A M B : List ℕ} {x : ℕ}
      → Settled prepared a b due L A
      → holds due x ≡ true
      → Spread prepared a b x L M A B due due'
      → length M ≡ 256
      → ((i : ℕ) → get_or M i 0 < 2 ^ 64)
      → 256 * 2 ^ 64 - total M < 256 * 2 ^ 64 - total L
  spread_less {M = M} {x = x} settled next spread size words =
      let bound : total M ≤ 256 * 2 ^ 64 = omega (arith, rw size at (total_bound M (2 ^ 64) words)) in
      omega (arith, bound, spread.grows (settled.waiting x next))
