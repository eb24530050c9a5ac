-- Sets that are gathered position by position, and cells that gain pairs: what the functions' proofs cite. Assumes nothing.
use mathlib.Core.Path.{◌≡◌, refl, sym, ap, ◌∙◌}
use mathlib.Core.Bool.{Bool, true, false, not, ◌||◌, true≢false, false≢true}
use mathlib.Core.List.{List, [], ◌∷◌, ◌++◌}
use mathlib.Core.Logic.{◌↔◌, ⊎_elim}
use Prim.Native.Nat.{ℕ, zero, suc, ◌+◌, ◌*◌, ◌≤◌, ◌<◌}
use native.Mathlib.Nat.{not-suc-le-zero}
use native.Mathlib.Omega.{arith}
use borrow.Author.Tests.{eqb-true, eqb-false, eq-eqb, not-true, not-false}
use lib.Bits.{bit_or, or_add_and, and_le_r}
use lib.Dec.{eqb}
use lib.ListN.{length, get_or, set, take, drop, replicate, length-replicate, length-set, length-append, length-drop}
use Rattle.std.proofs.Common.{length-take}
use lib.Seq.{get_or-set_same, get_or-set_other, set-get_or}
use Rattle.laws.specs.Basics.{bool_cases, not_both, and_both, and_of}
use Rattle.positions.specs.declared.Set.{Set}
use Rattle.positions.specs.declared.Below.{Below}
use Rattle.positions.specs.Positions.{holds, Empty}
use Rattle.positions.specs.Below.{Taken, Done}
use Rattle.positions.proofs.Walk.{WalkAt, at_start, at_first, at_next, at_end}
use Rattle.positions.proofs.Bits.{holds_or, holds_by, bit_zero}
use Rattle.classes.specs.Classes.{any_below}
use Rattle.classes.proofs.Anys.{split_at, same_where, any_more, any_iff}
use Rattle.automaton.specs.declared.Automaton.{Automaton}
use Rattle.automaton.specs.Rows.{share_in}
use Rattle.pairs.specs.Pairs.{Gathered, by_sharing, row_of, total, Change, Gained, Blank}

-- ---- Sets that are gathered

module _ {gives : ℕ → ℕ → Bool} where
  -- nothing is gathered yet
  pub gathered_none : {r : Set} → Empty r → Gathered 0 gives r
  unfolding any_below
  gathered_none nothing = record { holds_is = nothing }

  -- one position more
  pub gathered_more :
      {n : ℕ} {out r : Set}
      → Gathered n gives out
      → ((q : ℕ) → holds r q ≡ (gives n q || holds out q))
      → Gathered (n + 1) gives r
  gathered_more {n} g step =
      record { holds_is = λ q. step q ∙ ap (λ b. gives n q || b) (g.holds_is q) ∙ sym (any_more n (λ p. gives p q)) }

  -- what is gathered is what some position gives
  pub gathered_iff : {n : ℕ} {r : Set} → Gathered n gives r → (q : ℕ) → (holds r q ≡ true) ↔ ((p : ℕ) × (p < n) × (gives p q ≡ true))
  gathered_iff {n} g q = let found = any_iff n (λ p. gives p q) in (λ e. found.0 (sym (g.holds_is q) ∙ e), λ h. g.holds_is q ∙ found.1 h)

  -- positions that give nothing add nothing
  gathered_skip :
      {n m : ℕ} {r : Set}
      → n ≤ m
      → ((p q : ℕ) → n ≤ p → p < m → gives p q ≡ false)
      → Gathered n gives r
      → Gathered m gives r
  gathered_skip {n} {m} up none g =
      record {
        holds_is =
            λ q.
            let some = any_iff n (λ p. gives p q) in
            let all = any_iff m (λ p. gives p q) in
            g.holds_is q
            ∙ same_where
            _
            _
            (λ e. let (p, l, u) = some.0 e in all.1 (p, omega arith, u))
            (λ e. let (p, l, u) = all.0 e in some.1 (p, split_at p n (λ k. k) (λ k. absurd (not_both u (none p q k l))), u));
      }

-- What the positions of a set give that have come on a walk over it, those before some place.
pub record GatheredOn (gives : ℕ → ℕ → Bool) (given : Set) (count : ℕ) (walk : Below) (r : Set) : Type 0 where
  pub place : ℕ
  pub comes : WalkAt given count walk place
  pub gathered : Gathered place gives r

-- No others give anything.
module _ {gives : ℕ → ℕ → Bool} {given : Set} (only : (p q : ℕ) → holds given p ≡ false → gives p q ≡ false) {count : ℕ} where
  pub on_begins : {walk of : Below} {r : Set} → walk ≡ of → of ≡ record { left = given; end = count } → Empty r → GatheredOn gives given count walk r
  on_begins same begun nothing = record { place = 0; comes = at_start same begun; gathered = gathered_none nothing }

  pub on_next :
      {walk after : Below} {p : ℕ} {out r : Set}
      → GatheredOn gives given count walk out
      → Taken walk p after
      → ((q : ℕ) → holds given p ≡ true → holds r q ≡ (gives p q || holds out q))
      → GatheredOn gives given count after r
  on_next {p = p} on taken step =
      let first = at_first on.comes taken in
      record {
        place = p + 1;
        comes = at_next on.comes taken;
        gathered = gathered_more (gathered_skip first.from (λ k q l m. only k q (first.skipped k l m)) on.gathered) (λ q. step q (first.held taken.small));
      }

  pub on_end : {walk : Below} {out : Set} → GatheredOn gives given count walk out → Done walk → Gathered count gives out
  on_end on done = gathered_skip on.comes.within (λ k q l m. only k q (at_end on.comes done k l m)) on.gathered

-- the positions that share a byte with that of a row
pub sharing_iff :
    (prepared : List ℕ) (row : ℕ) (b : Automaton) {r : Set}
    → Gathered b.count (by_sharing prepared row b.start) r
    → (y : ℕ)
    → (holds r y ≡ true) ↔ ((y < b.count) × (share_in prepared row (b.start + y) ≡ true))
sharing_iff prepared row b g y = (
  λ e.
      let (p, l, u) = (gathered_iff g y).0 e in
      let (j, same) = and_both _ _ u in
      let same : y ≡ p = eqb-true y p same in
      (rw same l, rw same j),
  λ h. (gathered_iff g y).1 (y, h.0, and_of _ _ h.1 (eq-eqb y y refl)),
)

-- a row is the one that gains, or another
pub case_row : (i x : ℕ) {C : Type 0} → (i ≡ x → C) → (¬ (i ≡ x) → C) → C
case_row i x same other = ⊎_elim (λ e. same (eqb-true i x e)) (λ e. other (eqb-false i x e)) (bool_cases (eqb i x))

-- ---- Changes

-- one change after another
change_more : {A B C : List ℕ} (p q : Bool) → Change A B p → Change B C q → Change A C (p || q)
change_more true true f g = record { grows = λ e. omega (arith, f.grows refl, g.grows refl); same = λ e. absurd (true≢false e) }
change_more true false f g =
    record { grows = λ e. omega (arith, f.grows refl, ap total (g.same refl)); same = λ e. absurd (true≢false e) }
change_more false true f g =
    record { grows = λ e. omega (arith, g.grows refl, ap total (f.same refl)); same = λ e. absurd (true≢false e) }
change_more false false f g = record { grows = λ e. absurd (false≢true e); same = λ e. g.same refl ∙ f.same refl }

-- a word that is set changes the sum by what it gains
total_set : (cells : List ℕ) (i v : ℕ) → i < length cells → total (set cells i v) + get_or cells i 0 ≡ total cells + v
unfolding total
total_set [] i v h = absurd (not-suc-le-zero h)
total_set (x ∷ cells) zero v h = omega arith
total_set (x ∷ cells) (suc i) v h = let k = total_set cells i v (omega arith) in omega arith

-- a word that gains bits
pub word_change :
    (cells : List ℕ) (i bits : ℕ)
    → i < length cells
    → let new = bit_or (get_or cells i 0) bits in
    Change cells (set cells i new) (not (eqb new (get_or cells i 0)))
word_change cells i bits h =
    let old = get_or cells i 0 in
    let new = bit_or old bits in
    record {
      grows =
          λ e.
          let other = eqb-false new old (not-true _ e) in
          omega (arith, total_set cells i new h, or_add_and old bits, and_le_r old bits);
      same = λ e. ap (set cells i) (eqb-true new old (not-false _ e)) ∙ set-get_or cells i 0;
    }

-- a sum of 256 words has a bound, so it cannot grow for ever
pub total_bound : (cells : List ℕ) (k : ℕ) → ((i : ℕ) → get_or cells i 0 < k) → total cells ≤ length cells * k
unfolding total
total_bound [] k h = omega arith
total_bound (x ∷ cells) k h = let rest = total_bound cells k (λ i. h (suc i)) in omega (arith, h 0)

-- ---- Rows

-- the two words of row x set
abbrev pub set_row : List ℕ → ℕ → ℕ → ℕ → List ℕ
set_row cells x low high = set (set cells (2 * x) low) (2 * x + 1) high

-- the row that is set, and the others
module _ (cells : List ℕ) (x low high : ℕ) where
  pub row_set : 2 * x + 1 < length cells → row_of (set_row cells x low high) x ≡ record { low = low; high = high }
  row_set fits =
      let below = set cells (2 * x) low in
      let first = get_or-set_other below (2 * x + 1) (2 * x) high 0 (λ e. omega arith) ∙ get_or-set_same cells (2 * x) low 0 (omega arith) in
      let second = get_or-set_same below (2 * x + 1) high 0 (simp length-set (omega arith)) in
      λ k. record { low = first k; high = second k }

  pub row_beside : (i : ℕ) → ¬ (i ≡ x) → row_of (set_row cells x low high) i ≡ row_of cells i
  row_beside i other = λ k. record { low = word (2 * i) (λ e. other (omega arith)) (λ e. omega arith) k; high = word (2 * i + 1) (λ e. omega arith) (λ e. other (omega arith)) k }
    where
      word : (j : ℕ) → ¬ (j ≡ 2 * x) → ¬ (j ≡ 2 * x + 1) → get_or (set_row cells x low high) j 0 ≡ get_or cells j 0
      word j n m = get_or-set_other (set cells (2 * x) low) (2 * x + 1) j high 0 m ∙ get_or-set_other cells (2 * x) j low 0 n

-- a row whose words gain bits
pub gained :
    {x : ℕ} {s : Set} {A B C : List ℕ} {p q : Bool}
    → 2 * x + 1 < length A
    → B ≡ set A (2 * x) (bit_or (get_or A (2 * x) 0) s.low)
    → C ≡ set B (2 * x + 1) (bit_or (get_or B (2 * x + 1) 0) s.high)
    → Change A B p
    → Change B C q
    → Gained x s A C (p || q)
gained {x} {s} {A} {B} {C} {p} {q} fits first second f g =
    record {
      change = change_more p q f g;
      row_is = λ y. ap (λ (l : List ℕ). holds (row_of l x) y) both ∙ ap (λ (r : Set). holds r y) (row_set A x _ _ fits) ∙ holds_or (row_of A x) s y;
      others = λ i y other. ap (λ (l : List ℕ). holds (row_of l i) y) both ∙ ap (λ (r : Set). holds r y) (row_beside A x _ _ i other);
    }
  where
    low : ℕ
    low = bit_or (get_or A (2 * x) 0) s.low

    both : C ≡ set_row A x low (bit_or (get_or A (2 * x + 1) 0) s.high)
    both =
        second ∙ ap (λ l. set l (2 * x + 1) (bit_or (get_or l (2 * x + 1) 0) s.high)) first
        ∙ ap (λ n. set (set A (2 * x) low) (2 * x + 1) (bit_or n s.high)) (get_or-set_other A (2 * x) (2 * x + 1) low 0 (λ e. omega arith))

nothing_held : (s : Set) → s.low ≡ 0 → s.high ≡ 0 → Empty s
nothing_held s l h q = holds_by s q (λ k. rw l (bit_zero q)) (λ k m. rw h (bit_zero _)) (λ k. refl)

-- cells of which the first words are zeros
pub blank_by : {n : ℕ} {cells : List ℕ} → length cells ≡ 256 → ((i : ℕ) → i < 2 * n → get_or cells i 0 ≡ 0) → Blank n cells
blank_by {n} {cells} size zeros =
    record { size = size; none_held = λ x y l. nothing_held (row_of cells x) (zeros (2 * x) (omega arith)) (zeros (2 * x + 1) (omega arith)) y }

-- zeros in front of the rest
zeros_front : (n : ℕ) (rest : List ℕ) (i : ℕ) → i < n → get_or (replicate {A = ℕ} n 0 ++ rest) i 0 ≡ 0
zeros_front zero rest i l = absurd (omega arith)
zeros_front (suc n) rest zero l = refl
zeros_front (suc n) rest (suc i) l = zeros_front n rest i (omega arith)

-- the words of the first rows are filled with zeros
pub blank_front : (n : ℕ) (front cells : List ℕ) → length cells ≡ 256 → n ≤ 128 → front ≡ replicate (length (take (2 * n) cells)) 0 → Blank n (front ++ drop (2 * n) cells)
blank_front n front cells size few zeros =
    let taken : length (take (2 * n) cells) ≡ 2 * n = simp length-take (omega arith) in
    rw (zeros, taken) (blank_by (simp (length-append, length-replicate, length-drop) (omega arith)) (zeros_front (2 * n) (drop (2 * n) cells)))
