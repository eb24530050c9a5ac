-- The path of a text, step by step: what the loops forward cite. Assumes nothing.
use mathlib.Core.Path.{◌≡◌, refl, sym, ap, subst, ◌∙◌}
use mathlib.Core.Bool.{Bool, true, false, true≢false}
use mathlib.Core.List.{List, [], ◌∷◌, ◌++◌, append_assoc}
use mathlib.Core.Logic.Iff
use mathlib.Core.Logic.{◌↔◌, ⊎_elim}
use Prim.Native.Nat.{ℕ, suc, ◌+◌, ◌<◌}
use native.Mathlib.Numerals.{add-one}
use native.Mathlib.Omega.{arith}
use borrow.Author.Tests.{ltb-true, ltb-false, eqb-true, eqb-false}
use lib.Dec.{ltb, eqb}
use lib.ListN.{length, get_or, take, drop, set}
use lib.Seq.{take-suc, take-set-le, get_or-set_same, lt-length-set, drop-cons}
use Rattle.semantics.specs.Text.{Text}
use Rattle.semantics.specs.Pattern.{Pattern, In, nullable, matches}
use Rattle.semantics.specs.Table.{positions}
use Rattle.laws.specs.Basics.{not_both, false_of_not_true, and_both, and_of, bool_cases}
use Rattle.laws.specs.Membership.{matches_in_lem, in_nullable, nullable_in}
use Rattle.laws.specs.PositionAutomaton.{stands_at, first_at, last_at, follow_at, rest_at, ReadsAt, first_law, follow_law, last_law}
use Rattle.laws.specs.Paths.{LeastStep}
use Rattle.positions.specs.declared.Set.{Set}
use Rattle.positions.specs.declared.Below.{Below}
use Rattle.positions.specs.Positions.{holds, Met, FirstFrom}
use Rattle.positions.specs.Below.{Taken, Done}
use Rattle.positions.proofs.Walk.{WalkAt, at_start, at_first, at_inside, at_next, at_end}
use Rattle.automaton.specs.declared.Automaton.{Automaton}
use Rattle.automaton.specs.Rows.{stands_in, Room, Describes, follow_of}
use Rattle.language.specs.Runs.{Behind}
use Rattle.language.proofs.Steps.{stands_is, counted}
use Rattle.walks.specs.declared.Walk.{Walk}
use Rattle.walks.specs.Walking.{Reads, NoneReads, Lowest, Alone, Past, ReadsOn, Walked, walk_at}
use Rattle.std.specs.Prelude.{Option, None, Some, IfSome}
use Rattle.std.specs.Option.{is_some}

-- a text belongs exactly if it can be read on from the first positions
whole_reads : (r : Pattern) (t : Text) → In r t ↔ ReadsOn r (nullable r) (first_at r) t
whole_reads r [] = (in_nullable r, nullable_in r)
whole_reads r (c ∷ t) = first_law r c t

-- and it may stand behind a position exactly if it can be read on from those that may follow
rest_reads : (r : Pattern) (p : ℕ) → p < positions r → (t : Text) → In (rest_at r p) t ↔ ReadsOn r (last_at r p) (follow_at r p) t
rest_reads r p l [] = last_law r p l
rest_reads r p l (c ∷ t) = follow_law r p l c t

-- the positions that are written so far, with one more
path_more : (path : List ℕ) (i p : ℕ) → i < length path → take (suc i) (set path i p) ≡ take i path ++ p ∷ []
path_more path i p h =
    take-suc (set path i p) i 0 (lt-length-set path i p h)
    ∙ ap (λ (xs : List ℕ). xs ++ get_or (set path i p) i 0 ∷ []) (take-set-le i path i p (omega arith))
    ∙ ap (λ (q : ℕ). take i path ++ q ∷ []) (get_or-set_same path i p 0 h)

-- Position p is the lowest of those allowed from which c and then t can be read, if they can be read at all.
pub record Takes (r : Pattern) (may : ℕ → Bool) (c : ℕ) (t : Text) (p : ℕ) : Type 0 where
  pub in_pattern : p < positions r
  pub allowed : may p ≡ true
  pub stands : stands_at r p c ≡ true
  pub lowest : (q : ℕ) → q < p → may q ≡ true → stands_at r q c ≡ true → ¬ In (rest_at r q) t
  pub sure : ReadsAt r may c t → In (rest_at r p) t

-- c and then t can be read exactly if t may stand behind that position
takes_iff : {r : Pattern} {may : ℕ → Bool} {c p : ℕ} {t : Text} → Takes r may c t p → ReadsAt r may c t ↔ In (rest_at r p) t
takes_iff {p = p} takes =
    (takes.sure, λ i. record { position = p; in_pattern = takes.in_pattern; allowed = takes.allowed; stands = takes.stands; rest_in = i })

-- it is the next step of the least path
abbrev least_step : {r : Pattern} {may : ℕ → Bool} {c p : ℕ} {t : Text} → Takes r may c t p → LeastStep r 0 may p c t
least_step {p = p} takes =
    record { place = p; place_is = omega arith; in_pattern = takes.in_pattern; allowed = takes.allowed; stands = takes.stands; lowest = takes.lowest }

module _ {prepared : List ℕ} {a : Automaton} {text path : List ℕ} where
  pub walked_begins : Walked prepared a text path (record { at = 0; here = a.nullable; set = a.first })
  walked_begins =
      record {
        within = omega arith;
        so_far = λ r d.
            record {
              ends = nullable r;
              may = first_at r;
              here_is = d.nullable_is;
              set_is = d.first_is;
              belongs_iff = whole_reads r text;
              goes_on = λ more h. record { steps = h };
            };
      }

  module _ {walk : Walk} (known : Walked prepared a text path walk) (h : walk.at < length text) where
    -- what is left of the text
    left_is : drop walk.at text ≡ get_or text walk.at 0 ∷ drop (suc walk.at) text
    left_is = drop-cons text walk.at 0 h

    -- One byte more was read, at p.
    pub walked_more :
        {p : ℕ} {next : Walk} → length path ≡ length text → Past prepared a p (walk.at + 1) next
        → ((r : Pattern) (d : Describes r a prepared) → Takes r (known.so_far r d).may (get_or text walk.at 0) (drop (suc walk.at) text) p)
        → Walked prepared a text (set path walk.at p) next
    walked_more {p} same past takes =
        record {
          within = omega (arith, past.at_is);
          so_far = λ r d.
              let before = known.so_far r d in
              let step = takes r d in
              record {
                ends = last_at r p;
                may = follow_at r p;
                here_is = past.here_is r d;
                set_is = past.set_is r d;
                belongs_iff =
                    rw
                    (past.at_is, add-one walk.at)
                    (Iff.trans (rw left_is at before.belongs_iff) (Iff.trans (takes_iff step) (rest_reads r p step.in_pattern (drop (suc walk.at) text))));
                goes_on = λ more steps.
                    rw
                    (past.at_is, add-one walk.at, path_more path walk.at p (omega arith), append_assoc (take walk.at path) (p ∷ []) more)
                    (before.goes_on (p ∷ more) (rw left_is (least_step step, rw (past.at_is, add-one walk.at) at steps)));
              };
        }

    -- No position can read the next byte and lead to the end: the text does not belong.
    pub walked_stuck :
        (r : Pattern) (d : Describes r a prepared)
        → (ReadsAt r (known.so_far r d).may (get_or text walk.at 0) (drop (suc walk.at) text) → ⊥)
        → matches r text ≡ false
    walked_stuck r d none =
        false_of_not_true (matches r text) (λ e. none ((rw left_is at (known.so_far r d).belongs_iff).0 (matches_in_lem r text e)))

-- A walk that passed p last has come past it.
pub past_at :
    {prepared : List ℕ} {a : Automaton} {p at : ℕ} {set : Set} → Room a prepared → p < a.count → set ≡ follow_of prepared (a.start + p)
    → Past prepared a p at (walk_at a at (Some p) set)
past_at {p = p} room l is =
    record {
      at_is = refl;
      here_is = λ r d. d.last_is p;
      set_is = λ r d q. rw is ((d.row_is p (counted room d p l)).follow_is q);
    }

-- ---- The positions of a set, one after the other

-- None of the positions before the place reads the byte, or the one that was found does and no other.
abbrev pub OneBefore : List ℕ → Automaton → Set → ℕ → ℕ → Option ℕ → Type 0
OneBefore prepared a due byte place None = (q : ℕ) → q < place → Reads prepared a due byte q → ⊥
OneBefore prepared a due byte place (Some found) = Reads prepared a due byte found × ((q : ℕ) → q < place → Reads prepared a due byte q → q ≡ found)

-- So it is for the positions that have come on a walk, those before some place.
pub record OneCame (prepared : List ℕ) (a : Automaton) (due : Set) (byte : ℕ) (walk : Below) (found : Option ℕ) : Type 0 where
  pub place : ℕ
  pub comes : WalkAt due a.count walk place
  pub one : OneBefore prepared a due byte place found

module _ {prepared : List ℕ} {a : Automaton} {due : Set} {byte : ℕ} where
  -- What is true of each position before n that reads the byte, and of the next one if it does, is true of each before what is behind that.
  passed_on :
      (P : ℕ → Type 0) {n p : ℕ}
      → ((q : ℕ) → q < n → Reads prepared a due byte q → P q)
      → (Reads prepared a due byte p → P p)
      → FirstFrom due n p
      → (q : ℕ) → q < p + 1 → Reads prepared a due byte q → P q
  passed_on P {n} {p} before here next q h reads =
      ⊎_elim
      (λ e. before q (ltb-true q n e) reads)
      (λ e.
      let k = ltb-false q n e in
      ⊎_elim
      (λ z. let same = eqb-true q p z in subst P (sym same) (here (subst (Reads prepared a due byte) same reads)))
      (λ z. let ne = eqb-false q p z in absurd (not_both reads.held (next.skipped q k (omega arith))))
      (bool_cases (eqb q p)))
      (bool_cases (ltb q n))

  pub one_begins : {walk of : Below} → walk ≡ of → of ≡ record { left = due; end = a.count } → OneCame prepared a due byte walk None
  one_begins same begun = record { place = 0; comes = at_start same begun; one = λ q l reads. absurd (omega arith) }

  module _ {walk after : Below} {p : ℕ} (taken : Taken walk p after) where
    -- The position that comes reads the byte, if it may stand there.
    pub reads_here : {found : Option ℕ} → OneCame prepared a due byte walk found → stands_in prepared (a.start + p) byte ≡ true → Reads prepared a due byte p
    reads_here known stands = record { inside = at_inside known.comes taken; held = (at_first known.comes taken).held taken.small; stands = stands }

    -- Where none came that reads it, it is the lowest.
    pub lowest_here : OneCame prepared a due byte walk None → stands_in prepared (a.start + p) byte ≡ true → Lowest prepared a due byte p
    lowest_here known stands =
        record {
          reads = reads_here known stands;
          none_lower = λ q l reads. passed_on (λ k. k < p → ⊥) (λ k m j _. known.one k m j) (λ j m. omega arith) (at_first known.comes taken) q (omega arith) reads l;
        }

    -- The first at which it may stand is found.
    pub one_found : (found : Option ℕ) → is_some found ≡ false → OneCame prepared a due byte walk found → stands_in prepared (a.start + p) byte ≡ true → OneCame prepared a due byte after (Some p)
    one_found (Some found) none known stands = absurd (true≢false none)
    one_found None none known stands =
        record {
          place = p + 1;
          comes = at_next known.comes taken;
          one = (reads_here known stands, passed_on (λ q. q ≡ p) (λ q l reads. absurd (known.one q l reads)) (λ reads. refl) (at_first known.comes taken));
        }

    -- One at which it may not stand is passed.
    pub one_kept : (found : Option ℕ) → OneCame prepared a due byte walk found → stands_in prepared (a.start + p) byte ≡ false → OneCame prepared a due byte after found
    one_kept None known not-here =
        record {
          place = p + 1;
          comes = at_next known.comes taken;
          one = passed_on (λ q. ⊥) known.one (λ reads. not_both reads.stands not-here) (at_first known.comes taken);
        }
    one_kept (Some found) known not-here =
        record {
          place = p + 1;
          comes = at_next known.comes taken;
          one = (known.one.0, passed_on (λ q. q ≡ found) known.one.1 (λ reads. absurd (not_both reads.stands not-here)) (at_first known.comes taken));
        }

  -- Once none is left, what was found is the answer.
  module _ {walk : Below} (done : Done walk) where
    before_all : {place q : ℕ} → WalkAt due a.count walk place → Reads prepared a due byte q → q < place
    before_all {place} {q} comes reads =
        ⊎_elim (λ e. ltb-true q place e) (λ e. absurd (not_both reads.held (at_end comes done q (ltb-false q place e) reads.inside))) (bool_cases (ltb q place))

    pub none_reads : OneCame prepared a due byte walk None → NoneReads prepared a due byte
    none_reads known = record { none = λ q reads. known.one q (before_all known.comes reads) reads }

    pub one_alone : (found : Option ℕ) → OneCame prepared a due byte walk found → IfSome found (Alone prepared a due byte)
    one_alone None known = tt
    one_alone (Some found) known = record { reads = known.one.0; no_other = λ q reads. known.one.1 q (before_all known.comes reads) reads }

-- ---- Which position a step takes

module _ {r : Pattern} {a : Automaton} {prepared : List ℕ} (room : Room a prepared) (d : Describes r a prepared) where
  -- A position of the pattern that is held, and at which the byte may stand, reads it.
  reads_at : {due : Set} {c q : ℕ} → q < positions r → holds due q ≡ true → stands_at r q c ≡ true → Reads prepared a due c q
  reads_at {c = c} {q = q} l held stands =
      record { inside = omega (arith, d.count_is); held = held; stands = stands_is room d q c l ∙ stands }

  -- What reads a byte is a position of the pattern at which it may stand.
  reads_stands : {due : Set} {c q : ℕ} → Reads prepared a due c q → (q < positions r) × (stands_at r q c ≡ true)
  reads_stands {c = c} {q = q} reads =
      let l = counted room d q reads.inside in
      (l, sym (stands_is room d q c l) ∙ reads.stands)

  module _ (due : Set) {may : ℕ → Bool} (is : (p : ℕ) → holds due p ≡ may p) {c : ℕ} {t : Text} where
    -- Where one position alone can read the byte, the path goes by it.
    pub takes_alone : {p : ℕ} → Reads prepared a due c p → ((q : ℕ) → Reads prepared a due c q → q ≡ p) → Takes r may c t p
    takes_alone {p} reads only =
        let (l, stands) = reads_stands reads in
        record {
          in_pattern = l;
          allowed = sym (is p) ∙ reads.held;
          stands = stands;
          lowest = λ q k m s i. absurd (let e = only q (reads_at (omega arith) (is q ∙ m) s) in omega arith);
          sure = λ x. rw (← only x.position (reads_at x.in_pattern (is x.position ∙ x.allowed) x.stands)) x.rest_in;
        }

    module _ {behind both : Set} (known : Behind r t behind) (met : Met due behind both) where
      -- Of the positions behind which the rest may stand, the path goes by the lowest that can read the byte.
      pub takes_lowest : {p : ℕ} → Reads prepared a both c p → ((q : ℕ) → q < p → Reads prepared a both c q → ⊥) → Takes r may c t p
      takes_lowest {p} reads none =
          let (l, stands) = reads_stands reads in
          let held = and_both (holds due p) (holds behind p) (sym (met p) ∙ reads.held) in
          record {
            in_pattern = l;
            allowed = sym (is p) ∙ held.0;
            stands = stands;
            lowest = λ q k m s i. none q k (read_both (omega arith) m s i);
            sure = λ x. (known.behind_iff p l).0 held.1;
          }
        where
          read_both : {q : ℕ} → q < positions r → may q ≡ true → stands_at r q c ≡ true → In (rest_at r q) t → Reads prepared a both c q
          read_both {q} l m s i = reads_at l (met q ∙ and_of (holds due q) (holds behind q) (is q ∙ m) ((known.behind_iff q l).1 i)) s

      -- Where none of them can, the byte and the rest cannot be read.
      pub takes_none : ((q : ℕ) → Reads prepared a both c q → ⊥) → ReadsAt r may c t → ⊥
      takes_none none x =
          let q = x.position in
          none q (reads_at x.in_pattern (met q ∙ and_of (holds due q) (holds behind q) (is q ∙ x.allowed) ((known.behind_iff q x.in_pattern).1 x.rest_in)) x.stands)
