-- The pairs that a stage reaches are those that walks of two patterns reach together, and so the stages answer the questions. Assumes nothing.
use mathlib.Core.Path.{◌≡◌, refl, sym, ◌∙◌, subst}
use mathlib.Core.Bool.{Bool, true, false, ◌&&◌, ◌||◌, false≢true}
use mathlib.Core.List.{List, [], ◌∷◌, ◌++◌}
use mathlib.Core.Logic.Iff
use mathlib.Core.Logic.{inl, inr, ◌↔◌, ⊎_elim}
use mathlib.Core.Option.{none, some, none-ne-some, some-ne-none}
use Prim.Native.Nat.{ℕ, ◌+◌, ◌<◌}
use borrow.Author.Tests.{ltb-true, ltb-false}
use lib.Dec.{ltb}
use Rattle.semantics.specs.Text.{Text}
use Rattle.semantics.specs.Pattern.{Pattern}
use Rattle.semantics.specs.Ambiguity.{Overlap, TwoCuts}
use Rattle.semantics.specs.Table.{positions}
use Rattle.laws.specs.Basics.{bool_cases, not_both, and_both, and_of, or_either, or_left, or_right}
use Rattle.laws.specs.PositionAutomaton.{stands_at, last_within}
use Rattle.laws.specs.Walks.{State, next_at, final_at, Leads, steps_within, leads_join, Staged, Start, Moved, Ends, overlap_staged_iff, cuts_staged_iff}
use Rattle.positions.specs.declared.Set.{Set}
use Rattle.positions.specs.Positions.{holds, Shared}
use Rattle.positions.proofs.Bits.{holds_past}
use Rattle.classes.specs.Classes.{any_below}
use Rattle.classes.proofs.Anys.{any_iff}
use Rattle.automaton.specs.declared.Automaton.{Automaton}
use Rattle.automaton.specs.Rows.{follow_of, RowIs, Describes}
use Rattle.automaton.proofs.Standing.{share_iff}
use Rattle.pairs.specs.Pairs.{Gathered, by_follow, by_row, held, Meets, Reached, begins, goes, Filled}
use Rattle.pairs.proofs.Cells.{gathered_iff}
use Rattle.pairs.proofs.Spreads.{reached_within}
use Rattle.typing.specs.declared.questions.Marked.{Marked}
use Rattle.typing.specs.Stages.{In, Within, StartOnly, NextOf, SomeFinal, StagedBy}

-- a text that is not empty leads to a position
leads_some : (r : Pattern) (x y : State) (c : ℕ) (t : Text) → Leads r x (c ∷ t) y → (p : ℕ) × (y ≡ some p)
unfolding Leads
leads_some r x y c [] (p, s, e) = (p, sym e)
leads_some r x y c (d ∷ t) (p, s, w) = leads_some r (some p) y d t w

-- ---- Marked states

module _ {r : Pattern} {a : Automaton} {prepared : List ℕ} (d : Describes r a prepared) where
  -- the row of each of its positions
  row_at : (p : ℕ) → p < a.count → RowIs r a.start p prepared
  row_at p l = d.row_is p (rw d.count_is at l)

  -- the positions that may come next from a marked state
  next_iff : {m : Marked} {next : Set} → Within a m → NextOf prepared a m next → (q : ℕ) → (holds next q ≡ true) ↔ ((x : State) × In m x × (next_at r x q ≡ true))
  unfolding next_at
  next_iff {m} {next} inside n q = (
    λ e.
        ⊎_elim
        (λ f. let (s, k) = and_both m.start (holds a.first q) f in (none, s, sym (d.first_is q) ∙ k))
        (λ f.
        let (p, l, u) = (any_iff a.count (λ p. by_follow prepared a.start m.at p q)).0 f in
        let (i, k) = and_both (holds m.at p) (holds (follow_of prepared (a.start + p)) q) u in
        (some p, i, sym ((row_at p l).follow_is q) ∙ k))
        (or_either _ _ (sym (n.next_is q) ∙ e)),
    λ h. let (x, i, e) = h in n.next_is q ∙ back x i e,
  )
    where
      back : (x : State) → In m x → next_at r x q ≡ true → (m.start && holds a.first q || any_below a.count (λ p. by_follow prepared a.start m.at p q)) ≡ true
      back none i e = or_left _ _ (and_of m.start (holds a.first q) i (d.first_is q ∙ e))
      back (some p) i e =
          let l = inside.within p i in
          or_right (m.start && holds a.first q) _ (
          (any_iff a.count (λ p. by_follow prepared a.start m.at p q)).1 (
            p,
            l,
            and_of _ _ i ((row_at p l).follow_is q ∙ e),
          )
          )

  -- some marked state is final
  final_iff : (m : Marked) → SomeFinal a m ↔ Ends r (In m)
  unfolding final_at
  final_iff m = (
    λ f.
        ⊎_elim
        (λ h. record { state = none; is_marked = h.0; is_final = sym d.nullable_is ∙ h.1 })
        (λ h. let (p, l, i, k) = h in record { state = some p; is_marked = i; is_final = sym (d.last_is p) ∙ k })
        f,
    λ e. go e.state e.is_marked e.is_final,
  )
    where
      go : (x : State) → In m x → final_at r x ≡ true → SomeFinal a m
      go none i e = inl (i, d.nullable_is ∙ e)
      go (some p) i e =
          inr (
            p,
            ⊎_elim (ltb-true p 128) (λ f. absurd (not_both i (holds_past m.at p (ltb-false p 128 f)))) (bool_cases (ltb p 128)),
            i,
            d.last_is p ∙ e,
          )

-- the test for it
pub final_test : (a : Automaton) (m : Marked) {meets : Bool} → (meets ≡ true) ↔ Shared m.at a.last → (((m.start && a.nullable) || meets) ≡ true) ↔ SomeFinal a m
final_test a m {meets} shared = (
  λ e. ⊎_elim (λ f. inl (and_both m.start a.nullable f)) (λ f. inr (shared.0 f)) (or_either (m.start && a.nullable) meets e),
  λ f.
      ⊎_elim
      (λ h. or_left (m.start && a.nullable) meets (and_of m.start a.nullable h.0 h.1))
      (λ h. or_right (m.start && a.nullable) meets (shared.1 h))
      f,
)

-- ---- Two walks together

module _ {r s : Pattern} {a b : Automaton} {prepared : List ℕ} (d : Describes r a prepared) (e : Describes s b prepared) where
  -- positions that meet have a byte in common
  meets_byte : {xs ys : Set} {x y : ℕ} → Meets prepared a b xs ys x y → (c : ℕ) × (stands_at r x c ≡ true) × (stands_at s y c ≡ true)
  meets_byte {xs} {ys} {x} {y} m =
      let (c, p, q) = (share_iff prepared (a.start + x) (b.start + y)).0 m.share in
      (c, sym ((row_at d x m.left).bytes_are c) ∙ p, sym ((row_at e y m.right).bytes_are c) ∙ q)

  -- and positions with a byte in common meet
  byte_meets :
      {xs ys : Set} {x y : ℕ} (c : ℕ)
      → x < positions r
      → y < positions s
      → holds xs x ≡ true
      → holds ys y ≡ true
      → stands_at r x c ≡ true
      → stands_at s y c ≡ true
      → Meets prepared a b xs ys x y
  byte_meets {xs} {ys} {x} {y} c l k i j p q =
      record {
        left = rw d.count_is l;
        right = rw e.count_is k;
        in_left = i;
        in_right = j;
        share = (share_iff prepared (a.start + x) (b.start + y)).1 (c, (d.row_is x l).bytes_are c ∙ p, (e.row_is y k).bytes_are c ∙ q);
      }

  module _ {m : Marked} {begun : Set} (inside : Within a m) (next : NextOf prepared a m begun) where
    -- Some text leads the first from a marked state to x, and the second from its start to y.
    abbrev Walk : ℕ → ℕ → Type 0
    Walk x y = (from : State) × In m from × (t : Text) × Leads r from t (some x) × Leads s none t (some y)

    -- a pair that is reached is one to which a text leads
    reached_walk : {x y : ℕ} → Reached prepared a b begun x y → Walk x y
    unfolding Leads next_at
    reached_walk (begins {x} {y} n) =
        let (from, i, f) = (next_iff d inside next x).0 n.in_left in
        let (c, p, q) = meets_byte n in (
          from,
          i,
          c ∷ [],
          (x, record { may_follow = f; stands = p }, refl),
          (y, record { may_follow = sym (e.first_is y) ∙ n.in_right; stands = q }, refl),
        )
    reached_walk (goes {x} {y} {i} {j} g n) =
        let (from, k, t, v, w) = reached_walk g in
        let (c, p, q) = meets_byte n in
        let (l, l') = reached_within g in
        let row = row_at d x l in
        let row' = row_at e y l' in (
          from,
          k,
          t ++ c ∷ [],
          leads_join r from (some x) (some i) t (c ∷ []) v (i, record { may_follow = sym (row.follow_is i) ∙ n.in_left; stands = p }, refl),
          leads_join s none (some y) (some j) t (c ∷ []) w (j, record { may_follow = sym (row'.follow_is j) ∙ n.in_right; stands = q }, refl),
        )

    -- from a pair that is reached, a text leads to such pairs only
    goes_on :
        (t : Text) {x y i j : ℕ}
        → Reached prepared a b begun x y
        → Leads r (some x) t (some i)
        → Leads s (some y) t (some j)
        → Reached prepared a b begun i j
    unfolding Leads next_at
    goes_on [] {x} {y} {i} {j} g v w =
        let p : x ≡ i = cc in
        let q : y ≡ j = cc in
        subst (λ n. Reached prepared a b begun i n) q (subst (λ n. Reached prepared a b begun n y) p g)
    goes_on (c ∷ t) {x} {y} g (p, f, v) (q, h, w) =
        let (l, k) = reached_within g in
        let row = row_at d x l in
        let row' = row_at e y k in
        goes_on
        t
        (goes
        g
        (byte_meets
        c
        (steps_within r (some x) c p f)
        (steps_within s (some y) c q h)
        (row.follow_is p ∙ f.may_follow)
        (row'.follow_is q ∙ h.may_follow)
        f.stands
        h.stands))
        v
        w

    -- a pair to which a text leads is reached
    walk_reached : (t : Text) (from : State) {x y : ℕ} → In m from → Leads r from t (some x) → Leads s none t (some y) → Reached prepared a b begun x y
    unfolding Leads next_at
    walk_reached [] from {x} {y} i v w = absurd (none-ne-some y w)
    walk_reached (c ∷ t) from i (p, f, v) (q, h, w) =
        goes_on
        t
        (begins
        (byte_meets
        c
        (steps_within r from c p f)
        (steps_within s none c q h)
        ((next_iff d inside next p).1 (from, i, f.may_follow))
        (e.first_is q ∙ h.may_follow)
        f.stands
        h.stands))
        v
        w

    -- so the rows of the last positions hold the positions of a stage
    staged_at :
        {cells : List ℕ} {at : Set}
        → Filled prepared a b begun cells
        → Gathered a.count (by_row cells a.last) at
        → (y : ℕ)
        → (holds at y ≡ true) ↔ Staged r s (In m) (some y)
    unfolding final_at Leads
    staged_at {cells} {at} filled gathered y = (
      λ h.
          let (x, l, u) = (gathered_iff gathered y).0 h in
          let (last, here) = and_both _ _ u in
          let (from, i, t, v, w) = reached_walk (filled.sound x y l here) in
          record { from = from; is_marked = i; text = t; end = some x; to_end = v; is_final = sym (d.last_is x) ∙ last; beside = w },
      λ g. back g.text g.from g.end g.is_marked g.to_end g.is_final g.beside,
    )
      where
        back :
            (t : Text) (from end : State)
            → In m from
            → Leads r from t end
            → final_at r end ≡ true
            → Leads s none t (some y)
            → holds at y ≡ true
        back [] from end i v f w = absurd (none-ne-some y w)
        back (c ∷ t) from none i v f w = let (p, n) = leads_some r from none c t v in absurd (none-ne-some p n)
        back (c ∷ t) from (some x) i v f w =
            (gathered_iff gathered y).1 (
              x,
              rw d.count_is (last_within r x f),
              and_of _ _ (d.last_is x ∙ f) (filled.complete x y (walk_reached (c ∷ t) from i v w)),
            )

    -- the start is staged where a marked state is final: the text is empty
    staged_start : Ends r (In m) ↔ Staged r s (In m) none
    unfolding Leads
    staged_start = (
      λ h. record { from = h.state; is_marked = h.is_marked; text = []; end = h.state; to_end = refl; is_final = h.is_final; beside = refl },
      λ g. back g.text g.from g.end g.is_marked g.to_end g.is_final g.beside,
    )
      where
        back : (t : Text) (from end : State) → In m from → Leads r from t end → final_at r end ≡ true → Leads s none t none → Ends r (In m)
        back [] from end i v f w = record { state = from; is_marked = i; is_final = subst (λ x. final_at r x ≡ true) (sym v) f }
        back (c ∷ t) from end i v f w = let (p, n) = leads_some s none none c t w in absurd (none-ne-some p n)

-- ---- The questions

-- What a stage gives.
pub stage_law :
    {prepared : List ℕ} {a b : Automaton} {m : Marked} {begun at : Set} {cells : List ℕ} {start : Bool}
    → Within a m
    → NextOf prepared a m begun
    → Filled prepared a b begun cells
    → Gathered a.count (by_row cells a.last) at
    → (start ≡ true) ↔ SomeFinal a m
    → StagedBy prepared a b m (record { start = start; at = at })
stage_law {prepared} {a} {b} {m} {begun} {at} {cells} {start} inside next filled gathered final =
    record {
      inside =
          record {
            within =
                λ y h.
                let (x, l, u) = (gathered_iff gathered y).0 h in
                let (last, here) = and_both (holds a.last x) (held cells x y) u in
                (reached_within (filled.sound x y l here)).1;
          };
      staged = staged;
    }
  where
    staged : (r s : Pattern) → Describes r a prepared → Describes s b prepared → (y : State) → In (record { start = start; at = at }) y ↔ Staged r s (In m) y
    staged r s d e none = Iff.trans final (Iff.trans (final_iff d _) (staged_start d e inside next))
    staged r s d e (some y) = staged_at d e inside next filled gathered y

-- what is marked may be said in another way
module _ {M N : State → Type 0} (same : (x : State) → M x ↔ N x) (r : Pattern) where
  ends_same : Ends r M ↔ Ends r N
  ends_same = (
    λ h. record { state = h.state; is_marked = (same h.state).0 h.is_marked; is_final = h.is_final },
    λ h. record { state = h.state; is_marked = (same h.state).1 h.is_marked; is_final = h.is_final },
  )

  staged_same : (s : Pattern) (y : State) → Staged r s M y ↔ Staged r s N y
  staged_same s y = (
    λ g.
        record {
          from = g.from;
          is_marked = (same g.from).0 g.is_marked;
          text = g.text;
          end = g.end;
          to_end = g.to_end;
          is_final = g.is_final;
          beside = g.beside;
        },
    λ g.
        record {
          from = g.from;
          is_marked = (same g.from).1 g.is_marked;
          text = g.text;
          end = g.end;
          to_end = g.to_end;
          is_final = g.is_final;
          beside = g.beside;
        },
  )

-- the start alone
start_iff : {m : Marked} → StartOnly m → (x : State) → In m x ↔ Start x
start_iff o none = (λ e. refl, λ e. o.start_is)
start_iff o (some p) = (λ h. absurd (not_both h (o.nothing p)), λ e. absurd (some-ne-none p e))

pub start_within : {a : Automaton} {m : Marked} → StartOnly m → Within a m
start_within o = record { within = λ p h. absurd (not_both h (o.nothing p)) }

-- the positions alone: what was staged has moved
moved_iff : (m : Marked) {M : State → Type 0} → ((x : State) → In m x ↔ M x) → (x : State) → In (record { start = false; at = m.at }) x ↔ Moved M x
moved_iff m same none = (λ e. false≢true e, λ h. absurd h)
moved_iff m same (some p) = same (some p)

-- The text of both languages: one stage from the start.
pub overlap_law :
    {prepared : List ℕ} {a b : Automaton} {m both : Marked} {answer : Bool}
    → StartOnly m
    → StagedBy prepared a b m both
    → (answer ≡ true) ↔ SomeFinal b both
    → (r s : Pattern)
    → Describes r a prepared
    → Describes s b prepared
    → (answer ≡ true) ↔ Overlap r s
overlap_law only one final r s d e =
    Iff.trans
    final
    (Iff.trans
    (final_iff e _)
    (Iff.trans
    (ends_same (λ y. Iff.trans (one.staged r s d e y) (staged_same (start_iff only) r s y)) s)
    (Iff.symm (overlap_staged_iff r s))))

-- Two cuts: three stages.
pub cuts_law :
    {prepared : List ℕ} {a b : Automaton} {m first second third : Marked} {answer : Bool}
    → StartOnly m
    → StagedBy prepared a a m first
    → StagedBy prepared a b first second
    → StagedBy prepared b b (record { start = false; at = second.at }) third
    → (answer ≡ true) ↔ SomeFinal b third
    → (r s : Pattern)
    → Describes r a prepared
    → Describes s b prepared
    → (answer ≡ true) ↔ TwoCuts r s
cuts_law {m = m} {first} {second} {third} only one two three final r s d e =
    Iff.trans
    final
    (Iff.trans (final_iff e _) (Iff.trans (ends_same (λ y. Iff.trans (three.staged s s e e y) (staged_same moved s s y)) s) (Iff.symm (cuts_staged_iff r s))))
  where
    first_is : (x : State) → In first x ↔ Staged r r Start x
    first_is x = Iff.trans (one.staged r r d d x) (staged_same (start_iff only) r r x)

    second_is : (x : State) → In second x ↔ Staged r s (Staged r r Start) x
    second_is x = Iff.trans (two.staged r s d e x) (staged_same first_is r s x)

    moved : (x : State) → In (record { start = false; at = second.at }) x ↔ Moved (Staged r s (Staged r r Start)) x
    moved = moved_iff _ second_is
