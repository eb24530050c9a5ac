-- The ways of a quest's graph are the two readings of a text: an early pair has both in the part, a late one has them in the whole and the rest.
use mathlib.Core.Path.{◌≡◌, refl, sym, ap, subst, ◌∙◌}
use mathlib.Core.Bool.{Bool, true, false, ◌&&◌, cond}
use mathlib.Core.List.{List, [], ◌∷◌}
use mathlib.Core.Logic.Iff
use mathlib.Core.Logic.{◌⊎◌, inl, inr, ⊎_elim, ◌↔◌}
use Prim.Native.Nat.{ℕ, ◌+◌, ◌-◌, ◌*◌, ◌/◌, ◌%◌, ◌≤◌, ◌<◌}
use native.Mathlib.Omega.{arith}
use lib.Dec.{ltb, leb}
use borrow.Author.Tests.{ltb-true, ltb-false, lt-ltb, le-ltb, le-leb, lt-leb}
use Rattle.semantics.specs.Text.{Text}
use Rattle.semantics.specs.Pattern.{Pattern, nullable}
use Rattle.semantics.specs.Table.{positions}
use Rattle.laws.specs.Basics.{bool_cases, not_both, and_both, and_of, or_either, or_left, or_right}
use Rattle.laws.specs.PositionAutomaton.{stands_at, first_at, last_at, follow_at, first_within}
use Rattle.clash.specs.Clash.{one_arm, cut_twice, breaks}
use Rattle.clash.proofs.Twofold.{
  Whole,
  Late,
  Early,
  BothStep,
  late_end_iff,
  late_step_iff,
  early_end,
  early_step_iff,
  cut_end,
  cut_step_iff,
  arm_end,
  arm_step_iff,
}
use Rattle.positions.specs.Positions.{holds}
use Rattle.positions.proofs.Bits.{bit_zero, holds_by}
use Rattle.automaton.specs.declared.Automaton.{Automaton}
use Rattle.automaton.specs.Rows.{set_at, stands_in, Describes}
use Rattle.automaton.proofs.Standing.{stands_byte}
use Rattle.search.specs.declared.patches.Patch.{Patch}
use Rattle.search.specs.declared.patches.Quest.{Quest}
use Rattle.search.specs.Graph.{Graph, Steps, Way, Accepts}
use Rattle.search.specs.Pairs.{
  in_patch,
  no_set,
  no_patch,
  before_of,
  linked_of,
  left_row,
  right_row,
  precedes_in,
  begins_in,
  inside_of,
  graph_of,
  QuestFits,
}
use Rattle.search.proofs.Queues.{in_patch_parts, in_patch_of, held_below}
use Rattle.quests.specs.Quests.{cut_quest, arm_quest, LedAt, Tables, Asks}

-- ---- Pairs as numbers

-- the pair of positions of the part
abbrev early : ℕ → ℕ → ℕ
early p q = 128 * p + q

-- the pair of positions of the whole and the rest
abbrev late : ℕ → ℕ → ℕ
late p q = 128 * (128 + p) + q

-- Each number is an early pair or a late one.
shape :
    (pair : ℕ)
    → ((i : ℕ) × (j : ℕ) × (i < 128) × (j < 128) × (pair ≡ early i j)) ⊎ ((i : ℕ) × (j : ℕ) × (j < 128) × (pair ≡ late i j))
shape pair =
    ⊎_elim
    (λ e. inl (pair / 128, pair % 128, ltb-true (pair / 128) 128 e, omega arith, omega arith))
    (λ e. let h = ltb-false (pair / 128) 128 e in inr (pair / 128 - 128, pair % 128, omega arith, omega arith))
    (bool_cases (ltb (pair / 128) 128))

-- the pairs at which a text may end
abbrev goal_of : Automaton → Automaton → Patch
goal_of whole rest = record { base = 128; rows = whole.last; columns = rest.last }

-- The empty set holds nothing, and no pair is in the empty patch.
nothing_held : (p : ℕ) → holds no_set p ≡ false
unfolding no_set
nothing_held p = holds_by no_set p (λ h. bit_zero p) (λ h k. bit_zero (p - 64)) (λ h. refl)

nothing_in : (row column : ℕ) → ¬ (in_patch no_patch row column ≡ true)
unfolding no_patch
nothing_in row column e = not_both (in_patch_parts no_patch row column e).1 (nothing_held (row - 0))

-- A pair is in a patch if its row, counted from the base, is one of the rows, and its column one of the columns.
in_patch_iff :
    (b : Patch) (row p column : ℕ) → row ≡ b.base + p
    → (in_patch b row column ≡ true) ↔ ((holds b.rows p ≡ true) × (holds b.columns column ≡ true))
in_patch_iff b row p column e =
    let back : row - b.base ≡ p = omega arith in (
      λ h. let (upper, of_row, of_column) = in_patch_parts b row column h in (subst (λ (k : ℕ). holds b.rows k ≡ true) back of_row, of_column),
      λ h. in_patch_of b row column (omega arith) (rw back h.0) h.1,
    )

-- ---- Where a byte may stand

-- four tests that are true together
four_iff : (a b c d : Bool) → ((a && b) && (c && d) ≡ true) ↔ ((a ≡ true) × (b ≡ true) × (c ≡ true) × (d ≡ true))
four_iff a b c d = (
  λ e.
      let (l, r) = and_both (a && b) (c && d) e in
      let (x, y) = and_both a b l in
      let (z, w) = and_both c d r in
      (x, y, z, w),
  λ h. and_of (a && b) (c && d) (and_of a b h.0 h.1) (and_of c d h.2 h.3),
)

-- The byte may stand at positions i and j of two patterns.
abbrev StandsAtBoth : Pattern → Pattern → ℕ → ℕ → ℕ → Type 0
StandsAtBoth k l c i j = (i < positions k) × (j < positions l) × (stands_at k i c ≡ true) × (stands_at l j c ≡ true)

-- as their automata tell
both_stand_iff :
    (prepared : List ℕ) (a b : Automaton) (k l : Pattern) → Describes k a prepared → Describes l b prepared → (c i j : ℕ)
    → ((ltb i a.count && ltb j b.count) && (stands_in prepared (a.start + i) c && stands_in prepared (b.start + j) c) ≡ true)
    ↔ StandsAtBoth k l c i j
both_stand_iff prepared a b k l told told' c i j =
    let four = four_iff (ltb i a.count) (ltb j b.count) (stands_in prepared (a.start + i) c) (stands_in prepared (b.start + j) c) in (
      λ e.
          let (x, y, z, w) = four.0 e in
          let m = ltb-true i a.count x in
          let n = ltb-true j b.count y in
          let row : i < positions k = omega (arith, told.count_is) in
          let column : j < positions l = omega (arith, told'.count_is) in
          (row, column, sym ((told.row_is i row).bytes_are c) ∙ z, sym ((told'.row_is j column).bytes_are c) ∙ w),
      λ h.
          let (row, column, z, w) = h in
          four.1 (
            lt-ltb i a.count (omega (arith, told.count_is)),
            lt-ltb j b.count (omega (arith, told'.count_is)),
            (told.row_is i row).bytes_are c ∙ z,
            (told'.row_is j column).bytes_are c ∙ w,
          ),
    )

-- What may stand at a position is a byte.
is_byte : (prepared : List ℕ) (a : Automaton) (r : Pattern) (c i : ℕ) → Describes r a prepared → i < positions r → stands_at r i c ≡ true → c < 256
is_byte prepared a r c i told in_i stands = stands_byte prepared (a.start + i) c ((told.row_is i in_i).bytes_are c ∙ stands)

-- a number added to both leaves a comparison as it is
ltb_added : (i n : ℕ) → ltb (128 + i) (128 + n) ≡ ltb i n
ltb_added i n =
    ⊎_elim
    (λ e. lt-ltb (128 + i) (128 + n) (let h = ltb-true i n e in omega arith) ∙ sym e)
    (λ e. le-ltb (128 + i) (128 + n) (let h = ltb-false i n e in omega arith) ∙ sym e)
    (bool_cases (ltb i n))

module _ (prepared : List ℕ) (q : Quest) (leads : List ℕ) (c i j : ℕ) (column : j < 128) where
  -- At a late pair it may stand at a position of the whole and at one of the rest.
  late_stands_is :
      (graph_of prepared q leads).stands (late i j) c
      ≡ ((ltb i q.whole.count && ltb j q.rest.count) && (stands_in prepared (q.whole.start + i) c && stands_in prepared (q.rest.start + j) c))
  unfolding graph_of inside_of left_row right_row
  late_stands_is =
      let a : (128 * (128 + i) + j) / 128 ≡ 128 + i = omega arith in
      let b : (128 * (128 + i) + j) % 128 ≡ j = omega arith in
      let d : 128 + i - 128 ≡ i = omega arith in
      rw (a, b, le-ltb (128 + i) 128 (omega arith), d, ltb_added i q.whole.count) refl

  -- At an early one it may stand at both positions of the part.
  early_stands_is :
      i < 128
      → (graph_of prepared q leads).stands (early i j) c
      ≡ ((ltb i q.part.count && ltb j q.part.count) && (stands_in prepared (q.part.start + i) c && stands_in prepared (q.part.start + j) c))
  unfolding graph_of inside_of left_row right_row
  early_stands_is row =
      let a : (128 * i + j) / 128 ≡ i = omega arith in
      let b : (128 * i + j) % 128 ≡ j = omega arith in
      rw (a, b, lt-ltb i 128 row) refl

-- ---- What may come before a pair

-- those of its own kind, by the tables of what a position may follow
abbrev own_late : List ℕ → ℕ → ℕ → Patch
own_late leads i j = record { base = 128; rows = set_at leads (2 * (128 + i)); columns = set_at leads (2 * (256 + j)) }

before_late : (leads : List ℕ) (i j : ℕ) → before_of leads (128 + i) j ≡ own_late leads i j
unfolding before_of
before_late leads i j = rw (le-ltb (128 + i) 128 (omega arith)) refl

abbrev own_early : List ℕ → ℕ → ℕ → Patch
own_early leads i j = record { base = 0; rows = set_at leads (2 * i); columns = set_at leads (2 * j) }

before_early : (leads : List ℕ) (i j : ℕ) → i < 128 → before_of leads i j ≡ own_early leads i j
unfolding before_of
before_early leads i j row = rw (lt-ltb i 128 row) refl

-- No pairs are linked to an early one.
linked_early : (q : Quest) (leads : List ℕ) (i j : ℕ) → i < 128 → linked_of q leads i j ≡ no_patch
unfolding linked_of
linked_early q leads i j row = rw (lt-leb 128 i row) refl

-- an early pair may come before a late one where the first reading may end and the rest begin
linked_late_iff :
    (q : Quest) (leads : List ℕ) (i j x y : ℕ)
    → (in_patch (linked_of q leads (128 + i) j) x y ≡ true)
    ↔ ((i < q.part.count) × (holds q.first j ≡ true) × (holds q.last x ≡ true) × (holds (set_at leads (2 * i)) y ≡ true))
unfolding linked_of
linked_late_iff q leads i j x y = go (leb 128 (128 + i) && (ltb (128 + i) (128 + q.part.count) && holds q.first j)) refl
  where
    found : Patch
    found = record { base = 0; rows = q.last; columns = set_at leads (2 * (128 + i - 128)) }

    go :
        (b : Bool) → leb 128 (128 + i) && (ltb (128 + i) (128 + q.part.count) && holds q.first j) ≡ b
        → (in_patch (cond b found no_patch) x y ≡ true)
        ↔ ((i < q.part.count) × (holds q.first j ≡ true) × (holds q.last x ≡ true) × (holds (set_at leads (2 * i)) y ≡ true))
    go true e =
        let back : 128 + i - 128 ≡ i = omega arith in
        let (l, m) = and_both (leb 128 (128 + i)) (ltb (128 + i) (128 + q.part.count) && holds q.first j) e in
        let (n, o) = and_both (ltb (128 + i) (128 + q.part.count)) (holds q.first j) m in
        let k = ltb-true (128 + i) (128 + q.part.count) n in (
          λ h.
              let (of_row, of_column) = (in_patch_iff found x x y (omega arith)).0 h in
              (omega arith, o, of_row, subst (λ (m : ℕ). holds (set_at leads (2 * m)) y ≡ true) back of_column),
          λ h. (in_patch_iff found x x y (omega arith)).1 (h.2, rw back h.3),
        )
    go false e = (
      λ h. absurd (nothing_in x y h),
      λ h.
          absurd (
          not_both
          (and_of (leb 128 (128 + i)) (ltb (128 + i) (128 + q.part.count) && holds q.first j) (le-leb 128 (128 + i) (omega arith))
          (and_of (ltb (128 + i) (128 + q.part.count)) (holds q.first j) (lt-ltb (128 + i) (128 + q.part.count) (omega (arith, h.0))) h.1))
          e
          ),
    )

module _ (q : Quest) (leads : List ℕ) (x y i j : ℕ) (column : y < 128) (column' : j < 128) where
  -- what comes before a pair is of its kind or linked to it
  precedes_iff :
      (row row' : ℕ)
      → (precedes_in q leads (128 * row + y) (128 * row' + j) ≡ true)
      ↔ ((in_patch (before_of leads row' j) row y ≡ true) ⊎ (in_patch (linked_of q leads row' j) row y ≡ true))
  unfolding precedes_in
  precedes_iff row row' =
      let a : (128 * row + y) / 128 ≡ row = omega arith in
      let b : (128 * row + y) % 128 ≡ y = omega arith in
      let c : (128 * row' + j) / 128 ≡ row' = omega arith in
      let d : (128 * row' + j) % 128 ≡ j = omega arith in
      rw (a, b, c, d) (
        or_either (in_patch (before_of leads row' j) row y) (in_patch (linked_of q leads row' j) row y),
        ⊎_elim
            (or_left (in_patch (before_of leads row' j) row y) (in_patch (linked_of q leads row' j) row y))
            (or_right (in_patch (before_of leads row' j) row y) (in_patch (linked_of q leads row' j) row y)),
      )

  -- a late pair before a late one
  late_late_iff :
      (precedes_in q leads (late x y) (late i j) ≡ true)
      ↔ ((holds (set_at leads (2 * (128 + i))) x ≡ true) × (holds (set_at leads (2 * (256 + j))) y ≡ true))
  late_late_iff =
      let own = in_patch_iff (own_late leads i j) (128 + x) x y (omega arith) in (
        λ e.
            ⊎_elim
            (λ h. own.0 (subst (λ b. in_patch b (128 + x) y ≡ true) (before_late leads i j) h))
            (λ h. absurd (let l = held_below q.last (128 + x) ((linked_late_iff q leads i j (128 + x) y).0 h).2 in omega arith))
            ((precedes_iff (128 + x) (128 + i)).0 e),
        λ h. (precedes_iff (128 + x) (128 + i)).1 (inl (rw (before_late leads i j) (own.1 h))),
      )

  -- no late pair before an early one
  late_early : i < 128 → ¬ (precedes_in q leads (late x y) (early i j) ≡ true)
  late_early row e =
      ⊎_elim
      (λ h.
      let in-own = subst (λ b. in_patch b (128 + x) y ≡ true) (before_early leads i j row) h in
      let held = ((in_patch_iff (own_early leads i j) (128 + x) (128 + x) y (omega arith)).0 in-own).0 in
      let l = held_below (set_at leads (2 * i)) (128 + x) held in
      omega arith)
      (λ h. nothing_in (128 + x) y (subst (λ b. in_patch b (128 + x) y ≡ true) (linked_early q leads i j row) h))
      ((precedes_iff (128 + x) i).0 e)

  -- an early pair before an early one
  early_early_iff :
      i < 128
      → (precedes_in q leads (early x y) (early i j) ≡ true)
      ↔ ((holds (set_at leads (2 * i)) x ≡ true) × (holds (set_at leads (2 * j)) y ≡ true))
  early_early_iff row =
      let own = in_patch_iff (own_early leads i j) x x y (omega arith) in (
        λ e.
            ⊎_elim
            (λ h. own.0 (subst (λ b. in_patch b x y ≡ true) (before_early leads i j row) h))
            (λ h. absurd (nothing_in x y (subst (λ b. in_patch b x y ≡ true) (linked_early q leads i j row) h)))
            ((precedes_iff x i).0 e),
        λ h. (precedes_iff x i).1 (inl (rw (before_early leads i j row) (own.1 h))),
      )

  -- an early pair before a late one
  early_late_iff :
      x < 128
      → (precedes_in q leads (early x y) (late i j) ≡ true)
      ↔ ((i < q.part.count) × (holds q.first j ≡ true) × (holds q.last x ≡ true) × (holds (set_at leads (2 * i)) y ≡ true))
  early_late_iff row =
      let linked = linked_late_iff q leads i j x y in (
        λ e.
            ⊎_elim
            (λ h.
            let in-own = subst (λ b. in_patch b x y ≡ true) (before_late leads i j) h in
            absurd (let l = (in_patch_parts (own_late leads i j) x y in-own).0 in omega arith))
            linked.0
            ((precedes_iff x (128 + i)).0 e),
        λ h. (precedes_iff x (128 + i)).1 (inr (linked.1 h)),
      )

-- ---- The readings of a late pair

-- the places that lead to a position, by what may follow them
led_iff :
    (prepared leads : List ℕ) (a : Automaton) (r : Pattern) (base place : ℕ) → Describes r a prepared → LedAt prepared a base leads
    → (x i : ℕ) → x < positions r → i < positions r → place ≡ base + i → (holds (set_at leads (2 * place)) x ≡ true) ↔ (follow_at r x i ≡ true)
led_iff prepared leads a r base place told led x i in-x in_i at =
    let there = led i (omega (arith, told.count_is)) x in
    rw at (
      λ h. sym ((told.row_is x in-x).follow_is i) ∙ (there.0 h).1,
      λ h. there.1 (omega (arith, told.count_is), (told.row_is x in-x).follow_is i ∙ h),
    )

-- The tables are those of the quest, of whose automata the whole's and the rest's describe w and s; a text may end where these may.
record LateRead (prepared : List ℕ) (q : Quest) (leads : List ℕ) (w s : Pattern) : Type 0 where
  tables : Tables prepared q leads
  of_whole : Describes w q.whole prepared
  of_rest : Describes s q.rest prepared
  few : q.rest.count ≤ 128
  goal_is : q.goal ≡ goal_of q.whole q.rest

module _
    {prepared : List ℕ} {q : Quest} {leads : List ℕ} {w s : Pattern} (known : LateRead prepared q leads w s) where
  abbrev g : Graph
  g = graph_of prepared q leads

  -- a byte may stand at a late pair if it may at both its positions
  late_stands_iff : (c i j : ℕ) → j < 128 → (g.stands (late i j) c ≡ true) ↔ StandsAtBoth w s c i j
  late_stands_iff c i j column =
      rw (late_stands_is prepared q leads c i j column)
      (both_stand_iff prepared q.whole q.rest w s known.of_whole known.of_rest c i j)

  -- a position of the rest is a column
  column_of : (j : ℕ) → j < positions s → j < 128
  column_of j h = omega (arith, known.few, known.of_rest.count_is)

  -- a text may end at a late pair if it may at both its positions
  late_ends_iff : (x y : ℕ) → y < positions s → (g.ends (late x y) ≡ true) ↔ ((last_at w x ≡ true) × (last_at s y ≡ true))
  unfolding graph_of
  late_ends_iff x y in-y =
      let column = column_of y in-y in
      let a : (128 * (128 + x) + y) / 128 ≡ 128 + x = omega arith in
      let b : (128 * (128 + x) + y) % 128 ≡ y = omega arith in
      rw (a, b, known.goal_is, sym (known.of_whole.last_is x), sym (known.of_rest.last_is y))
      (in_patch_iff (goal_of q.whole q.rest) (128 + x) x y (omega arith))

  -- A byte leads on from a late pair to another one: both readings go on.
  late_steps_iff :
      (x y c next : ℕ) → x < positions w → y < positions s
      → Steps g (late x y) c next ↔ ((i : ℕ) × (j : ℕ) × (next ≡ late i j) × BothStep w s (follow_at w x) (follow_at s y) c i j)
  unfolding graph_of
  late_steps_iff x y c next in-x in-y = (to, from)
    where
      follows_iff :
          (i j : ℕ) → i < positions w → j < positions s
          → (precedes_in q leads (late x y) (late i j) ≡ true) ↔ ((follow_at w x i ≡ true) × (follow_at s y j ≡ true))
      follows_iff i j in_i in-j =
          Iff.trans (late_late_iff q leads x y i j (column_of y in-y) (column_of j in-j))
          (Iff.and
          (led_iff prepared leads q.whole w 128 (128 + i) known.of_whole known.tables.whole_led x i in-x in_i refl)
          (led_iff prepared leads q.rest s 256 (256 + j) known.of_rest known.tables.rest_led y j in-y in-j refl))

      to : Steps g (late x y) c next → (i : ℕ) × (j : ℕ) × (next ≡ late i j) × BothStep w s (follow_at w x) (follow_at s y) c i j
      to step =
          ⊎_elim
          (λ (i, j, row, column, e).
          absurd (late_early q leads x y i j (column_of y in-y) column row (subst (λ (k : ℕ). precedes_in q leads (late x y) k ≡ true) e step.may_follow)))
          (λ (i, j, column, e).
          let (in_i, in-j, stands, stands') = (late_stands_iff c i j column).0 (subst (λ (k : ℕ). g.stands k c ≡ true) e step.may_stand) in
          let (may, may') = (follows_iff i j in_i in-j).0 (subst (λ (k : ℕ). precedes_in q leads (late x y) k ≡ true) e step.may_follow) in
          (i, j, e, record { left = in_i; right = in-j; may_left = may; may_right = may'; stands_left = stands; stands_right = stands' }))
          (shape next)

      from : (i : ℕ) × (j : ℕ) × (next ≡ late i j) × BothStep w s (follow_at w x) (follow_at s y) c i j → Steps g (late x y) c next
      from (i, j, e, b) =
          rw e (
          record {
            byte = is_byte prepared q.whole w c i known.of_whole b.left b.stands_left;
            may_follow = (follows_iff i j b.left b.right).1 (b.may_left, b.may_right);
            may_stand = (late_stands_iff c i j (column_of j b.right)).1 (b.left, b.right, b.stands_left, b.stands_right);
          }
          )

  -- The ways from a late pair are the texts of both readings.
  late_way_iff : (t : Text) (x y : ℕ) → x < positions w → y < positions s → Way g (late x y) t ↔ Late w s x y t
  unfolding Way
  late_way_iff [] x y in-x in-y = Iff.trans (late_ends_iff x y in-y) (Iff.symm (late_end_iff w s x y in-x in-y))
  late_way_iff (c ∷ t) x y in-x in-y = (
    λ (next, step, way).
        let (i, j, e, b) = (late_steps_iff x y c next in-x in-y).0 step in
        (late_step_iff w s x y in-x in-y c t).1 (i, j, b, (late_way_iff t i j b.left b.right).0 (subst (λ (k : ℕ). Way g k t) e way)),
    λ h.
        let (i, j, b, l) = (late_step_iff w s x y in-x in-y c t).0 h in
        (late i j, (late_steps_iff x y c (late i j) in-x in-y).1 (i, j, refl, b), (late_way_iff t i j b.left b.right).1 l),
  )

-- ---- The pairs by which a text begins

module _ (q : Quest) (i j : ℕ) (early_base : q.early.base ≡ 0) (late_base : q.late.base ≡ 128) (column : j < 128) where
  -- a text begins by a pair of either patch
  begins_iff : (row : ℕ) → (begins_in q (128 * row + j) ≡ true) ↔ ((in_patch q.early row j ≡ true) ⊎ (in_patch q.late row j ≡ true))
  unfolding begins_in
  begins_iff row =
      let a : (128 * row + j) / 128 ≡ row = omega arith in
      let b : (128 * row + j) % 128 ≡ j = omega arith in
      rw (a, b) (
        or_either (in_patch q.early row j) (in_patch q.late row j),
        ⊎_elim (or_left (in_patch q.early row j) (in_patch q.late row j)) (or_right (in_patch q.early row j) (in_patch q.late row j)),
      )

  -- by a late pair if it is in the patch of these,
  begins_late_iff : (begins_in q (late i j) ≡ true) ↔ ((holds q.late.rows i ≡ true) × (holds q.late.columns j ≡ true))
  begins_late_iff =
      let in-late = in_patch_iff q.late (128 + i) i j (omega arith) in (
        λ e.
            ⊎_elim
            (λ h.
            let held = ((in_patch_iff q.early (128 + i) (128 + i) j (omega arith)).0 h).0 in
            absurd (let l = held_below q.early.rows (128 + i) held in omega arith))
            in-late.0
            ((begins_iff (128 + i)).0 e),
        λ h. (begins_iff (128 + i)).1 (inr (in-late.1 h)),
      )

  -- and by an early one if it is in the other
  begins_early_iff : i < 128 → (begins_in q (early i j) ≡ true) ↔ ((holds q.early.rows i ≡ true) × (holds q.early.columns j ≡ true))
  begins_early_iff row =
      let in-early = in_patch_iff q.early i i j (omega arith) in (
        λ e. ⊎_elim in-early.0 (λ h. absurd (let l = (in_patch_parts q.late i j h).0 in omega arith)) ((begins_iff i).0 e),
        λ h. (begins_iff i).1 (inl (in-early.1 h)),
      )

-- ---- The readings of an early pair

module _
    {prepared : List ℕ} {q : Quest} {leads : List ℕ} {w s : Pattern} (known : LateRead prepared q leads w s)
    (r : Pattern) (made : Whole r s w) (of_part : Describes r q.part prepared) (few : q.part.count ≤ 128) (last_is : q.last ≡ q.part.last)
    (first_is : q.first ≡ q.rest.first) where
  abbrev graph : Graph
  graph = graph_of prepared q leads

  -- a byte may stand at an early pair if it may at both its positions
  early_stands_iff : (c i j : ℕ) → i < 128 → j < 128 → (graph.stands (early i j) c ≡ true) ↔ StandsAtBoth r r c i j
  early_stands_iff c i j row column =
      rw (early_stands_is prepared q leads c i j column row)
      (both_stand_iff prepared q.part q.part r r of_part of_part c i j)

  -- a position of the part is below 128
  below : (i : ℕ) → i < positions r → i < 128
  below i h = omega (arith, few, of_part.count_is)

  -- no text ends at an early pair
  early_ends : (x y : ℕ) → x < 128 → y < 128 → ¬ (graph.ends (early x y) ≡ true)
  unfolding graph_of
  early_ends x y row column e =
      let a : (128 * x + y) / 128 ≡ x = omega arith in
      let l = (in_patch_parts q.goal ((128 * x + y) / 128) ((128 * x + y) % 128) e).0 in
      let b : q.goal.base ≡ 128 = rw known.goal_is refl in
      omega arith

  -- both readings go on in the part
  abbrev BothOn : ℕ → ℕ → ℕ → ℕ → Type 0
  BothOn x y c next = (i : ℕ) × (j : ℕ) × (next ≡ early i j) × BothStep r r (follow_at r x) (follow_at r y) c i j

  -- the first reading comes to its cut, and the second goes on in the part
  abbrev Cut : ℕ → ℕ → ℕ → ℕ → Type 0
  Cut x y c next = (last_at r x ≡ true) × ((i : ℕ) × (j : ℕ) × (next ≡ late i j) × BothStep r s (follow_at r y) (first_at s) c i j)

  -- A byte leads on from an early pair to an early one, or to a late one.
  early_steps_iff :
      (x y c next : ℕ) → x < positions r → y < positions r → Steps graph (early x y) c next ↔ (BothOn x y c next ⊎ Cut x y c next)
  unfolding graph_of
  early_steps_iff x y c next in-x in-y = (to, ⊎_elim from_both from_cut)
    where
      follows_iff :
          (i j : ℕ) → i < positions r → j < positions r
          → (precedes_in q leads (early x y) (early i j) ≡ true) ↔ ((follow_at r x i ≡ true) × (follow_at r y j ≡ true))
      follows_iff i j in_i in-j =
          Iff.trans (early_early_iff q leads x y i j (below y in-y) (below j in-j) (below i in_i))
          (Iff.and
          (led_iff prepared leads q.part r 0 i of_part known.tables.part_led x i in-x in_i (omega arith))
          (led_iff prepared leads q.part r 0 j of_part known.tables.part_led y j in-y in-j (omega arith)))

      cut_iff :
          (i j : ℕ) → j < positions s
          → (precedes_in q leads (early x y) (late i j) ≡ true)
          ↔ ((i < positions r) × (first_at s j ≡ true) × (last_at r x ≡ true) × (follow_at r y i ≡ true))
      cut_iff i j in-j =
          let before = early_late_iff q leads x y i j (below y in-y) (column_of known j in-j) (below x in-x) in
          let led : i < positions r → (holds (set_at leads (2 * i)) y ≡ true) ↔ (follow_at r y i ≡ true) = λ in_i.
          led_iff prepared leads q.part r 0 i of_part known.tables.part_led y i in-y in_i (omega arith) in
          let firsts : holds q.first j ≡ first_at s j = ap (λ k. holds k j) first_is ∙ known.of_rest.first_is j in
          let lasts : holds q.last x ≡ last_at r x = ap (λ k. holds k x) last_is ∙ of_part.last_is x in (
            λ e.
                let (l, first, last, leads_on) = before.0 e in
                let in_i : i < positions r = omega (arith, of_part.count_is) in
                (in_i, sym firsts ∙ first, sym lasts ∙ last, (led in_i).0 leads_on),
            λ h.
                let (in_i, first, last, leads_on) = h in
                before.1 (omega (arith, of_part.count_is), firsts ∙ first, lasts ∙ last, (led in_i).1 leads_on),
          )

      to : Steps graph (early x y) c next → BothOn x y c next ⊎ Cut x y c next
      to step =
          ⊎_elim
          (λ (i, j, row, column, e).
          let (in_i, in-j, stands, stands') = (early_stands_iff c i j row column).0 (subst (λ (k : ℕ). graph.stands k c ≡ true) e step.may_stand) in
          let (may, may') = (follows_iff i j in_i in-j).0 (subst (λ (k : ℕ). precedes_in q leads (early x y) k ≡ true) e step.may_follow) in
          inl (i, j, e, record { left = in_i; right = in-j; may_left = may; may_right = may'; stands_left = stands; stands_right = stands' }))
          (λ (i, j, column, e).
          let (in_w, in-j, stands, stands') =
          (late_stands_iff known c i j column).0
          (subst (λ (k : ℕ). graph.stands k c ≡ true) e step.may_stand) in
          let (in_i, first, last, may) = (cut_iff i j in-j).0 (subst (λ (k : ℕ). precedes_in q leads (early x y) k ≡ true) e step.may_follow) in
          inr (
            last,
            (
              i,
              j,
              e,
              record {
                left = in_i;
                right = in-j;
                may_left = may;
                may_right = first;
                stands_left = sym (made.stands_is i c in_i) ∙ stands;
                stands_right = stands';
              },
            ),
          ))
          (shape next)

      from_both : BothOn x y c next → Steps graph (early x y) c next
      from_both (i, j, e, b) =
          rw e (
          record {
            byte = is_byte prepared q.part r c i of_part b.left b.stands_left;
            may_follow = (follows_iff i j b.left b.right).1 (b.may_left, b.may_right);
            may_stand = (early_stands_iff c i j (below i b.left) (below j b.right)).1 (b.left, b.right, b.stands_left, b.stands_right);
          }
          )

      from_cut : Cut x y c next → Steps graph (early x y) c next
      from_cut (last, (i, j, e, b)) =
          rw e (
          record {
            byte = is_byte prepared q.part r c i of_part b.left b.stands_left;
            may_follow = (cut_iff i j b.right).1 (b.left, b.may_right, last, b.may_left);
            may_stand =
                (late_stands_iff known c i j (column_of known j b.right)).1
                (omega (arith, b.left, made.more), b.right, made.stands_is i c b.left ∙ b.stands_left, b.stands_right);
          }
          )

  -- The ways from an early pair are the texts that have two cuts behind its positions.
  early_way_iff : (t : Text) (x y : ℕ) → x < positions r → y < positions r → Way graph (early x y) t ↔ Early r s x y t
  unfolding Way
  early_way_iff [] x y in-x in-y = (λ e. absurd (early_ends x y (below x in-x) (below y in-y) e), λ h. absurd (early_end r s x y h))
  early_way_iff (c ∷ t) x y in-x in-y = (
    λ (next, step, way).
        (early_step_iff r s w made x y in-x in-y c t).1
        (⊎_elim
        (λ (i, j, e, b). inl (i, j, b, (early_way_iff t i j b.left b.right).0 (subst (λ (k : ℕ). Way graph k t) e way)))
        (λ (last, (i, j, e, b)).
        let in_w : i < positions w = omega (arith, b.left, made.more) in
        inr (last, (i, j, b, (late_way_iff known t i j in_w b.right).0 (subst (λ (k : ℕ). Way graph k t) e way))))
        ((early_steps_iff x y c next in-x in-y).0 step)),
    λ h.
        ⊎_elim
        (λ (i, j, b, a). (early i j, (early_steps_iff x y c (early i j) in-x in-y).1 (inl (i, j, refl, b)), (early_way_iff t i j b.left b.right).1 a))
        (λ (last, (i, j, b, l)). (
          late i j,
          (early_steps_iff x y c (late i j) in-x in-y).1 (inr (last, (i, j, refl, b))),
          (late_way_iff known t i j (omega (arith, b.left, made.more)) b.right).1 l,
        ))
        ((early_step_iff r s w made x y in-x in-y c t).0 h),
  )

-- ---- Two cuts

-- The patches of the quest for two cuts keep to the rows.
pub cut_fits : (part whole rest : Automaton) → part.count ≤ 128 → QuestFits (cut_quest part whole rest)
unfolding cut_quest
cut_fits part whole rest few =
    record {
      few = few;
      early_fits = record { base_low = omega arith };
      late_fits = record { base_low = omega arith };
      goal_fits = record { base_low = omega arith };
    }

-- Where the part may be empty, the rest begins beside it.
opening_iff :
    (a : Automaton) (r : Pattern) (i : ℕ) (b : Bool) → b ≡ nullable r → holds a.first i ≡ first_at r i
    → (holds (cond b a.first no_set) i ≡ true) ↔ ((nullable r ≡ true) × (first_at r i ≡ true))
opening_iff a r i true e f = (λ h. (sym e, sym f ∙ h), λ h. f ∙ h.1)
opening_iff a r i false e f = (λ h. absurd (not_both h (nothing_held i)), λ h. absurd (not_both h.0 (sym e)))

module _
    (prepared : List ℕ) (part whole rest : Automaton) (leads : List ℕ) (r s w : Pattern) (made : Whole r s w)
    (known : LateRead prepared (cut_quest part whole rest) leads w s) (of_part : Describes r part prepared) (few : part.count ≤ 128) where
  abbrev cuts : Graph
  cuts = graph_of prepared (cut_quest part whole rest) leads

  -- a text begins by a late pair where the part may be empty, and the part and the rest may begin
  cut_late_iff : (i j : ℕ) → j < 128 → (cuts.begins (late i j) ≡ true) ↔ (((nullable r ≡ true) × (first_at r i ≡ true)) × (first_at s j ≡ true))
  unfolding graph_of cut_quest
  cut_late_iff i j column =
      Iff.trans (begins_late_iff (cut_quest part whole rest) i j refl refl column)
      (Iff.and (opening_iff part r i part.nullable of_part.nullable_is (of_part.first_is i)) (rw (known.of_rest.first_is j) Iff.rfl))

  -- and by an early one where the part may begin twice
  cut_early_iff : (i j : ℕ) → i < 128 → j < 128 → (cuts.begins (early i j) ≡ true) ↔ ((first_at r i ≡ true) × (first_at r j ≡ true))
  unfolding graph_of cut_quest
  cut_early_iff i j row column =
      rw (sym (of_part.first_is i), sym (of_part.first_is j)) (begins_early_iff (cut_quest part whole rest) i j refl refl column row)

  -- The accepted texts are those with two cuts.
  cut_accepts : (t : Text) → Accepts cuts t ↔ (cut_twice r s t ≡ true)
  unfolding Accepts cut_quest
  cut_accepts [] = (λ h. absurd h, λ e. absurd (not_both e (cut_end r s)))
  cut_accepts (c ∷ t) = (λ h. (cut_step_iff r s w made c t).1 (to h), λ e. ⊎_elim from_both from_cut ((cut_step_iff r s w made c t).0 e))
    where
      Both : Type 0
      Both = (i : ℕ) × (j : ℕ) × BothStep r r (first_at r) (first_at r) c i j × Early r s i j t

      Opened : Type 0
      Opened = (nullable r ≡ true) × ((i : ℕ) × (j : ℕ) × BothStep r s (first_at r) (first_at s) c i j × Late w s i j t)

      early_texts : (i j : ℕ) → i < positions r → j < positions r → Way cuts (early i j) t ↔ Early r s i j t
      early_texts = early_way_iff known r made of_part few refl refl t

      to : (pair : ℕ) × (c < 256) × (cuts.begins pair ≡ true) × (cuts.stands pair c ≡ true) × Way cuts pair t → Both ⊎ Opened
      to (pair, byte, begun, stood, way) =
          ⊎_elim
          (λ (i, j, row, column, e).
          let (in_i, in-j, stands, stands') = (early_stands_iff known r made of_part few refl refl c i j row column).0 (rw e at stood) in
          let (may, may') = (cut_early_iff i j row column).0 (rw e at begun) in
          inl (
            i,
            j,
            record { left = in_i; right = in-j; may_left = may; may_right = may'; stands_left = stands; stands_right = stands' },
            (early_texts i j in_i in-j).0 (rw e at way),
          ))
          (λ (i, j, column, e).
          let (in_w, in-j, stands, stands') = (late_stands_iff known c i j column).0 (rw e at stood) in
          let ((empty, may), may') = (cut_late_iff i j column).0 (rw e at begun) in
          let in_i = first_within r i may in
          inr (
            empty,
            (
              i,
              j,
              record {
                left = in_i;
                right = in-j;
                may_left = may;
                may_right = may';
                stands_left = sym (made.stands_is i c in_i) ∙ stands;
                stands_right = stands';
              },
              (late_way_iff known t i j in_w in-j).0 (rw e at way),
            ),
          ))
          (shape pair)

      from_both : Both → (pair : ℕ) × (c < 256) × (cuts.begins pair ≡ true) × (cuts.stands pair c ≡ true) × Way cuts pair t
      from_both (i, j, b, a) =
          let row : i < 128 = omega (arith, b.left, few, of_part.count_is) in
          let column : j < 128 = omega (arith, b.right, few, of_part.count_is) in (
            early i j,
            is_byte prepared part r c i of_part b.left b.stands_left,
            (cut_early_iff i j row column).1 (b.may_left, b.may_right),
            (early_stands_iff known r made of_part few refl refl c i j row column).1 (b.left, b.right, b.stands_left, b.stands_right),
            (early_texts i j b.left b.right).1 a,
          )

      from_cut : Opened → (pair : ℕ) × (c < 256) × (cuts.begins pair ≡ true) × (cuts.stands pair c ≡ true) × Way cuts pair t
      from_cut (empty, (i, j, b, l)) =
          let column = column_of known j b.right in
          let in_w : i < positions w = omega (arith, b.left, made.more) in (
            late i j,
            is_byte prepared part r c i of_part b.left b.stands_left,
            (cut_late_iff i j column).1 ((empty, b.may_left), b.may_right),
            (late_stands_iff known c i j column).1 (in_w, b.right, made.stands_is i c b.left ∙ b.stands_left, b.stands_right),
            (late_way_iff known t i j in_w b.right).1 l,
          )

-- A quest for two cuts finds exactly the texts with two cuts.
pub cut_asks :
    (prepared : List ℕ) (part whole rest : Automaton) (r s w : Pattern) → Whole r s w
    → Describes r part prepared → Describes w whole prepared → Describes s rest prepared
    → part.count ≤ 128 → whole.count ≤ 128 → rest.count ≤ 128
    → Asks prepared (cut_quest part whole rest) (cut_twice r s)
unfolding cut_quest
cut_asks prepared part whole rest r s w made of_part of_whole of_rest few few-whole few-rest leads tables =
    cut_accepts prepared part whole rest leads r s w made
    (record {
      tables = tables;
      of_whole = of_whole;
      of_rest = of_rest;
      few = few-rest;
      goal_is = refl;
    })
    of_part few

-- ---- A text of both arms

-- The patches of the quest for a text of both arms keep to the rows.
pub arm_fits : (left right : Automaton) → left.count ≤ 128 → QuestFits (arm_quest left right)
unfolding arm_quest no_patch
arm_fits left right few =
    record {
      few = few;
      early_fits = record { base_low = omega arith };
      late_fits = record { base_low = omega arith };
      goal_fits = record { base_low = omega arith };
    }

module _
    (prepared : List ℕ) (left right : Automaton) (leads : List ℕ) (r s : Pattern)
    (known : LateRead prepared (arm_quest left right) leads r s) where
  abbrev arms : Graph
  arms = graph_of prepared (arm_quest left right) leads

  -- a text begins by a late pair where both arms may begin
  arm_late_iff : (i j : ℕ) → j < 128 → (arms.begins (late i j) ≡ true) ↔ ((first_at r i ≡ true) × (first_at s j ≡ true))
  unfolding graph_of arm_quest no_patch
  arm_late_iff i j column =
      rw (sym (known.of_whole.first_is i), sym (known.of_rest.first_is j)) (begins_late_iff (arm_quest left right) i j refl refl column)

  -- no text begins by an early pair
  arm_early : (i j : ℕ) → i < 128 → j < 128 → ¬ (arms.begins (early i j) ≡ true)
  unfolding graph_of arm_quest no_patch
  arm_early i j row column e = not_both ((begins_early_iff (arm_quest left right) i j refl refl column row).0 e).0 (nothing_held i)

  -- The accepted texts are those of both arms.
  arm_accepts : nullable r && nullable s ≡ false → (t : Text) → Accepts arms t ↔ (breaks (one_arm r s) t ≡ true)
  unfolding Accepts arm_quest
  arm_accepts not_empty [] = (λ h. absurd h, λ e. absurd (not_both e (arm_end r s ∙ not_empty)))
  arm_accepts not_empty (c ∷ t) = (λ h. (arm_step_iff r s c t).1 (to h), λ e. from ((arm_step_iff r s c t).0 e))
    where
      to :
          (pair : ℕ) × (c < 256) × (arms.begins pair ≡ true) × (arms.stands pair c ≡ true) × Way arms pair t
          → (i : ℕ) × (j : ℕ) × BothStep r s (first_at r) (first_at s) c i j × Late r s i j t
      to (pair, byte, begun, stood, way) =
          ⊎_elim
          (λ (i, j, row, column, e). absurd (arm_early i j row column (rw e at begun)))
          (λ (i, j, column, e).
          let (in_i, in-j, stands, stands') = (late_stands_iff known c i j column).0 (rw e at stood) in
          let (may, may') = (arm_late_iff i j column).0 (rw e at begun) in (
            i,
            j,
            record { left = in_i; right = in-j; may_left = may; may_right = may'; stands_left = stands; stands_right = stands' },
            (late_way_iff known t i j in_i in-j).0 (rw e at way),
          ))
          (shape pair)

      from :
          (i : ℕ) × (j : ℕ) × BothStep r s (first_at r) (first_at s) c i j × Late r s i j t
          → (pair : ℕ) × (c < 256) × (arms.begins pair ≡ true) × (arms.stands pair c ≡ true) × Way arms pair t
      from (i, j, b, l) =
          let column = column_of known j b.right in (
            late i j,
            is_byte prepared left r c i known.of_whole b.left b.stands_left,
            (arm_late_iff i j column).1 (b.may_left, b.may_right),
            (late_stands_iff known c i j column).1 (b.left, b.right, b.stands_left, b.stands_right),
            (late_way_iff known t i j b.left b.right).1 l,
          )

-- A quest for a text of both arms finds exactly those that are not empty; where the empty text belongs to both, it is not asked.
pub arm_asks :
    (prepared : List ℕ) (left right : Automaton) (r s : Pattern)
    → Describes r left prepared → Describes s right prepared → left.count ≤ 128 → right.count ≤ 128
    → nullable r && nullable s ≡ false → Asks prepared (arm_quest left right) (breaks (one_arm r s))
unfolding arm_quest
arm_asks prepared left right r s of_left of_right few few-right not_empty leads tables =
    arm_accepts prepared left right leads r s
    (record {
      tables = tables;
      of_whole = of_left;
      of_rest = of_right;
      few = few-right;
      goal_is = refl;
    })
    not_empty
