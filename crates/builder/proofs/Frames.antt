-- What a build leaves of everything else: the other automata, and the sizes of the nodes. Assumes nothing.
use mathlib.Core.Path.{◌≡◌}
use mathlib.Core.List.{List}
use Prim.Native.Nat.{ℕ, ◌+◌, ◌-◌, ◌*◌, ◌/◌, ◌≤◌, ◌<◌}
use native.Mathlib.Omega.{arith}
use lib.Dec.{eqb}
use lib.ListN.{get_or}
use Rattle.semantics.specs.Pattern.{Pattern}
use Rattle.automaton.specs.Rows.{side_index, automaton_at, Describes}
use Rattle.builder.specs.Build.{count_at, header_at, SideBuilt}
use Rattle.automaton.specs.declared.Automaton.{Automaton}
use Rattle.automaton.specs.declared.Side.{Side}
use Rattle.builder.proofs.Steps.{row_kept}
use Rattle.builder.proofs.Parts.{below_or_not, side_small, row_is_kept}

-- a number of the nodes' part is of one node
node_of : (k n d : ℕ) → 16 * k ≤ d → d < 16 * k + 16 → 16 * n ≤ d → d < 16 * n + 16 → k ≡ n
node_of k n d a b c e =
    below_or_not k n (λ h. absurd (omega arith)) (λ h. below_or_not n k (λ l. absurd (omega arith)) (λ l. omega arith))

module _
    {node : ℕ}
    {side : Side}
    {start row rows : ℕ}
    {before after : List ℕ}
    (built : SideBuilt node side start row rows before after)
    (a_node : 16 * node + 16 ≤ 1536)
  where
    -- an automaton stays that of its pattern, where no row up to its last is a new one
    pub describes_kept :
        {r : Pattern} {a : Automaton}
        → ((j : ℕ) → j < a.start + a.count → row ≤ j → j < row + rows → ⊥)
        → Describes r a before
        → Describes r a after
    describes_kept {a = a} apart of-r =
        let small = side_small side in
        record {
          count_is = of-r.count_is;
          nullable_is = of-r.nullable_is;
          first_is = of-r.first_is;
          last_is = of-r.last_is;
          row_is =
              λ p h.
              row_is_kept
              (of-r.row_is p h)
              (row_kept
              (a.start + p)
              before
              after
              (λ i l u.
              built.kept i (omega arith) (λ x y. apart ((i - 1536) / 3) (omega (arith, of-r.count_is)) (omega arith) (omega arith))));
        }

    -- the four sizes of every node stay
    pub size_kept : (k j : ℕ) → j < 4 → 16 * k + 16 ≤ 1536 → get_or after (16 * k + j) 0 ≡ get_or before (16 * k + j) 0
    size_kept k j h l =
        let small = side_small side in
        built.kept (16 * k + j)
        (λ x y.
        let same = node_of k node (16 * k + j) (omega arith) (omega arith) (omega arith) (omega arith) in
        omega arith)
        (omega arith)

    -- and so do the counts of positions
    pub count_kept : (k : ℕ) (other : Side) → 16 * k + 16 ≤ 1536 → get_or after (count_at k other) 0 ≡ get_or before (count_at k other) 0
    count_kept k other l =
        let small = side_small other in
        let there : 16 * k + (1 + side_index other) ≡ count_at k other = omega arith in
        rw there at (size_kept k (1 + side_index other) (omega arith) l)

    -- the automaton of every other node and side stays
    pub automaton_kept :
        (k : ℕ) (other : Side)
        → 16 * k + 16 ≤ 1536
        → (k ≡ node → side_index other ≡ side_index side → ⊥)
        → automaton_at after k other ≡ automaton_at before k other
    unfolding automaton_at
    automaton_kept k other l different =
        λ j.
        record {
          start = same i (omega arith) (omega arith) j;
          count = count_kept k other l j;
          nullable = eqb (same (i + 1) (omega arith) (omega arith) j) 1;
          first = record { low = same (i + 2) (omega arith) (omega arith) j; high = same (i + 2 + 1) (omega arith) (omega arith) j };
          last = record { low = same (i + 4) (omega arith) (omega arith) j; high = same (i + 4 + 1) (omega arith) (omega arith) j };
        }
      where
        i : ℕ
        i = header_at k other

        same : (d : ℕ) → i ≤ d → d < i + 6 → get_or after d 0 ≡ get_or before d 0
        same d x y =
            let small = side_small side in
            let small' = side_small other in
            built.kept d
            (λ u v.
            let same_node = node_of k node d (omega arith) (omega arith) (omega arith) (omega arith) in
            different same_node (omega arith))
            (omega arith)

    -- and with it what it describes
    pub other_described :
        {r : Pattern} (k : ℕ) (other : Side)
        → 16 * k + 16 ≤ 1536
        → (k ≡ node → side_index other ≡ side_index side → ⊥)
        → ((j : ℕ) → j < (automaton_at before k other).start + (automaton_at before k other).count → row ≤ j → j < row + rows → ⊥)
        → Describes r (automaton_at before k other) before
        → Describes r (automaton_at after k other) after
    other_described k other l different apart of-r = rw (automaton_kept k other l different) (describes_kept apart of-r)
