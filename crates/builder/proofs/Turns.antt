-- The build of a whole table, side after side: what a turn asks, and what it leaves to the next. Assumes nothing.
use mathlib.Core.Path.{◌≡◌, refl, sym, ap, subst, ◌∙◌}
use mathlib.Core.Bool.{true, false, ◌||◌, true≢false}
use mathlib.Core.List.{List}
use mathlib.Core.Logic.{inl, inr}
use Prim.Native.Nat.{ℕ, zero, suc, ◌+◌, ◌-◌, ◌*◌, ◌≤◌, ◌<◌}
use native.Mathlib.Nat.{add-zero, add-suc}
use native.Mathlib.Numerals.{add-one}
use native.Mathlib.Omega.{arith}
use lib.Dec.{ltb}
use lib.ListN.{length, take, drop}
use lib.Seq.{drop-drop}
use borrow.Author.Tests.{ltb-false}
use Rattle.semantics.specs.Text.{Text}
use Rattle.semantics.specs.Pattern.{Class, Pattern, word, one_of, concat, alt, star}
use Rattle.semantics.specs.Lens.{copy, const, key, join, union, repeat, match, source, sheet, language, const_language}
use Rattle.semantics.specs.Lens.{Side as SideOf}
use Rattle.semantics.specs.Table.{node_count, pool_length, pool, Tree, pattern, lens, broken, tree_at, trees, runs_of, tree_size, tree_positions, positions, over_limit}
use Rattle.laws.specs.Basics.{or_neither}
use Rattle.table.specs.declared.Kind.{Kind}
use Rattle.table.specs.declared.Kind.TheVariants.{Word, OneOf, PatternJoin, PatternUnion, PatternRepeat, Copy, Const, Key, LensJoin, LensUnion, LensRepeat, Match}
use Rattle.table.specs.Prepared.{Shows}
use Rattle.table.specs.declared.Node.{Node}
use Rattle.table.specs.Rules.{AllSized, NodeRead}
use Rattle.laws.specs.RightSizes.{right_of}
use Rattle.builder.specs.declared.program.Pair.{Pair}
use Rattle.builder.specs.declared.program.Pair.TheVariants.{Join, Union}
use Rattle.automaton.specs.declared.Automaton.{Automaton}
use Rattle.builder.specs.declared.program.Parts.{Parts}
use Rattle.builder.specs.declared.program.Parts.TheVariants.{Letters, Runs, Two, Repeat, Same}
use Rattle.automaton.specs.declared.Side.{Side}
use Rattle.automaton.specs.declared.Side.TheVariants.{Source, Sheet}
use Rattle.automaton.specs.Rows.{side_of, side_index, row_at, automaton_at, ClassBelow, RowRoom, Describes}
use Rattle.builder.specs.Build.{Space, Counted, SideBuilt, BuiltAlone, BuiltPair}
use Rattle.automaton.specs.Built.{tree_language, Built}
use Rattle.builder.specs.Program.{own_rows, pattern_rows, lens_rows, side_rows, rows_taken, rows_below, rows_needed, rows_before, language_at, next_node, next_side, turn_of, Standing, BuiltUpTo, Turn, Part, pair_of, PairReady, PairMade, RepeatReady, RepeatMade, AliasReady, AliasMade, const_part, parts_of, is_pattern, OwnSide}
use Rattle.builder.proofs.Parts.{below_or_not, side_small}
use Rattle.builder.proofs.Frames.{size_kept, automaton_kept, other_described}

-- ---- Positions

-- the positions of a tree on a side are those of its language
positions_is : (side : SideOf) (t : Tree) → tree_positions side t ≡ positions (tree_language side t)
unfolding tree_positions tree_language positions
positions_is side (pattern r) = refl
positions_is side (lens l) = refl
positions_is side broken = refl

-- a tree within the limits has at most 128 of them
few_positions : (side : SideOf) (t : Tree) → over_limit t ≡ false → tree_positions side t ≤ 128
unfolding over_limit
few_positions side t e =
    let h = or_neither (ltb 512 (tree_size t) || ltb 128 (tree_positions source t)) (ltb 128 (tree_positions sheet t)) e in
    let h' = or_neither (ltb 512 (tree_size t)) (ltb 128 (tree_positions source t)) h.0 in
    go side (ltb-false 128 (tree_positions source t) h'.1) (ltb-false 128 (tree_positions sheet t) h.1)
  where
    go : (s : SideOf) → tree_positions source t ≤ 128 → tree_positions sheet t ≤ 128 → tree_positions s t ≤ 128
    go source x y = x
    go sheet x y = y

-- a pattern takes at most 128 rows of its own, where it has no more positions
own_few : (r : Pattern) → positions r ≤ 128 → own_rows r ≤ 128
unfolding own_rows
own_few (word w) h = h
own_few (one_of c) h = omega arith
own_few (concat r s) h = h
own_few (alt r s) h = h
own_few (star r) h = h

-- and so does a side
taken_few : (side : SideOf) (t : Tree) → tree_positions side t ≤ 128 → side_rows side t ≤ 128
unfolding side_rows pattern_rows lens_rows tree_positions
taken_few source (pattern r) h = own_few r h
taken_few sheet (pattern r) h = omega arith
taken_few side (lens (copy r)) h = omega arith
taken_few side (lens (const r w d)) h = omega arith
taken_few side (lens (key r)) h = omega arith
taken_few side (lens (join l m)) h = omega arith
taken_few side (lens (union l m)) h = omega arith
taken_few side (lens (repeat l)) h = omega arith
taken_few side (lens (match n l)) h = omega arith
taken_few side broken h = omega arith

module _ {bytes : Text} {prepared : List ℕ} (all : AllSized bytes prepared) (k : ℕ) (inside : k < node_count bytes) where
  -- it is one of the 96 nodes
  pub a_node : 16 * k + 16 ≤ 1536
  a_node = let right = right_of bytes all.sized.sizes_right in omega arith

  -- the count of positions that stands there is that of the language
  counted : (side : Side) → Counted (language_at bytes k side) k side prepared
  unfolding side_of
  counted Source = record { counted = rw (add-zero (16 * k + 1)) ((all.sized.each k inside).source_is ∙ positions_is source (tree_at (trees bytes) k)) }
  counted Sheet =
      let there : 16 * k + 1 + 1 ≡ 16 * k + 2 = omega arith in
      record { counted = rw there ((all.sized.each k inside).sheet_is ∙ positions_is sheet (tree_at (trees bytes) k)) }

  few_rows : (side : Side) → positions (language_at bytes k side) ≤ 128
  few_rows side =
      omega (
        arith,
        positions_is (side_of side) (tree_at (trees bytes) k),
        few_positions (side_of side) (tree_at (trees bytes) k) (all.sized.each k inside).within,
      )

  -- it has at most 128 rows on a side, and 256 positions on both
  few_taken : (side : Side) → rows_taken bytes k side ≤ 128
  few_taken side =
      let t = tree_at (trees bytes) k in
      taken_few (side_of side) t (few_positions (side_of side) t (all.sized.each k inside).within)

  pub few_both : {r : Node} → NodeRead bytes k r → r.source + r.sheet ≤ 256
  few_both read =
      omega (
        arith,
        read.source_is,
        read.sheet_is,
        few_positions source (tree_at (trees bytes) k) (all.sized.each k inside).within,
        few_positions sheet (tree_at (trees bytes) k) (all.sized.each k inside).within,
      )

-- ---- Rows

-- the rows before the next side are those before this one, and those that this one takes
rows_next :
    (bytes : Text) (k : ℕ) (side : Side)
    → rows_before bytes (next_node k side) (next_side side) ≡ rows_before bytes k side + rows_taken bytes k side
unfolding rows_before rows_below
rows_next bytes k Source = refl
rows_next bytes k Sheet = rw (add-one k) (omega arith)

-- a node's rows are among those of all
rows_more : (bytes : Text) (k n : ℕ) → rows_below bytes k ≤ rows_below bytes (k + n)
unfolding rows_below
rows_more bytes k zero = rw (add-zero k) (omega arith)
rows_more bytes k (suc n) = rw (add-suc k n) (omega (arith, rows_more bytes k n))

rows_side : (bytes : Text) (k : ℕ) (side : Side) → rows_before bytes (next_node k side) (next_side side) ≤ rows_below bytes (k + 1)
unfolding rows_before rows_below
rows_side bytes k Source = rw (add-one k) (omega arith)
rows_side bytes k Sheet = omega arith

rows_inside : (bytes : Text) (k : ℕ) (side : Side) → k < node_count bytes → rows_before bytes k side + rows_taken bytes k side ≤ rows_needed bytes
unfolding rows_needed
rows_inside bytes k side inside =
    let there : k + 1 + (node_count bytes - (k + 1)) ≡ node_count bytes = omega arith in
    let more : rows_below bytes (k + 1) ≤ rows_below bytes (node_count bytes) = rw there at (rows_more bytes (k + 1) (node_count bytes - (k + 1))) in
    omega (arith, rows_next bytes k side, rows_side bytes k side)

-- those of the nodes below k are at most 256 a node
rows_small : {bytes : Text} {prepared : List ℕ} → AllSized bytes prepared → (k : ℕ) → k ≤ node_count bytes → rows_below bytes k ≤ 256 * k
unfolding rows_below
rows_small all zero h = omega arith
rows_small {bytes} all (suc k) h =
    omega (arith, rows_small all k (omega arith), few_taken all k (omega arith) Source, few_taken all k (omega arith) Sheet)

pub rows_limit : {bytes : Text} {prepared : List ℕ} → AllSized bytes prepared → (k : ℕ) → k ≤ node_count bytes → rows_below bytes k ≤ 24576
rows_limit {bytes} all k h = let right = right_of bytes all.sized.sizes_right in omega (arith, rows_small all k h)

-- the rows of one more node
pub rows_one_more : (bytes : Text) (k : ℕ) → rows_below bytes (k + 1) ≡ rows_below bytes k + (rows_taken bytes k Source + rows_taken bytes k Sheet)
unfolding rows_below
rows_one_more bytes k = rw (add-one k) refl

-- the rows that a node of that kind takes, from the positions of its source side and those of both
abbrev pub kind_rows : Kind → ℕ → ℕ → ℕ
kind_rows (Word start len) once both = once
kind_rows (OneOf at runs) once both = 3
kind_rows (PatternJoin a b) once both = once
kind_rows (PatternUnion a b) once both = once
kind_rows (PatternRepeat a) once both = once
kind_rows (Copy a) once both = 0
kind_rows (Const a b c) once both = 0
kind_rows (Key a) once both = 0
kind_rows (LensJoin a b) once both = both
kind_rows (LensUnion a b) once both = both
kind_rows (LensRepeat a) once both = both
kind_rows (Match a) once both = 0

module _ (bytes : Text) (k : ℕ) where
  abbrev KindTakes : Kind → Type 0
  KindTakes κ =
      let t = tree_at (trees bytes) k in
      kind_rows κ (tree_positions source t) (tree_positions source t + tree_positions sheet t) ≡ rows_taken bytes k Source + rows_taken bytes k Sheet

  kind_takes : (κ : Kind) → Shows bytes k κ → KindTakes κ
  unfolding Shows side_rows pattern_rows own_rows lens_rows tree_positions side_of
  kind_takes (Word start len) s = rw s.tree_is (omega arith)
  kind_takes (OneOf at runs) s = rw s.tree_is (omega arith)
  kind_takes (PatternJoin a b) s = rw s.tree_is (omega arith)
  kind_takes (PatternUnion a b) s = rw s.tree_is (omega arith)
  kind_takes (PatternRepeat a) s = rw s.tree_is (omega arith)
  kind_takes (Copy a) s = rw s.tree_is refl
  kind_takes (Const a b c) s = rw s.tree_is refl
  kind_takes (Key a) s = rw s.tree_is refl
  kind_takes (LensJoin a b) s = rw s.tree_is refl
  kind_takes (LensUnion a b) s = rw s.tree_is refl
  kind_takes (LensRepeat a) s = rw s.tree_is refl
  kind_takes (Match a) s = rw s.tree_is refl

  -- a node that was read takes the rows of its kind
  pub node_takes :
      {r : Node} (κ : Kind)
      → NodeRead bytes k r
      → r.kind ≡ κ
      → kind_rows κ r.source (r.source + r.sheet) ≡ rows_taken bytes k Source + rows_taken bytes k Sheet
  node_takes κ read e =
      let shows : Shows bytes k κ = subst (Shows bytes k) e read.shows in
      rw (read.source_is, read.sheet_is) (kind_takes κ shows)

-- ---- A turn

same_side : (s t : Side) → side_index s ≡ side_index t → s ≡ t
same_side Source Source e = refl
same_side Source Sheet e = absurd (omega arith)
same_side Sheet Source e = absurd (omega arith)
same_side Sheet Sheet e = refl

turn_next : (k : ℕ) (side : Side) → turn_of (next_node k side) (next_side side) ≡ turn_of k side + 1
turn_next k Source = omega arith
turn_next k Sheet = omega arith

-- every node stays sized
sized_kept :
    {bytes : Text} {node : ℕ} {side : Side} {start row rows : ℕ} {before after : List ℕ}
    → SideBuilt node side start row rows before after
    → 16 * node + 16 ≤ 1536
    → AllSized bytes before
    → AllSized bytes after
sized_kept built l all =
    record {
      room = omega (arith, built.same_length, all.room);
      sized =
          record {
            sizes_right = all.sized.sizes_right;
            each =
                λ k h.
                let was = all.sized.each k h in
                let there = a_node all k h in
                record {
                  whole = was.whole;
                  not_nested = was.not_nested;
                  within = was.within;
                  size_is = rw (add-zero (16 * k)) at (size_kept built l k 0 (omega arith) there) ∙ was.size_is;
                  source_is = size_kept built l k 1 (omega arith) there ∙ was.source_is;
                  sheet_is = size_kept built l k 2 (omega arith) there ∙ was.sheet_is;
                  match_is = size_kept built l k 3 (omega arith) there ∙ was.match_is;
                };
          };
    }

module _ {bytes : Text} {k : ℕ} {side : Side} {row : ℕ} {before : List ℕ} (turn : Turn bytes k side row before) where
  -- there is room for a side's rows
  space : (rows : ℕ) → rows ≡ rows_taken bytes k side → Space k row rows before
  space rows e =
      record {
        a_node = a_node turn.up_to.sized k turn.inside;
        few = omega (arith, few_taken turn.up_to.sized k turn.inside side);
        inside = omega (arith, turn.up_to.rows_are, turn.up_to.room, rows_inside bytes k side turn.inside);
      }

  -- a side before this one can be a part of it
  part : (a : ℕ) (other : Side) → turn_of a other < turn_of k side → Part a other row before
  part a other h =
      record { a_node = a_node turn.up_to.sized a (omega (arith, side_small side, side_small other, turn.inside)); below = (turn.up_to.each a other h).below }

  -- once the side has its automaton, in rows that were free or in rows that stay, it is the next one's turn
  advance :
      {start from rows : ℕ} {after : List ℕ} (next : ℕ)
      → SideBuilt k side start from rows before after
      → ((p : ℕ) → p < row → from ≤ p → p < from + rows → ⊥)
      → Describes (language_at bytes k side) (automaton_at after k side) after
      → start + positions (language_at bytes k side) ≤ next
      → next ≡ row + rows_taken bytes k side
      → BuiltUpTo bytes (next_node k side) (next_side side) next after
  advance {after = after} next built apart described covers next_is =
      record {
        sized = sized_kept built here turn.up_to.sized;
        room = omega (arith, built.same_length, turn.up_to.room);
        rows_are = omega (arith, turn.up_to.rows_are, rows_next bytes k side);
        each =
            λ a other h.
            below_or_not
            (turn_of a other)
            (turn_of k side)
            (λ l. earlier a other l)
            (λ l. this a other (omega (arith, turn_next k side)));
      }
    where
      here : 16 * k + 16 ≤ 1536
      here = a_node turn.up_to.sized k turn.inside

      earlier : (a : ℕ) (other : Side) → turn_of a other < turn_of k side → Standing bytes a other next after
      earlier a other l =
          let was = turn.up_to.each a other l in
          let there = (part a other l).a_node in
          let different : a ≡ k → side_index other ≡ side_index side → ⊥ = λ e f. omega arith in
          record {
            described =
                other_described
                built
                here
                a
                other
                there
                different
                (λ j h x y. apart j (omega (arith, was.below.below)) x y)
                was.described;
            below = record { below = rw (automaton_kept built here a other there different) (omega (arith, was.below.below)) };
          }

      this : (a : ℕ) (other : Side) → turn_of a other ≡ turn_of k side → Standing bytes a other next after
      this a other e =
          let same : a ≡ k = omega (arith, side_small side, side_small other) in
          let same' : other ≡ side = same_side other side (omega arith) in
          rw
          (same, same')
          (record {
            described = described;
            below = record { below = omega (arith, built.starts, described.count_is) };
          })

-- ---- The shapes of a node's side

-- the side is a word of the pool
pub record LettersShape (bytes : Text) (k : ℕ) (side : Side) (start len : ℕ) : Type 0 where
  pub inside : start + len ≤ pool_length bytes
  pub language_is : language_at bytes k side ≡ word (take len (drop start (pool bytes)))
  pub takes : rows_taken bytes k side ≡ positions (language_at bytes k side)

-- it is a range or a set
pub record RunsShape (bytes : Text) (k : ℕ) (side : Side) (at runs : ℕ) : Type 0 where
  pub inside : at + 2 * runs ≤ length bytes
  pub language_is : language_at bytes k side ≡ one_of (runs_of (take (2 * runs) (drop at bytes)))
  pub takes : rows_taken bytes k side ≡ 3

-- it is made of the same side of two lower nodes
pub record PairShape (bytes : Text) (k : ℕ) (side : Side) (pair : Pair) (a b : ℕ) : Type 0 where
  pub left_lower : a < k
  pub right_lower : b < k
  pub language_is : language_at bytes k side ≡ pair_of pair (language_at bytes a side) (language_at bytes b side)
  pub takes : rows_taken bytes k side ≡ positions (language_at bytes k side)

-- it is a repeat of the same side of a lower node
pub record RepeatShape (bytes : Text) (k : ℕ) (side : Side) (a : ℕ) : Type 0 where
  pub lower : a < k
  pub language_is : language_at bytes k side ≡ star (language_at bytes a side)
  pub takes : rows_taken bytes k side ≡ positions (language_at bytes k side)

-- it is the same as an earlier side
pub record SameShape (bytes : Text) (k : ℕ) (side : Side) (a : ℕ) (other : Side) : Type 0 where
  pub earlier : turn_of a other < turn_of k side
  pub language_is : language_at bytes k side ≡ language_at bytes a other
  pub takes_none : rows_taken bytes k side ≡ 0

pair_positions : (pair : Pair) (r s : Pattern) → positions (pair_of pair r s) ≡ positions r + positions s
unfolding pair_of positions
pair_positions Join r s = refl
pair_positions Union r s = refl

star_positions : (r : Pattern) → positions (star r) ≡ positions r
unfolding positions
star_positions r = refl

class_positions : (c : Class) → positions (one_of c) ≡ 1
unfolding positions
class_positions c = refl

-- the runs of a range or a set, as they are taken from the table
runs_part : (bytes : Text) (at runs : ℕ) → take (at + 2 * runs - at) (drop at bytes) ≡ take (2 * runs) (drop at bytes)
runs_part bytes at runs = let count : at + 2 * runs - at ≡ 2 * runs = omega arith in rw count refl

-- a pair is made of the automata that stand there
pub pair_made :
    {pair : Pair} {node : ℕ} {side : Side} {row a b : ℕ} {left right : Automaton} {before after : List ℕ}
    → left ≡ automaton_at before a side
    → right ≡ automaton_at before b side
    → BuiltPair (pair_of pair) node side row left right before after
    → PairMade pair node side row a b (row + (left.count + right.count)) before after
pair_made left_is right_is made = record { made = rw (left_is, right_is) at made; next_is = rw (left_is, right_is) refl }

module _ {bytes : Text} {k : ℕ} {side : Side} {row : ℕ} {before : List ℕ} (turn : Turn bytes k side row before) where
  -- the count of positions, said of the pattern that the language is
  counted_as : {r : Pattern} → language_at bytes k side ≡ r → Counted r k side before
  counted_as e = rw e at (counted turn.up_to.sized k turn.inside side)

  -- a pattern that takes as many rows as it has positions
  pub taken_alone : {r : Pattern} {rows : ℕ} → language_at bytes k side ≡ r → rows_taken bytes k side ≡ positions (language_at bytes k side) → rows ≡ positions r → rows ≡ rows_taken bytes k side
  taken_alone e takes count = count ∙ ap positions (sym e) ∙ sym takes

  -- a word, a range or a set
  module _ {r : Pattern} (e : language_at bytes k side ≡ r) (rows : ℕ) (takes : rows ≡ rows_taken bytes k side) where
    pub alone_ready : Space k row rows before
    alone_ready = space turn rows takes

    pub alone_next :
        {start : ℕ} {after : List ℕ}
        → BuiltAlone r k side start row rows before after
        → start + positions r ≤ row + rows
        → BuiltUpTo bytes (next_node k side) (next_side side) (row + rows) after
    alone_next made covers =
        advance turn (row + rows) made.built (λ p x y z. omega arith) (rw e (made.described (counted_as e)))
        (omega (arith, ap positions e))
        (omega (arith, takes))

  -- a range or a set, from its runs
  module _ {at runs : ℕ} (shape : RunsShape bytes k side at runs) where
    pub class_ready : Space k row 3 before
    class_ready = alone_ready shape.language_is 3 (sym shape.takes)

    pub class_next :
        {after : List ℕ}
        → BuiltAlone (one_of (runs_of (take (at + 2 * runs - at) (drop at bytes)))) k side (row + 2) row 3 before after
        → BuiltUpTo bytes (next_node k side) (next_side side) (row + 3) after
    class_next made =
        let class = runs_of (take (2 * runs) (drop at bytes)) in
        alone_next shape.language_is 3 (sym shape.takes) (rw (runs_part bytes at runs) at made) (omega (arith, class_positions class))

  -- two parts
  module _ {pair : Pair} {a b : ℕ} (shape : PairShape bytes k side pair a b) where
    left_is : Standing bytes a side row before
    left_is = turn.up_to.each a side (omega (arith, shape.left_lower))

    right_is : Standing bytes b side row before
    right_is = turn.up_to.each b side (omega (arith, shape.right_lower))

    pair_count : (automaton_at before a side).count + (automaton_at before b side).count ≡ positions (language_at bytes k side)
    pair_count =
        omega (
          arith,
          left_is.described.count_is,
          right_is.described.count_is,
          pair_positions pair (language_at bytes a side) (language_at bytes b side),
          ap positions shape.language_is,
        )

    pub pair_ready : PairReady k side row a b before
    pair_ready =
        record {
          space = space turn _ (pair_count ∙ sym shape.takes);
          left = part turn a side (omega (arith, shape.left_lower));
          right = part turn b side (omega (arith, shape.right_lower));
        }

    pub pair_next : {next : ℕ} {after : List ℕ} → PairMade pair k side row a b next before after → BuiltUpTo bytes (next_node k side) (next_side side) next after
    pair_next {next} made =
        advance turn next made.made.built (λ p x y z. omega arith)
        (rw shape.language_is (made.made.described _ _ left_is.described right_is.described (counted_as shape.language_is)))
        (omega (arith, made.next_is, pair_count))
        (omega (arith, made.next_is, pair_count, shape.takes))

  -- one part
  module _ {a : ℕ} (shape : RepeatShape bytes k side a) where
    part_is : Standing bytes a side row before
    part_is = turn.up_to.each a side (omega (arith, shape.lower))

    part_count : (automaton_at before a side).count ≡ positions (language_at bytes k side)
    part_count = part_is.described.count_is ∙ sym (ap positions shape.language_is ∙ star_positions (language_at bytes a side))

    pub repeat_ready : RepeatReady k side row a before
    repeat_ready = record { space = space turn _ (part_count ∙ sym shape.takes); part = part turn a side (omega (arith, shape.lower)) }

    pub repeat_next : {next : ℕ} {after : List ℕ} → RepeatMade k side row a next before after → BuiltUpTo bytes (next_node k side) (next_side side) next after
    repeat_next {next} made =
        advance turn next made.made.built (λ p x y z. omega arith)
        (rw shape.language_is (made.made.described _ part_is.described (counted_as shape.language_is)))
        (omega (arith, made.next_is, part_count))
        (omega (arith, made.next_is, part_count, shape.takes))

  -- none of its own
  module _ {a : ℕ} {other : Side} (shape : SameShape bytes k side a other) where
    pub same_ready : AliasReady k a before
    same_ready =
        record {
          space = record { a_node = a_node turn.up_to.sized k turn.inside; few = omega arith; inside = omega (arith, turn.up_to.sized.room) };
          a_node = (part turn a other shape.earlier).a_node;
        }

    pub same_next : {next : ℕ} {after : List ℕ} → AliasMade k side row a other next before after → BuiltUpTo bytes (next_node k side) (next_side side) next after
    same_next {next} made =
        let was = turn.up_to.each a other shape.earlier in
        advance turn next made.made.built (λ p x y z. omega arith)
        (rw shape.language_is (made.made.described _ was.described (counted_as shape.language_is)))
        (omega (arith, made.next_is, was.below.below, was.described.count_is, ap positions shape.language_is))
        (omega (arith, made.next_is, shape.takes_none))

-- ---- What a kind says of its node's side

abbrev pub Shape : Text → ℕ → Side → Parts → Type 0
Shape bytes k side (Letters start len) = LettersShape bytes k side start len
Shape bytes k side (Runs at runs) = RunsShape bytes k side at runs
Shape bytes k side (Two pair a b) = PairShape bytes k side pair a b
Shape bytes k side (Repeat a) = RepeatShape bytes k side a
Shape bytes k side (Same a) = SameShape bytes k side a side

module _ (bytes : Text) (k : ℕ) where
  const_shape : (a b c : ℕ) (side : Side) → Shows bytes k (Const a b c) → SameShape bytes k side (const_part side a b) side
  unfolding Shows tree_language side_of language const_language side_rows lens_rows
  const_shape a b c Source s = record { earlier = omega (arith, s.lower); language_is = rw (s.tree_is, s.at_child) refl; takes_none = rw s.tree_is refl }
  const_shape a b c Sheet s = record { earlier = omega (arith, s.sheet_lower); language_is = rw (s.tree_is, s.at_sheet) refl; takes_none = rw s.tree_is refl }

  module _ (side : Side) where
    -- the source side of a pattern takes its own rows
    own_taken : {r : Pattern} → tree_at (trees bytes) k ≡ pattern r → side ≡ Source → rows_taken bytes k side ≡ own_rows r
    unfolding side_of side_rows pattern_rows
    own_taken e f = rw (f, e) refl

    -- they are its positions, if it is no range and no set
    pattern_takes : {r : Pattern} → tree_at (trees bytes) k ≡ pattern r → side ≡ Source → own_rows r ≡ positions r → rows_taken bytes k side ≡ positions (language_at bytes k side)
    unfolding tree_language side_of
    pattern_takes e f own = own_taken e f ∙ own ∙ rw (f, e) refl

    shape_of : (κ : Kind) → Shows bytes k κ → OwnSide κ side → Shape bytes k side (parts_of κ side)
    unfolding Shows tree_language language pair_of side_rows own_rows lens_rows
    shape_of (Word start len) s o = record { inside = s.inside; language_is = rw s.tree_is refl; takes = pattern_takes s.tree_is (o.own refl) refl }
    shape_of (OneOf at runs) s o = record { inside = s.inside; language_is = rw s.tree_is refl; takes = own_taken s.tree_is (o.own refl) }
    shape_of (PatternJoin a b) s o = record { left_lower = s.left_lower; right_lower = s.right_lower; language_is = rw (s.tree_is, s.at_left, s.at_right) refl; takes = pattern_takes s.tree_is (o.own refl) refl }
    shape_of (PatternUnion a b) s o = record { left_lower = s.left_lower; right_lower = s.right_lower; language_is = rw (s.tree_is, s.at_left, s.at_right) refl; takes = pattern_takes s.tree_is (o.own refl) refl }
    shape_of (PatternRepeat a) s o = record { lower = s.lower; language_is = rw (s.tree_is, s.at_child) refl; takes = pattern_takes s.tree_is (o.own refl) refl }
    shape_of (Copy a) s o = record { earlier = omega (arith, s.lower); language_is = rw (s.tree_is, s.at_child) refl; takes_none = rw s.tree_is refl }
    shape_of (Const a b c) s o = const_shape a b c side s
    shape_of (Key a) s o = record { earlier = omega (arith, s.lower); language_is = rw (s.tree_is, s.at_child) refl; takes_none = rw s.tree_is refl }
    shape_of (LensJoin a b) s o = record { left_lower = s.left_lower; right_lower = s.right_lower; language_is = rw (s.tree_is, s.at_left, s.at_right) refl; takes = rw s.tree_is refl }
    shape_of (LensUnion a b) s o = record { left_lower = s.left_lower; right_lower = s.right_lower; language_is = rw (s.tree_is, s.at_left, s.at_right) refl; takes = rw s.tree_is refl }
    shape_of (LensRepeat a) s o = record { lower = s.lower; language_is = rw (s.tree_is, s.at_child) refl; takes = rw s.tree_is refl }
    shape_of (Match a) s o = record { earlier = omega (arith, s.lower); language_is = rw (s.tree_is, s.at_child) refl; takes_none = rw s.tree_is refl }

    pub shape_is : (κ : Kind) (parts : Parts) → parts ≡ parts_of κ side → Shows bytes k κ → OwnSide κ side → Shape bytes k side parts
    shape_is κ parts e s o = subst (λ (p : Parts). Shape bytes k side p) (sym e) (shape_of κ s o)

  -- a pattern is the same on both sides
  one_language : {r : Pattern} → tree_at (trees bytes) k ≡ pattern r → SameShape bytes k Sheet k Source
  unfolding tree_language side_of side_rows pattern_rows
  one_language e = record { earlier = omega arith; language_is = rw e refl; takes_none = rw e refl }

  pub pattern_shape : (κ : Kind) → Shows bytes k κ → is_pattern κ ≡ true → SameShape bytes k Sheet k Source
  unfolding Shows
  pattern_shape (Word start len) s e = one_language s.tree_is
  pattern_shape (OneOf at runs) s e = one_language s.tree_is
  pattern_shape (PatternJoin a b) s e = one_language s.tree_is
  pattern_shape (PatternUnion a b) s e = one_language s.tree_is
  pattern_shape (PatternRepeat a) s e = one_language s.tree_is
  pattern_shape (Copy a) s e = absurd (true≢false (sym e))
  pattern_shape (Const a b c) s e = absurd (true≢false (sym e))
  pattern_shape (Key a) s e = absurd (true≢false (sym e))
  pattern_shape (LensJoin a b) s e = absurd (true≢false (sym e))
  pattern_shape (LensUnion a b) s e = absurd (true≢false (sym e))
  pattern_shape (LensRepeat a) s e = absurd (true≢false (sym e))
  pattern_shape (Match a) s e = absurd (true≢false (sym e))

-- ---- All turns

pub built_begins : {bytes : Text} {prepared : List ℕ} → AllSized bytes prepared → row_at (rows_needed bytes) ≤ length prepared → BuiltUpTo bytes 0 Source 0 prepared
unfolding rows_before rows_below
built_begins all room = record { sized = all; room = room; rows_are = refl; each = λ a other h. absurd (omega arith) }

-- a row that stands in the prepared program has its class there too
row_room : {prepared : List ℕ} {row : ℕ} → row_at (row + 1) ≤ length prepared → ClassBelow prepared row → RowRoom prepared row
row_room inside (inl letter) = record { inside = inside; class_inside = omega arith }
row_room inside (inr (large, below)) = record { inside = inside; class_inside = omega arith }

pub built_ends : {bytes : Text} {n row : ℕ} {prepared : List ℕ} → n ≡ node_count bytes → BuiltUpTo bytes n Source row prepared → Built bytes prepared
unfolding rows_before rows_needed
built_ends {bytes} {n} {row} all-nodes up =
    record {
      sized = up.sized;
      automata =
          λ k h side.
          let it = up.each k side (omega (arith, side_small side)) in
          record {
            described = it.described;
            room =
                record {
                  few = omega (arith, it.described.count_is, few_rows up.sized k h side);
                  inside = omega (arith, it.below.below, up.rows_are, up.room, ap (rows_below bytes) all-nodes);
                  rows = λ p l.
                      row_room
                      (omega (arith, it.below.below, up.rows_are, up.room, ap (rows_below bytes) all-nodes))
                      (it.described.row_is p (omega (arith, it.described.count_is))).class_below;
                };
          };
    }

-- ---- Words and classes

-- the letters of a word, as they are taken from the table
pub letters_part :
    (bytes : Text) (n start len : ℕ)
    → n ≡ node_count bytes
    → take (3 + 4 * n + start + len - (3 + 4 * n + start)) (drop (3 + 4 * n + start) bytes) ≡ take len (drop start (pool bytes))
unfolding pool
letters_part bytes n start len e =
    let count : 3 + 4 * n + start + len - (3 + 4 * n + start) ≡ len = omega arith in
    rw (count, e) (ap (take len) (sym (drop-drop start (3 + 4 * node_count bytes) bytes)))

pub word_count : (w : Text) → length w ≡ positions (word w)
unfolding positions
word_count w = refl
