-- What the path tells of a node's text: the arm of a union that reads it, and the halves of a join.
use mathlib.Core.Path.{◌≡◌, sym, ap, ◌∙◌}
use mathlib.Core.Bool.{Bool, true, false}
use mathlib.Core.List.{List, ◌++◌}
use Prim.Native.Nat.{ℕ, ◌+◌, ◌-◌, ◌≤◌, ◌<◌}
use native.Mathlib.Nat.{sub-zero, lt_trans}
use native.Mathlib.Omega.{arith}
use lib.ListN.{length, take, drop, take-append-drop}
use lib.Seq.{length-take-le}
use Rattle.semantics.specs.Text.{Text}
use Rattle.semantics.specs.Pattern.{matches}
use Rattle.semantics.specs.Lens.{join, union, source, language, cut_at, entries}
use Rattle.semantics.specs.Table.{node_count, positions, lens, tree_at, trees}
use Rattle.laws.specs.Basics.{cond_true, cond_false}
use Rattle.laws.specs.Paths.{border, goes_left}
use Rattle.table.specs.declared.Kind.TheVariants.{LensJoin}
use Rattle.table.specs.declared.Node.{Node}
use Rattle.table.specs.Prepared.{TwoLenses}
use Rattle.table.specs.Rules.{NodeRead}
use Rattle.automaton.specs.declared.Automaton.{Automaton}
use Rattle.automaton.specs.declared.Side.TheVariants.{Source}
use Rattle.automaton.specs.Rows.{automaton_at, Describes}
use Rattle.automaton.specs.Built.{Built}
use Rattle.texts.specs.Cutting.{rest_lent}
use Rattle.lens.specs.Nodes.{same_lens, shown_join}
use Rattle.lens.specs.Parsed.{
  Parsed,
  ParsedJoin,
  parsed_join,
  join_length,
  border_few,
  border_inside,
  border_left_lent,
  border_right_lent,
  border_is_cut,
  union_few,
  union_left,
  union_in_left,
  union_right,
  union_not_left,
}
use Rattle.books.specs.declared.Book.{Book}
use Rattle.std.specs.Prelude.{Option}
use Rattle.listing.specs.Listing.{ListsInto, TooMany, Lists, tree_entries, lists_as, lists_next, lists_over}
use Rattle.listing.proofs.NodeEntries.{node_described}

-- ---- A union

-- The text is parsed at the arm that is read, and has that arm's entries.
pub record Arm (bytes : Text) (node arm base : ℕ) (path : List ℕ) (text : Text) : Type 0 where
  pub parsed : Parsed bytes arm source base path text
  pub entries_are : tree_entries (tree_at (trees bytes) node) text ≡ tree_entries (tree_at (trees bytes) arm) text

module _
    {bytes : Text} {prepared : List ℕ} {node a b base : ℕ} {path : List ℕ} {text : Text} {left : Automaton}
    (built : Built bytes prepared)
    (inside : node < node_count bytes)
    (parsed : Parsed bytes node source base path text)
    (s : TwoLenses (trees bytes) node a b (λ l m. lens (union l m)))
    (left_is : left ≡ automaton_at prepared a Source) where
  -- the automaton is that of the left arm's sources
  left_described : Describes (language source s.left) left prepared
  left_described = node_described built (lt_trans s.left_lower inside) s.left s.at_left left_is

  -- so the right arm's positions begin where its positions end
  arms_border : base + left.count ≡ base + positions (language source s.left)
  arms_border = ap (λ n. base + n) left_described.count_is

  -- and they are few
  pub arms_few : base + left.count ≤ 128
  arms_few = omega (arith, arms_border, union_few parsed s)

  -- the left arm's entries are the union's, where it reads the text; otherwise the right arm's are
  left_entries :
      matches (language source s.left) text ≡ true → tree_entries (tree_at (trees bytes) node) text ≡ tree_entries (tree_at (trees bytes) a) text
  unfolding tree_entries entries
  left_entries reads =
      rw (s.tree_is, s.at_left) (cond_true (matches (language source s.left) text) (entries s.left text) (entries s.right text) reads)

  right_entries :
      matches (language source s.left) text ≡ false → tree_entries (tree_at (trees bytes) node) text ≡ tree_entries (tree_at (trees bytes) b) text
  unfolding tree_entries entries
  right_entries reads =
      rw (s.tree_is, s.at_right) (cond_false (matches (language source s.left) text) (entries s.left text) (entries s.right text) reads)

  module _ {goes : Bool} (goes-is : goes ≡ goes_left (base + left.count) left.nullable path) where
    -- the path goes left
    pub arm_left : goes ≡ true → Arm bytes node a base path text
    arm_left e =
        let went = sym goes-is ∙ e in
        record {
          parsed = union_left parsed s arms_border left_described.nullable_is went;
          entries_are = left_entries (union_in_left parsed s arms_border left_described.nullable_is went);
        }

    -- or right
    pub arm_right : goes ≡ false → Arm bytes node b (base + left.count) path text
    arm_right e =
        let went = sym goes-is ∙ e in
        record {
          parsed = union_right parsed s arms_border left_described.nullable_is went;
          entries_are = right_entries (union_not_left parsed s arms_border left_described.nullable_is went);
        }

-- ---- A join

-- Up to i the text is parsed at the left node, from i on at the right one, as they are lent; and the left one's entries stand in front of the right one's.
pub record Halves (bytes : Text) (node left right base mid : ℕ) (path text : Text) (i : ℕ) : Type 0 where
  pub within : i ≤ length text
  pub path_within : i ≤ length path
  pub parsed_left : Parsed bytes left source base (take (i - 0) path) (take (i - 0) text)
  pub parsed_right : Parsed bytes right source mid (take (length path - i) (drop i path)) (take (length text - i) (drop i text))
  pub entries_are :
      tree_entries (tree_at (trees bytes) node) text
      ≡ tree_entries (tree_at (trees bytes) left) (take i text) ++ tree_entries (tree_at (trees bytes) right) (drop i text)

module _
    {bytes : Text} {prepared : List ℕ} {node left right base : ℕ} {path text : Text} {a : Automaton}
    (built : Built bytes prepared)
    (inside : node < node_count bytes)
    (parsed : ParsedJoin bytes left right source base path text)
    (s : TwoLenses (trees bytes) node left right (λ l m. lens (join l m)))
    (a-is : a ≡ automaton_at prepared left Source) where
  -- the right half's positions begin where the left one's end
  halves_border : base + a.count ≡ base + positions (language source parsed.first)
  halves_border = ap (λ n. base + n) (node_described built (lt_trans s.left_lower inside) parsed.first parsed.at_left a-is).count_is

  -- and they are few
  pub halves_few : base + a.count ≤ 128
  halves_few = omega (arith, halves_border, border_few parsed)

  -- the entries of the halves are the join's, where they end and begin at the cut
  halves_entries :
      {i : ℕ}
      → i ≡ cut_at (language source parsed.first) (language source parsed.second) text
      → tree_entries (tree_at (trees bytes) node) text
      ≡ tree_entries (tree_at (trees bytes) left) (take i text) ++ tree_entries (tree_at (trees bytes) right) (drop i text)
  unfolding tree_entries entries
  halves_entries cut_is =
      let left_is = same_lens parsed.first s.left (sym parsed.at_left ∙ s.at_left) in
      let right_is = same_lens parsed.second s.right (sym parsed.at_right ∙ s.at_right) in
      rw (s.tree_is, s.at_left, s.at_right, cut_is, left_is, right_is)

  -- the halves end and begin at the border
  pub halves_at : {i : ℕ} → i ≡ border (base + a.count) path → Halves bytes node left right base (base + a.count) path text i
  halves_at {i} i_is =
      let within = border_inside parsed halves_border i_is in
      record {
        within = within;
        path_within = omega (arith, within, join_length parsed);
        parsed_left = border_left_lent parsed halves_border i_is;
        parsed_right = border_right_lent parsed halves_border i_is;
        entries_are = halves_entries (border_is_cut parsed halves_border i_is);
      }

-- so they do at a node that is read as a join
pub join_halves :
    {bytes : Text} {prepared : List ℕ} {node left right base i : ℕ} {path text : Text} {a : Automaton} {n : Node}
    → Built bytes prepared
    → node < node_count bytes
    → Parsed bytes node source base path text
    → NodeRead bytes node n
    → n.kind ≡ LensJoin left right
    → a ≡ automaton_at prepared left Source
    → i ≡ border (base + a.count) path
    → Halves bytes node left right base (base + a.count) path text i
join_halves built inside parsed read is a-is i_is =
    let shown = shown_join read is in
    halves_at built inside (parsed_join parsed shown) shown a-is i_is

-- the halves are listed, as they are lent
module _ {bytes : Text} {node left right base mid : ℕ} {path text : Text} {i : ℕ} (halves : Halves bytes node left right base mid path text i) where
  -- the first half's path is as long
  half_long : length (take i path) ≡ length (take i text)
  half_long = length-take-le i path halves.path_within ∙ sym (length-take-le i text halves.within)

  module _ {at : ℕ} {b : Book} where
    -- the first half has too many entries
    pub join_over :
        TooMany bytes (tree_entries (tree_at (trees bytes) left) (take (i - 0) text)) (take (i - 0) text) at b
        → TooMany bytes (tree_entries (tree_at (trees bytes) node) text) text at b
    join_over over =
        let all = lists_over (tree_entries (tree_at (trees bytes) right) (drop i text)) (drop i text) (rw sub-zero at over) in
        rw halves.entries_are (rw (take-append-drop i text) at all)

    -- both halves are listed
    pub join_next :
        {more : Book} {r : Option Book}
        → ListsInto bytes (tree_entries (tree_at (trees bytes) left) (take (i - 0) text)) (take (i - 0) text) (take (i - 0) path) at b more
        → Lists bytes (tree_entries (tree_at (trees bytes) right) (take (length text - i) (drop i text))) (take (length text - i) (drop i text)) (take (length path - i) (drop i path)) (at + i) more r
        → Lists bytes (tree_entries (tree_at (trees bytes) node) text) text path at b r
    join_next {more} {r} first second =
        let behind : Lists bytes (tree_entries (tree_at (trees bytes) right) (drop i text)) (drop i text) (drop i path) (at + length (take i text)) more r =
        rw (length-take-le i text halves.within) (rw (rest_lent text i, rest_lent path i) at second) in
        let whole = lists_next (tree_entries (tree_at (trees bytes) right) (drop i text)) (drop i text) (drop i path) half_long (rw sub-zero at first) behind in
        lists_as halves.entries_are (rw (take-append-drop i text, take-append-drop i path) at whole)
