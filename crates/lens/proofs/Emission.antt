-- What is read at a node, from what is read at the nodes below it.
use mathlib.Core.Path.{◌≡◌, refl, sym, ap, subst, ◌∙◌}
use mathlib.Core.Bool.{Bool, true, false}
use mathlib.Core.List.{List, ◌++◌}
use mathlib.Core.Logic.{⊎_elim}
use Prim.Native.Nat.{ℕ, ◌+◌, ◌-◌, ◌≤◌}
use native.Mathlib.Nat.{sub-zero}
use native.Mathlib.Omega.{arith}
use lib.ListN.{length, take, drop, length-drop}
use Rattle.semantics.specs.Text.{Text}
use Rattle.semantics.specs.Lens.{Lens, copy, const, key, join, union, match, language}
use Rattle.semantics.specs.Lens.{Side as SideOf}
use Rattle.semantics.specs.Table.{positions, lens, tree_at, trees}
use Rattle.laws.specs.Paths.{border, goes_left}
use Rattle.table.specs.declared.Kind.TheVariants.{Copy, Const, Key, LensJoin, Match}
use Rattle.table.specs.declared.Node.{Node}
use Rattle.table.specs.Prepared.{OneLens, TwoLenses}
use Rattle.table.specs.Rules.{NodeRead}
use Rattle.automaton.specs.declared.Automaton.{Automaton}
use Rattle.automaton.specs.Rows.{automaton_at, Describes}
use Rattle.lens.specs.declared.Mode.{Mode}
use Rattle.texts.specs.Overlay.{Wrote}
use Rattle.std.specs.Prelude.{Some, None}
use Rattle.texts.specs.Overlay.{Lays, overlay_length, writes_full, writes_lent, writes_within}
use Rattle.lens.specs.Reading.{
  reading,
  mode_side,
  keyed,
  copied,
  given_word,
  reading_copy,
  reading_const,
  reading_key,
  reading_join,
  reading_left,
  reading_right,
  reading_match,
}
use Rattle.texts.specs.Cutting.{rest_lent}
use Rattle.lens.specs.Emitting.{side_for, WordIs, LensNode, Emits, EmitsJoin, ReadBy}
use Rattle.lens.specs.Parsed.{
  Parsed,
  ParsedJoin,
  parsed_match,
  join_length,
  border_few,
  border_inside,
  border_left_lent,
  border_right_lent,
  border_is_cut,
  union_few,
  union_left,
  union_in_left,
  union_right,
  union_not_left,
}
use Rattle.lens.specs.Nodes.{same_lens, shown_copy, shown_const, shown_key, shown_join, shown_match, describes_lens, child_below, left_below, given_letters}

-- ---- By the kind of the node

-- what is written at the lens that a node is, is written at the node
pub its_lens :
    {bytes : Text} {node : ℕ} {mode : Mode} {text before after : Text} {answer : Wrote} (l : Lens)
    → tree_at (trees bytes) node ≡ lens l
    → Lays (keyed mode) (reading mode l text) before after answer
    → Emits bytes node mode text before after answer
its_lens {mode} {text} {before} {after} {answer} l e w =
    record { writes = λ m f. subst (λ k. Lays (keyed mode) (reading mode k text) before after answer) (same_lens l m (sym e ∙ f)) w }

-- a match gives what its child gives
match_emits :
    {bytes : Text} {node a : ℕ} {mode : Mode} {text before after : Text} {answer : Wrote}
    → OneLens (trees bytes) node a (λ l. lens (match a l))
    → Emits bytes a mode text before after answer
    → Emits bytes node mode text before after answer
match_emits {a = a} {mode} {text} s w =
    its_lens (match a s.child) s.tree_is (rw (reading_match mode a s.child text) (w.writes s.child s.at_child))

module _ {bytes : Text} {node : ℕ} {r : Node} {mode : Mode} {text before after : Text} {answer : Wrote} (read : NodeRead bytes node r) where
  -- a copy gives its text
  pub emits_copy : {a : ℕ} → r.kind ≡ Copy a → Lays (keyed mode) (copied mode text) before after answer → Emits bytes node mode text before after answer
  emits_copy e w = let s = shown_copy read e in its_lens (copy s.child) s.tree_is (rw (reading_copy mode s.child text) w)

  -- a const gives its word, or its default
  pub emits_const :
      {a b c given : ℕ} {letters : Text}
      → r.kind ≡ Const a b c
      → given ≡ given_word mode b c
      → WordIs bytes given letters
      → Lays (keyed mode) (copied mode letters) before after answer
      → Emits bytes node mode text before after answer
  emits_const e given_is letters w =
      let s = shown_const read e in
      its_lens
      (const s.child s.sheet_word s.default_word)
      s.tree_is
      (rw (reading_const mode s.child s.sheet_word s.default_word text, ← (given_letters mode s given_is letters)) w)

  -- a key gives its text
  pub emits_key : {a : ℕ} → r.kind ≡ Key a → Lays (keyed mode) text before after answer → Emits bytes node mode text before after answer
  emits_key e w = let s = shown_key read e in its_lens (key s.child) s.tree_is (rw (reading_key mode s.child text) w)

  -- a join gives what its halves give together
  pub emits_join :
      {a b : ℕ}
      → r.kind ≡ LensJoin a b
      → EmitsJoin bytes a b mode text before after answer
      → Emits bytes node mode text before after answer
  emits_join e w =
      let s = shown_join read e in
      its_lens (join s.left s.right) s.tree_is (w.writes s.left s.right s.at_left s.at_right)

  pub emits_match : {a : ℕ} → r.kind ≡ Match a → Emits bytes a mode text before after answer → Emits bytes node mode text before after answer
  emits_match e w = match_emits (shown_match read e) w

-- ---- The node by which a lens is read

module _ {bytes : Text} {node r : ℕ} (by : ReadBy bytes node r) where
  pub read_below : {prepared : List ℕ} → LensNode bytes prepared node → LensNode bytes prepared r
  read_below known = ⊎_elim (λ e. rw e known) (λ s. child_below known s) by.is

  pub read_lower : r ≤ node
  read_lower = ⊎_elim (λ e. omega arith) (λ s. omega (arith, s.lower)) by.is

  pub read_parsed : {side : SideOf} {base : ℕ} {path : List ℕ} {text : Text} → Parsed bytes node side base path text → Parsed bytes r side base path text
  read_parsed parsed = ⊎_elim (λ e. rw e parsed) (λ s. parsed_match parsed s) by.is

  pub read_emits :
      {mode : Mode} {text before after : Text} {answer : Wrote} → Emits bytes r mode text before after answer → Emits bytes node mode text before after answer
  read_emits w = ⊎_elim (λ e. rw e at w) (λ s. match_emits s w) by.is

-- the arm of a union that the path goes by, where the arms' positions are told apart by the left one's automaton
module _
    {bytes : Text}
    {prepared : List ℕ}
    {node left right : ℕ}
    {base : ℕ}
    {path : List ℕ}
    {text : Text}
    {a : Automaton}
    (mode : Mode)
    (known : LensNode bytes prepared node)
    (s : TwoLenses (trees bytes) node left right (λ l m. lens (union l m)))
    (parsed : Parsed bytes node (mode_side mode) base path text)
    (a-is : a ≡ automaton_at prepared left (side_for mode)) where
  -- the automaton is that of the left arm's language
  described : Describes (language (mode_side mode) s.left) a prepared
  described = rw a-is (describes_lens (left_below known s) mode s.left s.at_left)

  -- the right arm's positions begin where the left one's end
  begins : base + a.count ≡ base + positions (language (mode_side mode) s.left)
  begins = ap (λ n. base + n) described.count_is

  -- there are few of them
  pub arm_few : base + a.count ≤ 128
  arm_few = rw begins (union_few parsed s)

  module _ {by_left : Bool} (told : by_left ≡ goes_left (base + a.count) a.nullable path) where
    -- a text whose path goes left is parsed at the left arm, one whose path goes right at the right one
    pub left_parsed : by_left ≡ true → Parsed bytes left (mode_side mode) base path text
    left_parsed e = union_left parsed s begins described.nullable_is (sym told ∙ e)

    pub right_parsed : by_left ≡ false → Parsed bytes right (mode_side mode) (base + a.count) path text
    right_parsed e = union_right parsed s begins described.nullable_is (sym told ∙ e)

    module _ {before after : Text} {answer : Wrote} where
      -- and the union gives what that arm gives
      pub emits_left : by_left ≡ true → Emits bytes left mode text before after answer → Emits bytes node mode text before after answer
      emits_left e w =
          its_lens
          (union s.left s.right)
          s.tree_is
          (rw
          (reading_left mode s.left s.right text (union_in_left parsed s begins described.nullable_is (sym told ∙ e)))
          (w.writes s.left s.at_left))

      pub emits_right : by_left ≡ false → Emits bytes right mode text before after answer → Emits bytes node mode text before after answer
      emits_right e w =
          its_lens
          (union s.left s.right)
          s.tree_is
          (rw
          (reading_right mode s.left s.right text (union_not_left parsed s begins described.nullable_is (sym told ∙ e)))
          (w.writes s.right s.at_right))

-- ---- A text behind another

-- the answer, where n bytes were written before
abbrev pub further : ℕ → Wrote → Wrote
further n (Some m) = Some (n + m)
further n None = None

-- a text that is written behind the n bytes of another
pub writes_further :
    {padded : Bool} (s t before after rest : Text) (n : ℕ) (answer w : Wrote)
    → Lays padded s before after (Some n)
    → Lays padded t (take (length after - n) (drop n after)) rest answer
    → answer ≡ w
    → Lays padded (s ++ t) before (take n after ++ (rest ++ drop (length after - n) (drop n after))) (further n w)
writes_further s t before after rest n answer (Some m) first second e =
    writes_lent s t before after rest n answer first second (Some (n + m)) (λ k f. cc) (λ f. absurd (let z : ◌≡◌ {A = ℕ} 0 1 = cc in omega arith))
writes_further s t before after rest n answer None first second e =
    writes_lent s t before after rest n answer first second None (λ k f. absurd (let z : ◌≡◌ {A = ℕ} 0 1 = cc in omega arith)) (λ f. refl)

-- what was written lies within the buffer
pub emitted_within :
    {bytes : Text} {prepared : List ℕ} {node n : ℕ} {mode : Mode} {text before after : Text} {answer : Wrote}
    → LensNode bytes prepared node
    → Emits bytes node mode text before after answer
    → answer ≡ Some n
    → n ≤ length after
emitted_within {n} {mode} {text} {before} {after} known emitted e =
    writes_within (reading mode known.tree text) before after n (rw e at (emitted.writes known.tree known.tree_is))

-- the buffer is as long as before
pub emitted_length :
    {bytes : Text} {prepared : List ℕ} {node : ℕ} {mode : Mode} {text before after : Text} {answer : Wrote}
    → LensNode bytes prepared node
    → Emits bytes node mode text before after answer
    → length after ≡ length before
emitted_length {mode} {text} {before} known emitted =
    ap length (emitted.writes known.tree known.tree_is).buffer_is ∙ overlay_length (reading mode known.tree text) before

-- two counts together lie within the buffer
pub sum_within :
    {n m : ℕ} (after rest : Text)
    → n ≤ length after
    → m ≤ length rest
    → length rest ≡ length (take (length after - n) (drop n after))
    → n + m ≤ length after
sum_within {n} after rest h k kept = omega (arith, h, k, kept, ap length (rest_lent after n), length-drop n after)

-- the two halves of a text, the second directly behind what the first gave
module _
    {bytes : Text}
    {prepared : List ℕ}
    {left right base : ℕ}
    {path : List ℕ}
    {text : Text}
    {a : Automaton}
    (mode : Mode)
    (known : LensNode bytes prepared left)
    (parsed : ParsedJoin bytes left right (mode_side mode) base path text)
    (a-is : a ≡ automaton_at prepared left (side_for mode)) where
  -- the right half's positions begin where the left one's end
  half_begins : base + a.count ≡ base + positions (language (mode_side mode) parsed.first)
  half_begins =
      let first : Describes (language (mode_side mode) parsed.first) a prepared =
      rw a-is (describes_lens known mode parsed.first parsed.at_left) in
      ap (λ n. base + n) first.count_is

  -- there are few of them
  pub half_few : base + a.count ≤ 128
  half_few = rw half_begins (border_few parsed)

  module _ {i : ℕ} (i_is : i ≡ border (base + a.count) path) where
    -- the halves are within text and path, and parsed
    pub half_inside : (i ≤ length text) × (i ≤ length path)
    half_inside = (border_inside parsed half_begins i_is, omega (arith, border_inside parsed half_begins i_is, join_length parsed))

    pub left_half : Parsed bytes left (mode_side mode) base (take (i - 0) path) (take (i - 0) text)
    left_half = border_left_lent parsed half_begins i_is

    pub right_half :
        Parsed bytes right (mode_side mode) (base + a.count) (take (length path - i) (drop i path)) (take (length text - i) (drop i text))
    right_half = border_right_lent parsed half_begins i_is

    -- what they give together is what the join gives
    halves :
        (l m : Lens)
        → tree_at (trees bytes) left ≡ lens l
        → tree_at (trees bytes) right ≡ lens m
        → reading mode (join l m) text ≡ reading mode l (take i text) ++ reading mode m (drop i text)
    halves l m e f =
        let l_is : parsed.first ≡ l = same_lens parsed.first l (sym parsed.at_left ∙ e) in
        let m_is : parsed.second ≡ m = same_lens parsed.second m (sym parsed.at_right ∙ f) in
        reading_join mode l m text i (rw (← l_is, ← m_is) (border_is_cut parsed half_begins i_is))

    module _ {before after : Text} {answer : Wrote} (first : Emits bytes left mode (take (i - 0) text) before after answer) where
      -- the left half's reading is written
      left_written : (l : Lens) → tree_at (trees bytes) left ≡ lens l → Lays (keyed mode) (reading mode l (take i text)) before after answer
      left_written l e = rw sub-zero at (first.writes l e)

      -- where it did not fit, the join does not
      pub join_full : answer ≡ None → EmitsJoin bytes left right mode text before after None
      join_full full =
          record {
            writes = λ l m e f.
                let left-full = rw full at (left_written l e) in
                rw (halves l m e f) (writes_full (reading mode l (take i text)) (reading mode m (drop i text)) before after left-full);
          }

      -- where it did, the right half's is written behind it
      pub join_next :
          {n : ℕ} {rest : Text} {answer' : Wrote}
          → answer ≡ Some n
          → Emits bytes right mode (take (length text - i) (drop i text)) (take (length after - n) (drop n after)) rest answer'
          → (w : Wrote)
          → answer' ≡ w
          → EmitsJoin bytes left right mode text before (take n after ++ (rest ++ drop (length after - n) (drop n after))) (further n w)
      join_next {n} {rest} {answer'} count second w w-is =
          record {
            writes = λ l m e f.
                rw
                (halves l m e f)
                (writes_further
                (reading mode l (take i text))
                (reading mode m (drop i text))
                before
                after
                rest
                n
                answer'
                w
                (rw count at (left_written l e))
                (rw (rest_lent text i) at (second.writes m f))
                w-is);
          }
