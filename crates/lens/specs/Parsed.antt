-- What a node is given to read off: a text, the least path of it on a side, and from which position on the node's are numbered. What it is cut into
-- is then read off the path, constructor by constructor, and is what the definitions cut it into.
use Rattle.std.specs.Prelude.{◌≡◌, Bool, true, false, ℕ, ◌+◌, ◌-◌, ◌≤◌, ◌<◌, length, take, drop}
use Rattle.std.proofs.Common.{sym, ap, subst, ◌∙◌, arith, length-drop, take-append-drop, length-take-le, drop-drop, lt-ltb, le-leb}
use mathlib.Core.List.{List, ◌∷◌, head-eq_of_cons-eq}
use Rattle.std.proofs.Math.Nat.{sub-zero}
use Rattle.semantics.specs.Text.{Text, joined}
use Rattle.semantics.specs.Pattern.{Pattern, star, In, nullable, matches}
use Rattle.semantics.specs.Ambiguity.{TwoCuts, BadRepeat}
use Rattle.semantics.specs.Lens.{Lens, join, union, repeat, match, language, cut_at, parts}
use Rattle.semantics.specs.Lens.{Side as SideOf}
use Rattle.semantics.specs.Table.{positions, lens, tree_at, trees}
use Rattle.laws.specs.Basics.{false_of_not_true}
use Rattle.laws.specs.Membership.{matches_in_lem, in_matches}
use Rattle.laws.specs.Cuts.{cut_is, parts_is}
use Rattle.laws.specs.WellTyped.{WellTyped}
use Rattle.laws.specs.PositionAutomaton.{first_at, last_at}
use Rattle.laws.specs.Paths.{
  LeastPath,
  border,
  goes_left,
  first_loop,
  border_within,
  loop_within,
  loop_some,
  least_length,
  least_in,
  least_left,
  least_right,
  least_join,
  least_part,
}
use Rattle.positions.specs.declared.Set.{Set}
use Rattle.positions.specs.Positions.{holds, Moved}
use Rattle.table.specs.Prepared.{OneLens, TwoLenses}
use Rattle.automaton.specs.declared.Automaton.{Automaton}
use Rattle.automaton.specs.Rows.{automaton_at, Describes}
use Rattle.lens.specs.declared.Mode.{Mode}
use Rattle.lens.specs.Reading.{mode_side, first_part, first_part_within, parts_next}
use Rattle.texts.specs.Cutting.{rest_lent}
use Rattle.lens.specs.Emitting.{side_for, LensNode, Fits}
use Rattle.lens.specs.Nodes.{same_lens, node_prepared, describes_lens}

pub record Parsed (bytes : Text) (node : ℕ) (side : SideOf) (base : ℕ) (path : List ℕ) (text : Text) : Type 0 where
  pub tree : Lens
  pub tree_is : tree_at (trees bytes) node ≡ lens tree
  pub typed : WellTyped tree
  pub least : LeastPath (language side tree) base path text
  pub few : base + positions (language side tree) ≤ 128

-- The same of the join of two nodes.
pub record ParsedJoin (bytes : Text) (left right : ℕ) (side : SideOf) (base : ℕ) (path : List ℕ) (text : Text) : Type 0 where
  pub first : Lens
  pub second : Lens
  pub at_left : tree_at (trees bytes) left ≡ lens first
  pub at_right : tree_at (trees bytes) right ≡ lens second
  pub typed : WellTyped (join first second)
  pub least : LeastPath (language side (join first second)) base path text
  pub few : base + positions (language side (join first second)) ≤ 128

-- ---- The whole text

-- a text that belongs is parsed by its least path from position 0 on
pub parsed_whole :
    {bytes : Text} {node : ℕ} {side : SideOf} {path : List ℕ} {text : Text}
    → (fits : Fits bytes node side text)
    → LeastPath (language side fits.tree) 0 path text
    → positions (language side fits.tree) ≤ 128
    → Parsed bytes node side 0 path text
parsed_whole fits least few =
    record { tree = fits.tree; tree_is = fits.tree_is; typed = fits.typed; least = least; few = omega (arith, few) }

module _ {bytes : Text} {node : ℕ} {side : SideOf} {base : ℕ} {path : List ℕ} {text : Text} (parsed : Parsed bytes node side base path text) where
  -- a text that is parsed belongs
  pub parsed_fits : Fits bytes node side text
  parsed_fits = record { tree = parsed.tree; tree_is = parsed.tree_is; typed = parsed.typed; belongs = least_in parsed.least }

  -- its path has a position for each byte
  pub parsed_length : length path ≡ length text
  parsed_length = least_length parsed.least

  -- what is known of the node's lens is known of the lens that the node is shown to be
  abbrev shown_as : (l : Lens) → tree_at (trees bytes) node ≡ lens l → parsed.tree ≡ l
  shown_as l e = same_lens parsed.tree l (sym parsed.tree_is ∙ e)

  pub typed_as : (l : Lens) → tree_at (trees bytes) node ≡ lens l → WellTyped l
  typed_as l e = subst WellTyped (shown_as l e) parsed.typed

  pub least_as : (l : Lens) → tree_at (trees bytes) node ≡ lens l → LeastPath (language side l) base path text
  least_as l e = subst (λ k. LeastPath (language side k) base path text) (shown_as l e) parsed.least

  pub few_as : (l : Lens) → tree_at (trees bytes) node ≡ lens l → base + positions (language side l) ≤ 128
  few_as l e = subst (λ k. base + positions (language side k) ≤ 128) (shown_as l e) parsed.few

-- a text that belongs to a node, by the node's automaton
module _
    {bytes : Text}
    {prepared : List ℕ}
    {node : ℕ}
    {a : Automaton}
    {text : Text}
    (mode : Mode)
    (known : LensNode bytes prepared node)
    (a-is : a ≡ automaton_at prepared node (side_for mode))
    (fits : Fits bytes node (mode_side mode) text) where
  -- the automaton is that of the node's language
  described : Describes (language (mode_side mode) fits.tree) a prepared
  described = rw a-is (describes_lens known mode fits.tree fits.tree_is)

  -- so the text is found to belong
  pub belongs_found : {found : Bool} → ((r : Pattern) → Describes r a prepared → found ≡ matches r text) → found ≡ true
  belongs_found found_is =
      let r = language (mode_side mode) fits.tree in
      found_is r described ∙ in_matches r text fits.belongs

  -- and parsed by the least path
  pub parsed_found :
      {path : List ℕ} → ((r : Pattern) → Describes r a prepared → LeastPath r 0 path text) → Parsed bytes node (mode_side mode) 0 path text
  parsed_found path_is =
      let r = language (mode_side mode) fits.tree in
      let few : a.count ≤ 128 = rw a-is (node_prepared known (side_for mode)).room.few in
      parsed_whole fits (path_is r described) (omega (arith, few, described.count_is))

-- ---- A match

-- what is parsed at a match is parsed at its child
pub parsed_match :
    {bytes : Text} {node child n : ℕ} {side : SideOf} {base : ℕ} {path : List ℕ} {text : Text}
    → Parsed bytes node side base path text
    → OneLens (trees bytes) node child (λ l. lens (match n l))
    → Parsed bytes child side base path text
unfolding language WellTyped
parsed_match {n = n} parsed s =
    let l = match n s.child in
    record {
      tree = s.child;
      tree_is = s.at_child;
      typed = (typed_as parsed l s.tree_is).1;
      least = least_as parsed l s.tree_is;
      few = few_as parsed l s.tree_is;
    }

-- ---- A join: its path is cut at the border

-- what is parsed at a join is parsed at its two halves together
pub parsed_join :
    {bytes : Text} {node a b : ℕ} {side : SideOf} {base : ℕ} {path : List ℕ} {text : Text}
    → Parsed bytes node side base path text
    → TwoLenses (trees bytes) node a b (λ l m. lens (join l m))
    → ParsedJoin bytes a b side base path text
parsed_join parsed s =
    let l = join s.left s.right in
    record {
      first = s.left;
      second = s.right;
      at_left = s.at_left;
      at_right = s.at_right;
      typed = typed_as parsed l s.tree_is;
      least = least_as parsed l s.tree_is;
      few = few_as parsed l s.tree_is;
    }

-- where the two halves of a text belong, and no text has two cuts, that is the cut
cut_there : (r s : Pattern) → ¬ TwoCuts r s → (i : ℕ) (t : Text) → i ≤ length t → In r (take i t) → In s (drop i t) → i ≡ cut_at r s t
cut_there r s one i t within left right =
    sym (length-take-le i t within)
    ∙ sym (cut_is r s one (take i t) (drop i t) left right)
    ∙ ap (cut_at r s) (take-append-drop i t)

module _
    {bytes : Text}
    {left right : ℕ}
    {side : SideOf}
    {base : ℕ}
    {path : List ℕ}
    {text : Text}
    (parsed : ParsedJoin bytes left right side base path text) where
  -- the path of a join has a position for each byte
  pub join_length : length path ≡ length text
  join_length = least_length parsed.least

  -- the first half's positions and the second's are few together
  halves_few : base + positions (language side parsed.first) + positions (language side parsed.second) ≤ 128
  unfolding language positions
  halves_few = omega (arith, parsed.few)

  -- so are the first half's
  pub border_few : base + positions (language side parsed.first) ≤ 128
  border_few = omega (arith, halves_few)

  module _ {mid i : ℕ} (mid-is : mid ≡ base + positions (language side parsed.first)) (i_is : i ≡ border mid path) where
    -- the border is within the text
    pub border_inside : i ≤ length text
    border_inside = omega (arith, i_is, border_within mid path, join_length)

    -- both halves have their least path
    halves_least :
        LeastPath (language side parsed.first) base (take i path) (take i text)
        × LeastPath (language side parsed.second) mid (drop i path) (drop i text)
    unfolding language
    halves_least = rw (i_is, mid-is) (least_join parsed.least)

    -- before the border the text is parsed at the left node
    pub border_left : Parsed bytes left side base (take i path) (take i text)
    unfolding WellTyped
    border_left =
        record { tree = parsed.first; tree_is = parsed.at_left; typed = parsed.typed.1; least = halves_least.0; few = border_few }

    -- behind it, at the right node, whose positions begin where the left one's end
    pub border_right : Parsed bytes right side mid (drop i path) (drop i text)
    unfolding WellTyped
    border_right =
        record {
          tree = parsed.second;
          tree_is = parsed.at_right;
          typed = parsed.typed.2;
          least = halves_least.1;
          few = omega (arith, mid-is, halves_few);
        }

    -- the same, as the two halves are lent
    pub border_left_lent : Parsed bytes left side base (take (i - 0) path) (take (i - 0) text)
    border_left_lent = rw sub-zero border_left

    pub border_right_lent : Parsed bytes right side mid (take (length path - i) (drop i path)) (take (length text - i) (drop i text))
    border_right_lent = rw (rest_lent path i, rest_lent text i) border_right

    -- and the border is the cut
    pub border_is_cut : i ≡ cut_at (language side parsed.first) (language side parsed.second) text
    unfolding WellTyped
    border_is_cut =
        cut_there
        (language side parsed.first)
        (language side parsed.second)
        (parsed.typed.0 side)
        i
        text
        border_inside
        (least_in halves_least.0)
        (least_in halves_least.1)

-- ---- A union: its path goes left or right

module _
    {bytes : Text}
    {node a b : ℕ}
    {side : SideOf}
    {base : ℕ}
    {path : List ℕ}
    {text : Text}
    (parsed : Parsed bytes node side base path text)
    (s : TwoLenses (trees bytes) node a b (λ l m. lens (union l m))) where
  -- the positions of both arms are few together
  arms_few : base + positions (language side s.left) + positions (language side s.right) ≤ 128
  unfolding language positions
  arms_few = omega (arith, few_as parsed (union s.left s.right) s.tree_is)

  -- so are the left one's
  pub union_few : base + positions (language side s.left) ≤ 128
  union_few = omega (arith, arms_few)

  module _
      {mid : ℕ}
      {empty : Bool}
      (mid-is : mid ≡ base + positions (language side s.left))
      (empty_is : empty ≡ nullable (language side s.left)) where
    -- a path that goes left is parsed at the left arm
    pub union_left : goes_left mid empty path ≡ true → Parsed bytes a side base path text
    unfolding language WellTyped
    union_left e =
        let l = union s.left s.right in
        record {
          tree = s.left;
          tree_is = s.at_left;
          typed = (typed_as parsed l s.tree_is).1;
          least = least_left (least_as parsed l s.tree_is) (rw (mid-is, empty_is) at e);
          few = union_few;
        }

    -- to which the text then belongs
    pub union_in_left : goes_left mid empty path ≡ true → matches (language side s.left) text ≡ true
    unfolding language
    union_in_left e =
        in_matches
        (language side s.left)
        text
        (least_in (least_left (least_as parsed (union s.left s.right) s.tree_is) (rw (mid-is, empty_is) at e)))

    -- one that goes right is parsed at the right arm, whose positions begin where the left one's end
    pub union_right : goes_left mid empty path ≡ false → Parsed bytes b side mid path text
    unfolding language WellTyped
    union_right e =
        let l = union s.left s.right in
        record {
          tree = s.right;
          tree_is = s.at_right;
          typed = (typed_as parsed l s.tree_is).2;
          least = rw mid-is (least_right (least_as parsed l s.tree_is) (rw (mid-is, empty_is) at e)).0;
          few = omega (arith, mid-is, arms_few);
        }

    -- and the text does not belong to the left one
    pub union_not_left : goes_left mid empty path ≡ false → matches (language side s.left) text ≡ false
    unfolding language
    union_not_left e =
        let not = (least_right (least_as parsed (union s.left s.right) s.tree_is) (rw (mid-is, empty_is) at e)).1 in
        false_of_not_true (matches (language side s.left) text) (λ m. not (matches_in_lem (language side s.left) text m))

-- ---- A repeat: its path is cut at the first loop

-- The sets hold the last and the first positions of the pattern, numbered from base on.
pub record Ends (r : Pattern) (base : ℕ) (last first : Set) : Type 0 where
  pub lasts : (p : ℕ) → p < positions r → holds last (base + p) ≡ last_at r p
  pub firsts : (p : ℕ) → p < positions r → holds first (base + p) ≡ first_at r p

-- a set that is moved up by base holds from base on what it held before
moved_holds : (set moved : Set) (base p : ℕ) → Moved set base moved → base + p < 128 → holds moved (base + p) ≡ holds set p
moved_holds set moved base p up few =
    let back : base + p - base ≡ p = omega arith in
    up (base + p) ∙ rw (lt-ltb (base + p) 128 few, le-leb base (base + p) (omega arith), back)

-- so the sets of an automaton, moved up by base, hold the last and the first positions
pub moved_ends :
    {r : Pattern} {base : ℕ} {a : Automaton} {prepared : List ℕ} {last first : Set}
    → Describes r a prepared
    → base + positions r ≤ 128
    → Moved a.last base last
    → Moved a.first base first
    → Ends r base last first
moved_ends {base = base} {a = a} {last = last} {first = first} described few up-last up_first =
    record {
      lasts = λ p h. moved_holds a.last last base p up-last (omega arith) ∙ described.last_is p;
      firsts = λ p h. moved_holds a.first first base p up_first (omega arith) ∙ described.first_is p;
    }

-- two beginnings of a text that are the same text are as long
same_beginning : (i j : ℕ) (t : Text) → i ≤ length t → j ≤ length t → take i t ≡ take j t → i ≡ j
same_beginning i j t h k e = sym (length-take-le i t h) ∙ ap length e ∙ length-take-le j t k

-- where the beginning of a text is a part and the rest has parts, and no text has two lists of them, that is the first part
part_there :
    (r : Pattern)
    → ¬ BadRepeat r
    → (i : ℕ) (t : Text)
    → i ≤ length t
    → 0 < length t
    → In r (take i t)
    → In (star r) (drop i t)
    → i ≡ first_part r t
unfolding In joined
part_there r one i t within some left (ps, e, all) =
    let whole : joined (take i t ∷ ps) ≡ t = rw (← e) (take-append-drop i t) in
    let are : parts r t ≡ take i t ∷ ps = ap (parts r) (sym whole) ∙ parts_is r one (take i t ∷ ps) (left, all) in
    same_beginning i (first_part r t) t within (first_part_within r t some) (head-eq_of_cons-eq (sym are ∙ parts_next r t some))

module _
    {bytes : Text}
    {node child : ℕ}
    {side : SideOf}
    {base : ℕ}
    {path : List ℕ}
    {text : Text}
    {last first : Set}
    {i : ℕ}
    (parsed : Parsed bytes node side base path text)
    (s : OneLens (trees bytes) node child (λ l. lens (repeat l)))
    (ends : Ends (language side s.child) base last first)
    (some : 0 < length text)
    (i_is : i ≡ first_loop (holds last) (holds first) path) where
  -- the first part and the rest have their least path
  part_least :
      LeastPath (language side s.child) base (take i path) (take i text)
      × LeastPath (star (language side s.child)) base (drop i path) (drop i text)
  unfolding language
  part_least =
      let least = least_as parsed (repeat s.child) s.tree_is in
      rw i_is (least_part (holds last) (holds first) ends.lasts ends.firsts least (omega (arith, some, parsed_length parsed)))

  -- the first part is within the text, and not empty
  pub loop_inside : i ≤ length text
  loop_inside = omega (arith, i_is, loop_within (holds last) (holds first) path, parsed_length parsed)

  pub loop_moves : 0 < i
  loop_moves = rw i_is (loop_some (holds last) (holds first) path (omega (arith, some, parsed_length parsed)))

  -- it is parsed at the child
  pub loop_part : Parsed bytes child side base (take i path) (take i text)
  unfolding language WellTyped positions
  loop_part =
      let l = repeat s.child in
      record {
        tree = s.child;
        tree_is = s.at_child;
        typed = (typed_as parsed l s.tree_is).1;
        least = part_least.0;
        few = few_as parsed l s.tree_is;
      }

  -- the rest is parsed at the repeat again
  pub loop_rest : Parsed bytes node side base (drop i path) (drop i text)
  unfolding language
  loop_rest =
      let l = repeat s.child in
      record {
        tree = l;
        tree_is = s.tree_is;
        typed = typed_as parsed l s.tree_is;
        least = part_least.1;
        few = few_as parsed l s.tree_is;
      }

  -- and the loop is at the end of the first part
  pub loop_is_part : i ≡ first_part (language side s.child) text
  unfolding WellTyped
  loop_is_part =
      part_there
      (language side s.child)
      ((typed_as parsed (repeat s.child) s.tree_is).0 side)
      i
      text
      loop_inside
      some
      (least_in part_least.0)
      (least_in part_least.1)

-- What is behind the first o bytes is parsed.
pub record ParsedFrom (bytes : Text) (node : ℕ) (side : SideOf) (base : ℕ) (path : List ℕ) (text : Text) (o : ℕ) : Type 0 where
  pub within : o ≤ length text
  pub rest : Parsed bytes node side base (drop o path) (drop o text)

-- it is so at the begin
pub parsed_begin :
    {bytes : Text} {node : ℕ} {side : SideOf} {base : ℕ} {path : List ℕ} {text : Text}
    → Parsed bytes node side base path text
    → ParsedFrom bytes node side base path text 0
parsed_begin parsed = record { within = omega arith; rest = parsed }

-- one part more: what is behind the first o bytes is lent, and then the part from o to o + i
module _
    {bytes : Text}
    {node child : ℕ}
    {side : SideOf}
    {base : ℕ}
    {path : List ℕ}
    {text : Text}
    {last first : Set}
    {o i : ℕ}
    (parsed : ParsedFrom bytes node side base path text o)
    (s : OneLens (trees bytes) node child (λ l. lens (repeat l)))
    (ends : Ends (language side s.child) base last first)
    (more : o < length text)
    (i_is : i ≡ first_loop (holds last) (holds first) (take (length path - o) (drop o path))) where
  -- there is more text
  some_left_lem : 0 < length (drop o text)
  some_left_lem = rw length-drop (omega (arith, more))

  -- the loop is that of the path from o on
  loop_from : i ≡ first_loop (holds last) (holds first) (drop o path)
  loop_from = rw (rest_lent path o) at i_is

  -- the part is as long as it was found
  as_long : o + i - o ≡ i
  as_long = omega arith

  -- it is within the text, and not empty
  pub loop_inside_from : o + i ≤ length text
  loop_inside_from = omega (arith, loop_inside parsed.rest s ends some_left_lem loop_from, length-drop o text, more)

  pub loop_moves_from : 0 < i
  loop_moves_from = loop_moves parsed.rest s ends some_left_lem loop_from

  -- it is parsed at the child
  pub loop_part_from : Parsed bytes child side base (take (o + i - o) (drop o path)) (take (o + i - o) (drop o text))
  loop_part_from = rw as_long (loop_part parsed.rest s ends some_left_lem loop_from)

  -- what is behind it is parsed at the repeat again
  pub loop_rest_from : ParsedFrom bytes node side base path text (o + i)
  loop_rest_from =
      record {
        within = loop_inside_from;
        rest = rw (← (drop-drop i o path), ← (drop-drop i o text)) (loop_rest parsed.rest s ends some_left_lem loop_from);
      }

  -- and it is the first part from o on
  pub loop_is_part_from : i ≡ first_part (language side s.child) (drop o text)
  loop_is_part_from = loop_is_part parsed.rest s ends some_left_lem loop_from
