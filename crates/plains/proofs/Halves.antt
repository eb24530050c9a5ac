-- The halves of a join: what their nodes are given, and what they write, one behind the other.
use mathlib.Core.Path.{◌≡◌, refl, sym, ap, ap₂, ◌∙◌}
use mathlib.Core.List.{List, ◌++◌}
use mathlib.Core.Option.{none, some}
use Prim.Native.Nat.{ℕ, ◌-◌, ◌≤◌, ◌<◌}
use native.Mathlib.Nat.{le_refl}
use native.Mathlib.Omega.{arith}
use lib.ListN.{length, take, drop, length-take, length-drop}
use Rattle.semantics.specs.Text.{Text, or_else, apply}
use Rattle.semantics.specs.Lens.{join, source, sheet, language, cut_at}
use Rattle.semantics.specs.Table.{trees, tree_at, lens}
use Rattle.table.specs.Prepared.{TwoLenses}
use Rattle.texts.specs.Cutting.{rest_lent, part_length_lem}
use Rattle.lens.specs.Emitting.{LensNode}
use Rattle.lens.specs.Nodes.{same_lens, left_below, right_below}
use Rattle.lens.specs.Parsed.{ParsedJoin, parsed_join}
use Rattle.books.specs.declared.Place.{Place}
use Rattle.books.specs.Looking.{part_at, trail_of, OldParsed}
use Rattle.steps.specs.declared.Spot.{Spot}
use Rattle.steps.specs.declared.Cut.{Cut}
use Rattle.steps.specs.declared.Halves.{Halves}
use Rattle.steps.specs.Steps.{cut_sheet, halves_of}
use Rattle.steps.specs.Stepping.{behind_back, cut_inside, cut_near, cut_far, cut_there, first_text, second_text, first_parsed, second_parsed}
use Rattle.bookless.specs.Bookless.{NewGiven}
use Rattle.plains.specs.declared.Done.{Done}
use Rattle.plains.specs.Writing.{WritesBehind}
use Rattle.plains.proofs.Behind.{at_node}
use Rattle.plains.proofs.ByKind.{join_writes}

module _
    {bytes : Text}
    {prepared : List ℕ}
    {spot : Spot}
    {left right : ℕ}
    {new path deck : Text}
    {cut : Cut}
    (known : LensNode bytes prepared spot.node)
    (s : TwoLenses (trees bytes) spot.node left right (λ l m. lens (join l m)))
    (given : NewGiven bytes spot new path deck)
    (cut_is : cut ≡ cut_sheet prepared left right spot.base path) where
  -- the nodes of the halves
  pub near_is : cut.left.node ≡ left
  near_is = ap (λ c. c.left.node) cut_is

  pub far_is : cut.right.node ≡ right
  far_is = ap (λ c. c.right.node) cut_is

  -- they are lower, and lenses
  pub halves_lower : (cut.left.node < spot.node) × (cut.right.node < spot.node)
  halves_lower = (rw near_is s.left_lower, rw far_is s.right_lower)

  pub near_known : LensNode bytes prepared cut.left.node
  near_known = rw near_is (left_below known s)

  pub far_known : LensNode bytes prepared cut.right.node
  far_known = rw far_is (right_below known s)

  -- the sheet is parsed at both together
  whole : ParsedJoin bytes left right sheet spot.base path new
  whole = parsed_join given.parsed s

  -- by the lenses that the halves are
  near_tree : tree_at (trees bytes) cut.left.node ≡ lens whole.first
  near_tree = ap (tree_at (trees bytes)) near_is ∙ whole.at_left

  far_tree : tree_at (trees bytes) cut.right.node ≡ lens whole.second
  far_tree = ap (tree_at (trees bytes)) far_is ∙ whole.at_right

  join_tree : tree_at (trees bytes) spot.node ≡ lens (join whole.first whole.second)
  join_tree =
      s.tree_is
      ∙ ap₂
      (λ l m. lens (join l m))
      (same_lens s.left whole.first (sym s.at_left ∙ whole.at_left))
      (same_lens s.right whole.second (sym s.at_right ∙ whole.at_right))

  pub at_inside : (cut.at ≤ length new) × (cut.at ≤ length path)
  at_inside = cut_inside (left_below known s) whole cut_is

  -- what the left half is given
  pub near_given : NewGiven bytes cut.left (take (cut.at - 0) new) (take (cut.at - 0) path) deck
  near_given =
      record {
        new_short = omega (arith, given.new_short, length-take (cut.at - 0) new);
        parsed = cut_near (left_below known s) whole cut_is;
        deck_room = given.deck_room;
      }

  -- the path is as long once its left half was lent and came back, and once the right one was
  pub left_back :
      (front : List ℕ) → length front ≡ length (take (cut.at - 0) path) → length (front ++ drop (cut.at - 0) path) ≡ length path
  left_back front as_long = part_length_lem path front 0 cut.at (omega arith) at_inside.1 as_long

  pub right_back :
      (front back : List ℕ)
      → length front ≡ length (take (cut.at - 0) path)
      → let path' = front ++ drop (cut.at - 0) path in
      length back ≡ length (take (length path' - cut.at) (drop cut.at path'))
      → length (take cut.at path' ++ (back ++ drop (length path' - cut.at) (drop cut.at path'))) ≡ length path
  right_back front back as_long back_long =
      let path' = front ++ drop (cut.at - 0) path in
      let same = left_back front as_long in
      part_length_lem path' back cut.at (length path') (omega (arith, at_inside.1, same)) (le_refl (length path')) back_long ∙ same

  -- what the right half is given then
  pub far_given :
      (part : List ℕ)
      → length part ≡ length (take (cut.at - 0) path)
      → let path' = part ++ drop (cut.at - 0) path in
      NewGiven bytes cut.right (take (length new - cut.at) (drop cut.at new)) (take (length path' - cut.at) (drop cut.at path')) deck
  far_given part as_long =
      let path' = part ++ drop (cut.at - 0) path in
      let same : drop cut.at path' ≡ drop cut.at path = behind_back path part 0 cut.at (omega arith) at_inside.1 as_long in
      record {
        new_short = omega (arith, given.new_short, length-take (length new - cut.at) (drop cut.at new), length-drop cut.at new);
        parsed = rw (rest_lent path' cut.at, rest_lent new cut.at, same) (cut_far (left_below known s) whole cut_is);
        deck_room = given.deck_room;
      }

  -- without an old text, the halves have none either
  pub join_created :
      {out mid after : Text} {done half r : Done}
      → WritesBehind bytes cut.left.node deck none (take (cut.at - 0) new) done out mid half
      → WritesBehind bytes cut.right.node deck none (take (length new - cut.at) (drop cut.at new)) half mid after r
      → WritesBehind bytes spot.node deck none new done out after r
  unfolding apply
  join_created first second =
      at_node
      (join whole.first whole.second)
      join_tree
      (join_writes
      (cut_there (left_below known s) whole cut_is)
      (refl, refl)
      (first.writes whole.first near_tree)
      (second.writes whole.second far_tree))

  module _ {p : Place} {halves : Halves} (old : OldParsed bytes spot.node deck p) (halves_are : halves ≡ halves_of prepared left p deck) where
    -- an old text is parsed at both together
    old_whole : ParsedJoin bytes left right source p.base (part_at (trail_of deck) p) (part_at deck p)
    old_whole = parsed_join old.parsed s

    -- and its halves at their nodes
    pub near_old : OldParsed bytes cut.left.node deck halves.first
    near_old = rw near_is (first_parsed p deck (left_below known s) old.inside old_whole halves_are)

    pub far_old : OldParsed bytes cut.right.node deck halves.second
    far_old = rw far_is (second_parsed p deck (left_below known s) old.inside old_whole halves_are)

    -- they are those of the definitions
    same_first : old_whole.first ≡ whole.first
    same_first = same_lens old_whole.first whole.first (sym old_whole.at_left ∙ whole.at_left)

    same_second : old_whole.second ≡ whole.second
    same_second = same_lens old_whole.second whole.second (sym old_whole.at_right ∙ whole.at_right)

    abbrev old_cut : ℕ
    old_cut = cut_at (language source whole.first) (language source whole.second) (part_at deck p)

    first_is : part_at deck halves.first ≡ take old_cut (part_at deck p)
    first_is = rw (same_first, same_second) at (first_text p deck (left_below known s) old.inside old_whole halves_are)

    second_is : part_at deck halves.second ≡ drop old_cut (part_at deck p)
    second_is = rw (same_first, same_second) at (second_text p deck (left_below known s) old.inside old_whole halves_are)

    -- each half of the sheet is put onto its own
    pub join_put :
        {out mid after : Text} {done half r : Done}
        → WritesBehind bytes cut.left.node deck (some (part_at deck halves.first)) (take (cut.at - 0) new) done out mid half
        → WritesBehind bytes cut.right.node deck (some (part_at deck halves.second)) (take (length new - cut.at) (drop cut.at new)) half mid after r
        → WritesBehind bytes spot.node deck (some (part_at deck p)) new done out after r
    unfolding apply or_else
    join_put first second =
        at_node
        (join whole.first whole.second)
        join_tree
        (join_writes
        (cut_there (left_below known s) whole cut_is)
        (ap some first_is, ap some second_is)
        (first.writes whole.first near_tree)
        (second.writes whole.second far_tree))
