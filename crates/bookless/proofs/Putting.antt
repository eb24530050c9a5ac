-- What a node puts where no entry answers, from what the nodes below it put.
use mathlib.Core.Path.{◌≡◌, refl, sym, ap, subst, ◌∙◌}
use mathlib.Core.List.{List, [], ◌++◌}
use mathlib.Core.Option.{Option, none, some}
use Prim.Native.Nat.{ℕ, ◌+◌, ◌-◌, ◌^◌, ◌≤◌, ◌<◌}
use native.Mathlib.Nat.{sub-zero}
use native.Mathlib.Omega.{arith}
use lib.ListN.{length, take, drop, length-take, length-drop}
use Rattle.semantics.specs.Text.{Text, or_else, apply}
use Rattle.semantics.specs.Pattern.{Pattern}
use Rattle.semantics.specs.Lens.{Lens, copy, const, key, join, union, match, sheet, language, cut_at, Written, write, create}
use Rattle.semantics.specs.Table.{trees, tree_at, lens}
use Rattle.laws.specs.Bookless.{plain, plain_join, plain_match}
use Rattle.table.specs.declared.Kind.TheVariants.{Copy, Const, Key, LensJoin, Match}
use Rattle.table.specs.declared.Node.{Node}
use Rattle.table.specs.Prepared.{TwoLenses}
use Rattle.table.specs.Rules.{NodeRead}
use Rattle.lens.specs.declared.Mode.TheVariants.{Create}
use Rattle.texts.specs.Overlay.{Wrote}
use Rattle.std.specs.Prelude.{Some, None}
use Rattle.texts.specs.Overlay.{Writes, overlay_length, writes_within, writes_full}
use Rattle.lens.specs.Reading.{reading}
use Rattle.texts.specs.Cutting.{rest_lent}
use Rattle.lens.specs.Emitting.{LensNode, Emits}
use Rattle.lens.specs.Nodes.{same_lens, shown_copy, shown_const, shown_key, shown_join, shown_match}
use Rattle.lens.specs.Parsed.{parsed_join}
use Rattle.books.specs.declared.Place.{Place}
use Rattle.books.specs.Old.{Old}
use Rattle.books.specs.Looking.{part_at, old_text}
use Rattle.steps.specs.declared.Spot.{Spot}
use Rattle.steps.specs.declared.Cut.{Cut}
use Rattle.steps.specs.declared.Halves.{Halves}
use Rattle.steps.specs.declared.Choice.{Choice}
use Rattle.steps.specs.Steps.{PlaceInside, cut_sheet, halves_of, ArmIs, ChoiceIs, count_behind, Fits64}
use Rattle.steps.specs.Stepping.{
  behind_back,
  cut_inside,
  cut_near,
  cut_far,
  cut_there,
  first_text,
  second_text,
  first_parsed,
  second_parsed,
  writes_behind,
  behind_fits,
}
use Rattle.bookless.specs.Bookless.{Given, GivenOld, GivenJoin, PutsText, PutsJoin}

-- ---- By the kind of the node

-- what is put by the lens that a node is, is put by the node
pub its_lens :
    {bytes : Text} {node : ℕ} {old : Option Text} {new before after : Text} {r : Wrote} (l : Lens)
    → tree_at (trees bytes) node ≡ lens l
    → Writes (plain l old new) before after r
    → PutsText bytes node old new before after r
its_lens {old = old} {new = new} {before = before} {after = after} {r = r} l e w =
    record { writes = λ m f. subst (λ k. Writes (plain k old new) before after r) (same_lens l m (sym e ∙ f)) w }

-- the buffer is as long as before
pub put_length :
    {bytes : Text} {prepared : List ℕ} {node : ℕ} {old : Option Text} {new before after : Text} {r : Wrote}
    → LensNode bytes prepared node
    → PutsText bytes node old new before after r
    → length after ≡ length before
put_length {old = old} {new = new} {before = before} known put =
    ap length (put.writes known.tree known.tree_is).buffer_is ∙ overlay_length (plain known.tree old new) before

module _ (old : Option Text) (a : Text) where
  plain_copy : (r : Pattern) → plain (copy r) old a ≡ a
  unfolding plain write
  plain_copy r = refl

  plain_key : (r : Pattern) → plain (key r) old a ≡ a
  unfolding plain write
  plain_key r = refl

plain_const : (r : Pattern) (w d t a : Text) → plain (const r w d) (some t) a ≡ t
unfolding plain write or_else
plain_const r w d t a = refl

-- create is what is read off a sheet
created_plain : (l : Lens) (a : Text) → reading Create l a ≡ plain l none a
unfolding reading create plain
created_plain l a = refl

-- an old text that is there, or is not
pub puts_at :
    {bytes : Text} {node : ℕ} (p : Place) (deck : Text) {old : Old} {new before after : Text} {r : Wrote}
    → old ≡ Some p
    → PutsText bytes node (some (part_at deck p)) new before after r
    → PutsText bytes node (old_text deck old) new before after r
unfolding old_text
puts_at p deck e put = rw e put

pub puts_nothing :
    {bytes : Text} {node : ℕ} (deck : Text) {old : Old} {new before after : Text} {r : Wrote}
    → old ≡ None
    → PutsText bytes node none new before after r
    → PutsText bytes node (old_text deck old) new before after r
unfolding old_text
puts_nothing deck e put = rw e put

-- without an old text the node creates
pub puts_created :
    {bytes : Text} {node : ℕ} {new before after : Text} {r : Wrote}
    → Emits bytes node Create new before after r
    → PutsText bytes node none new before after r
puts_created {new = new} emitted = record { writes = λ l e. rw (← (created_plain l new)) (emitted.writes l e) }

module _ {bytes : Text} {node : ℕ} {read : Node} {new before after : Text} {r : Wrote} (is_read : NodeRead bytes node read) where
  -- a copy puts the sheet, and so does a key
  pub puts_copy : {old : Option Text} {a : ℕ} → read.kind ≡ Copy a → Writes new before after r → PutsText bytes node old new before after r
  puts_copy {old} e w = let s = shown_copy is_read e in its_lens (copy s.child) s.tree_is (rw (plain_copy old new s.child) w)

  pub puts_key : {old : Option Text} {a : ℕ} → read.kind ≡ Key a → Writes new before after r → PutsText bytes node old new before after r
  puts_key {old} e w = let s = shown_key is_read e in its_lens (key s.child) s.tree_is (rw (plain_key old new s.child) w)

  -- a const keeps the old text, which is lent from the deck
  pub puts_const :
      (p : Place) (deck : Text) {a b c : ℕ}
      → read.kind ≡ Const a b c
      → Writes (take (p.start + p.len - p.start) (drop p.start deck)) before after r
      → PutsText bytes node (some (part_at deck p)) new before after r
  puts_const p deck e w =
      let s = shown_const is_read e in
      let as_long : p.start + p.len - p.start ≡ p.len = omega arith in
      its_lens
      (const s.child s.sheet_word s.default_word)
      s.tree_is
      (rw (plain_const s.child s.sheet_word s.default_word (part_at deck p) new) (rw as_long at w))

  -- a join puts what its halves put together
  pub puts_join :
      {old : Option Text} {a b : ℕ}
      → read.kind ≡ LensJoin a b
      → PutsJoin bytes a b old new before after r
      → PutsText bytes node old new before after r
  puts_join e w =
      let s = shown_join is_read e in
      its_lens (join s.left s.right) s.tree_is (w.writes s.left s.right s.at_left s.at_right)

  -- a match creates, since it finds no entry
  pub puts_match :
      {old : Option Text} {a : ℕ} → read.kind ≡ Match a → Emits bytes a Create new before after r → PutsText bytes node old new before after r
  puts_match {old} {a} e w =
      let s = shown_match is_read e in
      let child : PutsText bytes a none new before after r = puts_created w in
      its_lens (match a s.child) s.tree_is (rw (plain_match a s.child old new) (child.writes s.child s.at_child))

-- a union puts what its arm does
plain_arm : (l m : Lens) (old kept : Option Text) (a : Text) → write l old a [] ≡ write m kept a [] → plain l old a ≡ plain m kept a
unfolding plain
plain_arm l m old kept a e = ap (λ (w : Written). w.text) e

pub puts_union :
    {bytes : Text} {node left right : ℕ} {old kept : Option Text} {new : Text} {path : List ℕ} {spot : Spot} {before after : Text} {r : Wrote}
    → (s : TwoLenses (trees bytes) node left right (λ l m. lens (union l m)))
    → ArmIs bytes node s.left s.right old kept new path spot
    → PutsText bytes spot.node kept new before after r
    → PutsText bytes node old new before after r
puts_union {old = old} {kept = kept} {new = new} s chosen put =
    its_lens
    (union s.left s.right)
    s.tree_is
    (rw
    (plain_arm (union s.left s.right) chosen.arm old kept new (chosen.writes_same []))
    (put.writes chosen.arm chosen.arm_is))

-- ---- What the nodes below are given

-- the arm of a union
pub arm_given :
    {bytes : Text} {spot : Spot} {l m : Lens} {new : Text} {path path' : List ℕ} {p : Place} {deck : Text} {choice : Choice}
    → Given bytes spot new path p deck
    → ChoiceIs bytes spot.node l m new path' p deck choice
    → GivenOld bytes choice.arm new path' choice.old deck
arm_given given chosen =
    record {
      sheet_given = record {
        new_short = given.sheet_given.new_short;
        parsed = chosen.is_arm.sheet_parsed;
        deck_room = given.sheet_given.deck_room;
      };
      old_fits = chosen.old_parsed;
    }

-- the two nodes of a join
pub join_given :
    {bytes : Text} {spot : Spot} {left right : ℕ} {new : Text} {path : List ℕ} {p : Place} {deck : Text}
    → Given bytes spot new path p deck
    → TwoLenses (trees bytes) spot.node left right (λ l m. lens (join l m))
    → GivenJoin bytes left right spot.base new path p deck
join_given given s =
    record {
      new_short = given.sheet_given.new_short;
      parsed = parsed_join given.sheet_given.parsed s;
      deck_room = given.sheet_given.deck_room;
      inside = given.old_parsed.inside;
      old_parsed = parsed_join given.old_parsed.parsed s;
    }

-- whose old text stands within the old source
pub join_inside :
    {bytes : Text} {left right base : ℕ} {new : Text} {path : List ℕ} {p : Place} {deck : Text} → GivenJoin bytes left right base new path p deck → PlaceInside p
join_inside given = record { inside = given.inside; based = omega (arith, given.old_parsed.few) }

-- ---- The halves of a join

module _
    {bytes : Text}
    {prepared : List ℕ}
    {left right base : ℕ}
    {new : Text}
    {path : List ℕ}
    (p : Place)
    (deck : Text)
    {cut : Cut}
    {halves : Halves}
    (known : LensNode bytes prepared left)
    (given : GivenJoin bytes left right base new path p deck)
    (cut_is : cut ≡ cut_sheet prepared left right base path)
    (halves_are : halves ≡ halves_of prepared left p deck) where
  -- the nodes of the halves
  pub near_node : cut.left.node ≡ left
  near_node = ap (λ c. c.left.node) cut_is

  pub far_node : cut.right.node ≡ right
  far_node = ap (λ c. c.right.node) cut_is

  -- the first half is given as it is lent
  pub near_given : Given bytes cut.left (take (cut.at - 0) new) (take (cut.at - 0) path) halves.first deck
  near_given =
      record {
        sheet_given = record {
          new_short = omega (arith, given.new_short, length-take (cut.at - 0) new);
          parsed = cut_near known given.parsed cut_is;
          deck_room = given.deck_room;
        };
        old_parsed = rw near_node (first_parsed p deck known given.inside given.old_parsed halves_are);
      }

  -- so is the second, behind what the first did to its part of the path
  pub far_given :
      (part : List ℕ)
      → length part ≡ length (take (cut.at - 0) path)
      → let after = part ++ drop (cut.at - 0) path in
      Given bytes cut.right (take (length new - cut.at) (drop cut.at new)) (take (length after - cut.at) (drop cut.at after)) halves.second deck
  far_given part kept =
      let same : drop cut.at (part ++ drop (cut.at - 0) path) ≡ drop cut.at path =
      behind_back path part 0 cut.at (omega arith) (cut_inside known given.parsed cut_is).1 kept in
      record {
        sheet_given = record {
          new_short = omega (arith, given.new_short, ap length (rest_lent new cut.at), length-drop cut.at new);
          parsed = rw (rest_lent new cut.at, rest_lent (part ++ drop (cut.at - 0) path) cut.at, same) (cut_far known given.parsed cut_is);
          deck_room = given.deck_room;
        };
        old_parsed = rw far_node (second_parsed p deck known given.inside given.old_parsed halves_are);
      }

  -- what they put together is what the join puts
  halves_put :
      (l m : Lens)
      → tree_at (trees bytes) left ≡ lens l
      → tree_at (trees bytes) right ≡ lens m
      → plain (join l m) (some (part_at deck p)) new
      ≡ plain l (some (part_at deck halves.first)) (take cut.at new) ++ plain m (some (part_at deck halves.second)) (drop cut.at new)
  unfolding or_else apply
  halves_put l m e f =
      let sheets = given.parsed in
      let olds = given.old_parsed in
      let l_is : sheets.first ≡ l = same_lens sheets.first l (sym sheets.at_left ∙ e) in
      let m_is : sheets.second ≡ m = same_lens sheets.second m (sym sheets.at_right ∙ f) in
      let old_l_is : olds.first ≡ l = same_lens olds.first l (sym olds.at_left ∙ e) in
      let old_m_is : olds.second ≡ m = same_lens olds.second m (sym olds.at_right ∙ f) in
      let i_is : cut.at ≡ cut_at (language sheet l) (language sheet m) new = rw (← l_is, ← m_is) (cut_there known sheets cut_is) in
      let first_is = first_text p deck known given.inside olds halves_are in
      let second_is = second_text p deck known given.inside olds halves_are in
      plain_join l m (some (part_at deck p)) new ∙ rw (i_is, first_is, second_is, old_l_is, old_m_is)

  -- the first half, where it is put
  module _
      {before after : Text}
      {r : Wrote}
      (near : PutsText bytes cut.left.node (some (part_at deck halves.first)) (take (cut.at - 0) new) before after r) where
    near_written :
        (l : Lens) → tree_at (trees bytes) left ≡ lens l → Writes (plain l (some (part_at deck halves.first)) (take cut.at new)) before after r
    near_written l e = rw sub-zero at (near.writes l (ap (λ k. tree_at (trees bytes) k) near_node ∙ e))

    -- it lies within the buffer
    pub near_within : {n : ℕ} → r ≡ Some n → n ≤ length after
    near_within {n} count =
        let sheets = given.parsed in
        writes_within
        (plain sheets.first (some (part_at deck halves.first)) (take cut.at new))
        before
        after
        n
        (rw count at (near_written sheets.first sheets.at_left))

    -- where it did not fit, the join does not
    pub join_full : r ≡ None → PutsJoin bytes left right (some (part_at deck p)) new before after None
    join_full full =
        record {
          writes = λ l m e f.
              let near-full = rw full at (near_written l e) in
              rw
              (halves_put l m e f)
              (writes_full
              (plain l (some (part_at deck halves.first)) (take cut.at new))
              (plain m (some (part_at deck halves.second)) (drop cut.at new))
              before
              after
              near-full);
        }

    -- where it did, the second is put behind it
    module _
        {n : ℕ}
        {rest : Text}
        {more : Wrote}
        (count : r ≡ Some n)
        (far :
        PutsText
        bytes
        cut.right.node
        (some (part_at deck halves.second))
        (take (length new - cut.at) (drop cut.at new))
        (take (length after - n) (drop n after))
        rest
        more) where
      far_written :
          (m : Lens)
          → tree_at (trees bytes) right ≡ lens m
          → Writes (plain m (some (part_at deck halves.second)) (drop cut.at new)) (take (length after - n) (drop n after)) rest more
      far_written m f = rw (rest_lent new cut.at) at (far.writes m (ap (λ k. tree_at (trees bytes) k) far_node ∙ f))

      pub join_fits : length before < 2 ^ 64 → Fits64 n more
      join_fits small =
          let sheets = given.parsed in
          behind_fits
          (plain sheets.first (some (part_at deck halves.first)) (take cut.at new))
          (plain sheets.second (some (part_at deck halves.second)) (drop cut.at new))
          before
          after
          rest
          n
          more
          (rw count at (near_written sheets.first sheets.at_left))
          (far_written sheets.second sheets.at_right)
          small

      pub join_next :
          PutsJoin bytes left right (some (part_at deck p)) new before (take n after ++ (rest ++ drop (length after - n) (drop n after))) (count_behind n more)
      join_next =
          record {
            writes = λ l m e f.
                rw
                (halves_put l m e f)
                (writes_behind
                (plain l (some (part_at deck halves.first)) (take cut.at new))
                (plain m (some (part_at deck halves.second)) (drop cut.at new))
                before
                after
                rest
                n
                more
                (rw count at (near_written l e))
                (far_written m f));
          }
