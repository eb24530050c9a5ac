-- What the nodes below a node are given, of the sheet and the old text that it was given.
use mathlib.Core.Path.{◌≡◌}
use mathlib.Core.List.{List}
use mathlib.Core.Option.{Option, none, some}
use Prim.Native.Nat.{ℕ}
use Rattle.semantics.specs.Text.{Text}
use Rattle.semantics.specs.Lens.{Lens, union, match, sheet}
use Rattle.semantics.specs.Table.{trees, lens}
use Rattle.table.specs.Prepared.{OneLens, TwoLenses}
use Rattle.lens.specs.Emitting.{LensNode}
use Rattle.lens.specs.Nodes.{left_below, right_below}
use Rattle.lens.specs.Parsed.{Parsed, parsed_match}
use Rattle.books.specs.Old.{Old}
use Rattle.std.specs.Prelude.{Some, None}
use Rattle.books.specs.declared.Place.{Place}
use Rattle.books.specs.Looking.{part_at, old_text}
use Rattle.steps.specs.declared.Choice.{Choice}
use Rattle.steps.specs.declared.Spot.{Spot}
use Rattle.steps.specs.Steps.{ArmIs, ChoiceIs, ChosenNew, Chosen}
use Rattle.steps.specs.Stepping.{old_none, old_at}
use Rattle.bookless.specs.Bookless.{NewGiven, Given, GivenOld}

-- ---- The sheet

-- the whole sheet, at another node
given_whole :
    {bytes : Text} {spot spot' : Spot} {new path path' deck : Text}
    → NewGiven bytes spot new path deck
    → Parsed bytes spot'.node sheet spot'.base path' new
    → NewGiven bytes spot' new path' deck
given_whole given parsed = record { new_short = given.new_short; parsed = parsed; deck_room = given.deck_room }

-- the child of a match has the match's sheet
pub given_match :
    {bytes : Text} {spot : Spot} {child n : ℕ} {new path deck : Text}
    → NewGiven bytes spot new path deck
    → OneLens (trees bytes) spot.node child (λ l. lens (match n l))
    → NewGiven bytes (record { node = child; base = spot.base }) new path deck
given_match given s = given_whole given (parsed_match given.parsed s)

-- the arm of a union has its sheet
pub arm_given :
    {bytes : Text} {node : ℕ} {l m : Lens} {old kept : Option Text} {spot r : Spot} {new before path deck : Text}
    → ArmIs bytes node l m old kept new path r
    → NewGiven bytes spot new before deck
    → NewGiven bytes r new path deck
arm_given arm given = given_whole given arm.sheet_parsed

-- ---- The old text

-- there is none,
pub given_none : {bytes : Text} {spot : Spot} {new path deck : Text} → NewGiven bytes spot new path deck → GivenOld bytes spot new path None deck
given_none given = record { sheet_given = given; old_fits = old_none }

-- or it stands at a place
pub given_onto :
    {bytes : Text} {spot : Spot} {new path deck : Text} {p : Place} → Given bytes spot new path p deck → GivenOld bytes spot new path (Some p) deck
given_onto given = record { sheet_given = given.sheet_given; old_fits = old_at given.old_parsed }

pub given_at :
    {bytes : Text} {spot : Spot} {new path deck : Text} {old : Old} {p : Place}
    → GivenOld bytes spot new path old deck
    → old ≡ Some p
    → Given bytes spot new path p deck
given_at {p = p} given e = record { sheet_given = given.sheet_given; old_parsed = given.old_fits.fits p e }

-- ---- The arm of a union

module _
    {bytes : Text}
    {prepared : List ℕ}
    {spot : Spot}
    {deck : Text}
    {left right : ℕ}
    (known : LensNode bytes prepared spot.node)
    (s : TwoLenses (trees bytes) spot.node left right (λ l m. lens (union l m))) where
  -- there is no old text,
  pub new_arm :
      {new path : Text} {r : Spot}
      → NewGiven bytes spot new path deck
      → ChosenNew prepared left right spot.base path r
      → ArmIs bytes spot.node s.left s.right none none new path r
  new_arm {new} given chosen = chosen.arm_is bytes new spot.node (left_below known s) s given.parsed

  -- or one, which the arm has if it is of the arm
  module _
      {new before after : Text}
      {p : Place}
      {r : Choice}
      (given : Given bytes spot new before p deck)
      (chosen : Chosen prepared left right spot.base new before after p deck r) where
    choice_is : ChoiceIs bytes spot.node s.left s.right new after p deck r
    choice_is =
        chosen.choice_is bytes spot.node (left_below known s) (right_below known s) s given.sheet_given.parsed given.old_parsed

    pub choice_arm : ArmIs bytes spot.node s.left s.right (some (part_at deck p)) (old_text deck r.old) new after r.arm
    choice_arm = choice_is.is_arm

    pub choice_given : GivenOld bytes r.arm new after r.old deck
    choice_given = record { sheet_given = arm_given choice_arm given.sheet_given; old_fits = choice_is.old_parsed }
