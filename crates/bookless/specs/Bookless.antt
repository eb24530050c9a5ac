-- What put and create owe where no old entry answers, and what they are given.
use Rattle.std.specs.Prelude.{◌≡◌, List, ℕ, ◌+◌, ◌≤◌, length}
use Rattle.std.proofs.Math.Option.{Option}
use Rattle.semantics.specs.Text.{Text}
use Rattle.semantics.specs.Lens.{Lens, join, source, sheet}
use Rattle.semantics.specs.Table.{trees, tree_at, lens}
use Rattle.laws.specs.Bookless.{plain}
use Rattle.texts.specs.Overlay.{Wrote}
use Rattle.texts.specs.Overlay.{Writes}
use Rattle.lens.specs.Parsed.{Parsed, ParsedJoin}
use Rattle.books.specs.declared.Place.{Place}
use Rattle.books.specs.Old.{Old}
use Rattle.books.specs.Looking.{part_at, trail_of, OldParsed, OldFits}
use Rattle.steps.specs.declared.Spot.{Spot}

-- A sheet of at most 4,096 bytes that is parsed at a node, and a deck that has an old source and its path.
pub record NewGiven (bytes : Text) (spot : Spot) (new : Text) (path : List ℕ) (deck : Text) : Type 0 where
  pub new_short : length new ≤ 4096
  pub parsed : Parsed bytes spot.node sheet spot.base path new
  pub deck_room : 8192 ≤ length deck

-- The same, with an old text that is parsed at the node,
pub record Given (bytes : Text) (spot : Spot) (new : Text) (path : List ℕ) (p : Place) (deck : Text) : Type 0 where
  pub sheet_given : NewGiven bytes spot new path deck
  pub old_parsed : OldParsed bytes spot.node deck p

-- or without one,
pub record GivenOld (bytes : Text) (spot : Spot) (new : Text) (path : List ℕ) (old : Old) (deck : Text) : Type 0 where
  pub sheet_given : NewGiven bytes spot new path deck
  pub old_fits : OldFits bytes spot.node deck old

-- and for the join of two nodes.
pub record GivenJoin (bytes : Text) (left right base : ℕ) (new : Text) (path : List ℕ) (p : Place) (deck : Text) : Type 0 where
  pub new_short : length new ≤ 4096
  pub parsed : ParsedJoin bytes left right sheet base path new
  pub deck_room : 8192 ≤ length deck
  pub inside : p.start + p.len ≤ 4096
  pub old_parsed : ParsedJoin bytes left right source p.base (part_at (trail_of deck) p) (part_at deck p)

-- What a node's lens writes where no entry answers is written,
pub record PutsText (bytes : Text) (node : ℕ) (old : Option Text) (new before after : Text) (r : Wrote) : Type 0 where
  pub writes : (l : Lens) → tree_at (trees bytes) node ≡ lens l → Writes (plain l old new) before after r

-- or what the join of two does.
pub record PutsJoin (bytes : Text) (left right : ℕ) (old : Option Text) (new before after : Text) (r : Wrote) : Type 0 where
  pub writes :
      (l m : Lens)
      → tree_at (trees bytes) left ≡ lens l
      → tree_at (trees bytes) right ≡ lens m
      → Writes (plain (join l m) old new) before after r
