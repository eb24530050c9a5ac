-- What the nodes below a node are given, of what it was given, with the book.
use Rattle.std.proofs.Common.{◌≡◌, ℕ, ◌+◌, ◌-◌, ◌*◌, ◌<◌, ◌≤◌, List, length, take, arith}
use mathlib.Core.Option.{Option}
use native.Mathlib.Nat.{sub-zero}
use Rattle.semantics.specs.Text.{Text}
use Rattle.semantics.specs.Lens.{Lens, key_of}
use Rattle.lens.specs.Emitting.{LensNode}
use Rattle.lens.specs.Nodes.{sizes_are, lens_below}
use Rattle.books.specs.declared.Book.{Book}
use Rattle.books.specs.declared.Lookup.{Lookup}
use Rattle.books.specs.Cards.{card_of, print_byte, key_short}
use Rattle.books.specs.Looking.{BookOver, SameEntries, CardsFit, OldFits, LookedUp, cards_fit_same}
use Rattle.cards.specs.declared.Card.{Card}
use Rattle.cards.specs.Sealed.{KeyCard}
use Rattle.steps.specs.declared.Spot.{Spot}
use Rattle.steps.specs.Steps.{ArmIs}
use Rattle.bookless.specs.Bookless.{NewGiven, GivenOld}
use Rattle.matches.specs.WithBook.{LooksIn, Ready, EntryFound}

-- the same deck, and the book that is left
pub looks_left : {bytes deck : Text} {b b' : Book} → LooksIn bytes deck b → BookOver 4096 b' → SameEntries b b' → LooksIn bytes deck b'
looks_left {bytes} {deck} looks over same =
    record {
      over = over;
      cards_fit = cards_fit_same same looks.cards_fit;
      entries_parsed = λ i h.
          rw
          (same.starts_same, same.lengths_same, same.bases_same, same.children_same)
          (looks.entries_parsed i (omega (arith, h, same.count_same)));
      deck_room = looks.deck_room;
    }

-- the entry that a lookup found is parsed at the child
pub found_fits : {bytes deck key : Text} {child : ℕ} {b : Book} {r : Lookup} → LooksIn bytes deck b → LookedUp bytes deck child key b r → OldFits bytes child deck r.old
found_fits {bytes} {deck} {child = child} looks looked =
    record {
      fits = λ p e.
          let (i, h, child-is, place_is) = looked.from_book p e in
          rw (place_is, ← child-is) (looks.entries_parsed i h);
    }

-- a lookup at a node may be made,
pub may_take : {bytes deck : Text} {prepared : List ℕ} {child : ℕ} {b : Book} → LensNode bytes prepared child → LooksIn bytes deck b → (BookOver 4096 b × (child < 128)) × (9216 ≤ length deck)
may_take known looks = ((looks.over, omega (arith, known.inside, (sizes_are known.built.sized).few_nodes)), looks.deck_room)

-- and by the card of a sheet text's key it finds the entry
pub entry_found :
    {bytes deck new card : Text} {child : ℕ} {b : Book} {made : Card} {r : Lookup}
    → length new ≤ 4096
    → LooksIn bytes deck b
    → KeyCard bytes child new card made
    → ((bytes key : Text) → take (made.len - 0) card ≡ card_of key → made.print ≡ print_byte key → length key ≤ 4096 → CardsFit bytes deck b → LookedUp bytes deck child key b r)
    → EntryFound bytes child deck new b r
entry_found {new = new} short looks made finds =
    record {
      found = λ l e.
          finds
          _
          (key_of l new)
          (rw sub-zero (made.card_is l e))
          (made.print_is l e)
          (omega (arith, short, key_short l new))
          looks.cards_fit;
    }

module _ {bytes : Text} {prepared : List ℕ} {node : ℕ} {deck : Text} {below : List ℕ} {b : Book} (ready : Ready bytes prepared node deck below b) where
  -- a node below, and the same book
  pub ready_below : {child : ℕ} → LensNode bytes prepared child → Ready bytes prepared child deck below b
  ready_below known = record { lens_node = known; looks_in = ready.looks_in; below_is = ready.below_is }

  -- and the book that is left
  pub ready_left : {child : ℕ} {b' : Book} → LensNode bytes prepared child → BookOver 4096 b' → SameEntries b b' → Ready bytes prepared child deck below b'
  ready_left known over same = record { lens_node = known; looks_in = looks_left ready.looks_in over same; below_is = ready.below_is }

  -- the numbers of a node below it are there
  pub below_room : 4 * node + 4 ≤ length below
  below_room = omega (arith, ready.lens_node.inside, ready.below_is.room)

-- the child of a match has the entry that its key finds, and the book without it
module _
    {bytes : Text}
    {prepared : List ℕ}
    {child : ℕ}
    {deck : Text}
    {below : List ℕ}
    {b : Book}
    {new : Text}
    {r : Lookup}
    (ready : Ready bytes prepared child deck below b)
    (entry : EntryFound bytes child deck new b r) where
  pub found_ready : Ready bytes prepared child deck below r.book
  found_ready =
      let looked = entry.found ready.lens_node.tree ready.lens_node.tree_is in
      ready_left ready ready.lens_node looked.over looked.same_entries

  pub found_given : {base : ℕ} {path : Text} → NewGiven bytes (record { node = child; base = base }) new path deck → GivenOld bytes (record { node = child; base = base }) new path r.old deck
  found_given given =
      let looked = entry.found ready.lens_node.tree ready.lens_node.tree_is in
      record { sheet_given = given; old_fits = found_fits ready.looks_in looked }

-- the arm of a union is a node below it
pub arm_ready :
    {bytes : Text} {prepared : List ℕ} {node : ℕ} {l m : Lens} {old kept : Option Text} {new path deck : Text} {below : List ℕ} {r : Spot} {b : Book}
    → ArmIs bytes node l m old kept new path r
    → Ready bytes prepared node deck below b
    → Ready bytes prepared r.node deck below b
arm_ready arm ready = ready_below ready (lens_below ready.lens_node arm.arm arm.lower arm.arm_is)
