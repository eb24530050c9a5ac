-- What put and create are given with the book, what a match owes, and what a lookup finds.
use Rattle.std.specs.Prelude.{◌≡◌, ℕ, ◌<◌, ◌≤◌, List, length, slice_index}
use Rattle.std.proofs.Math.Option.{Option}
use Rattle.semantics.specs.Text.{Text}
use Rattle.semantics.specs.Lens.{Lens, match, key_of}
use Rattle.semantics.specs.Table.{trees, tree_at, lens}
use Rattle.lens.specs.Emitting.{LensNode}
use Rattle.books.specs.declared.Book.{Book}
use Rattle.books.specs.declared.Lookup.{Lookup}
use Rattle.books.specs.Looking.{BookOver, CardsFit, place_at, OldParsed, LookedUp}
use Rattle.below.specs.Below.{BelowIs}
use Rattle.plains.specs.declared.Done.{Done}
use Rattle.plains.specs.Writing.{LensBehind, WritesBehind}

-- ---- What a writer is given

-- A book over a deck: the cards of its entries, and their texts, each parsed at its child.
pub record LooksIn (bytes deck : Text) (b : Book) : Type 0 where
  pub over : BookOver 4096 b
  pub cards_fit : CardsFit bytes deck b
  pub entries_parsed : (i : ℕ) → i < b.count → OldParsed bytes (slice_index b.children i) deck (place_at b i)
  pub deck_room : 9216 ≤ length deck

-- A node that is a lens, a book over a deck, and what stands below each node.
pub record Ready (bytes prepared : List ℕ) (node : ℕ) (deck : Text) (below : List ℕ) (b : Book) : Type 0 where
  pub lens_node : LensNode bytes prepared node
  pub looks_in : LooksIn bytes deck b
  pub below_is : BelowIs bytes below

-- ---- What a match owes

-- It does not look at the old text at its own place,
pub record WritesMatch (bytes : Text) (child : ℕ) (deck new : Text) (done : Done) (mid after : Text) (r : Done) : Type 0 where
  pub writes : (l : Lens) → tree_at (trees bytes) child ≡ lens l → (old : Option Text) → LensBehind bytes deck (match child l) old new done mid after r

-- and a repeat of a match, which does not either.
pub record WritesMatches (bytes : Text) (node : ℕ) (deck new : Text) (done : Done) (mid after : Text) (r : Done) : Type 0 where
  pub writes : (old : Option Text) → WritesBehind bytes node deck old new done mid after r

-- ---- Lookups

-- The entry that the key of a sheet text finds in the book.
pub record EntryFound (bytes : Text) (child : ℕ) (deck new : Text) (b : Book) (r : Lookup) : Type 0 where
  pub found : (l : Lens) → tree_at (trees bytes) child ≡ lens l → LookedUp bytes deck child (key_of l new) b r
