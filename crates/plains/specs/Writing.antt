-- What put and create owe, in terms of the definitions' `write`, and what they are given where they have no book.
use Rattle.std.specs.Prelude.{◌≡◌, false, List, ℕ, ◌+◌, ◌*◌, ◌%◌, ◌^◌, length}
use Rattle.std.proofs.Math.Option.{Option}
use Rattle.semantics.specs.Text.{Text}
use Rattle.semantics.specs.Lens.{Lens, Written, and_then, write}
use Rattle.semantics.specs.Table.{trees, tree_at, lens, holds_match}
use Rattle.semantics.specs.Tally.{met}
use Rattle.positions.specs.Positions.{Shared}
use Rattle.automaton.specs.Rows.{set_at}
use Rattle.std.specs.Prelude.{None}
use Rattle.texts.specs.Overlay.{Writes}
use Rattle.lens.specs.Emitting.{LensNode}
use Rattle.books.specs.declared.Book.{Book}
use Rattle.books.specs.Listed.{unused}
use Rattle.books.specs.Looking.{BookOver, SameEntries}
use Rattle.below.specs.Below.{BelowIs}
use Rattle.counted.specs.declared.Plain.{Plain}
use Rattle.counted.specs.Counted.{Fitted}
use Rattle.plains.specs.declared.Done.{Done}

-- ---- What a writer is given

-- No match at or below the node has a child of which an entry may be left.
pub record AsksNone (below : List ℕ) (node : ℕ) (b : Book) : Type 0 where
  pub none_shared : ¬ Shared (set_at below (4 * node)) b.left

-- No match stands there or below.
pub record NoMatch (bytes : Text) (node : ℕ) : Type 0 where
  pub holds_none : (l : Lens) → tree_at (trees bytes) node ≡ lens l → holds_match l ≡ false

-- What was written lies within the buffer.
abbrev pub WithinBuffer : Done → Text → Type 0
WithinBuffer done out = Fitted done.wrote out

-- ---- What a writer owes

-- matches are counted modulo 2^64
unfoldable pub wrapped : ℕ → ℕ
wrapped n = n % 2 ^ 64

-- What was written so far, from the book b on, is the text of the definitions, and k matches were met; unless the buffer was too short, the book that is left is theirs.
pub record Progress (bytes deck : Text) (w : Written) (k : ℕ) (b : Book) (before after : Text) (r : Done) : Type 0 where
  pub bytes_are : Writes w.text before after r.wrote
  pub met_is : wrapped r.met ≡ wrapped k
  pub book_is : ¬ (r.wrote ≡ None) → unused (trees bytes) deck r.book ≡ w.book
  pub over : BookOver 4096 r.book
  pub same_entries : SameEntries b r.book

-- What a lens writes behind whatever was written before,
pub record LensBehind (bytes deck : Text) (l : Lens) (old : Option Text) (new : Text) (done : Done) (mid after : Text) (r : Done) : Type 0 where
  pub progress :
      (w : Written) (k : ℕ) (b : Book) (before : Text)
      → Progress bytes deck w k b before mid done
      → Progress bytes deck (and_then w (write l old new)) (k + length (met l old new)) b before after r

-- and that of a node.
pub record WritesBehind (bytes : Text) (node : ℕ) (deck : Text) (old : Option Text) (new : Text) (done : Done) (mid after : Text) (r : Done) : Type 0 where
  pub writes : (l : Lens) → tree_at (trees bytes) node ≡ lens l → LensBehind bytes deck l old new done mid after r

-- ---- Without the book

-- A node that is a lens, and what stands below each node.
pub record PlainReady (bytes : Text) (prepared : List ℕ) (node : ℕ) (below : List ℕ) : Type 0 where
  pub lens_node : LensNode bytes prepared node
  pub below_is : BelowIs bytes below

-- with a book
abbrev pub done_with : Plain → Book → Done
done_with plain b = record { wrote = plain.wrote; book = b; met = plain.met }

-- What a node writes with whatever book it asks nothing of, which stays as it is.
pub record WritesPlainly (bytes : Text) (node : ℕ) (deck : Text) (below : List ℕ) (old : Option Text) (new : Text) (plain : Plain) (mid after : Text) (r : Plain) : Type 0 where
  pub writes : (b : Book) → BookOver 4096 b → AsksNone below node b → WritesBehind bytes node deck old new (done_with plain b) mid after (done_with r b)
