-- The book that a put begins with.
use Rattle.std.specs.Prelude.{◌≡◌, length}
use Rattle.semantics.specs.Text.{Text}
use Rattle.semantics.specs.Lens.{Lens, source, entries}
use Rattle.semantics.specs.Table.{trees}
use Rattle.semantics.specs.Calls.{gives, program}
use Rattle.answers.specs.Results.{TextReady}
use Rattle.books.specs.declared.Book.{Book}
use Rattle.books.specs.Listed.{unused, InOrder}
use Rattle.books.specs.Looking.{BookOver, EntriesParsed}

-- The book of an old source with its path: the entries of the root, in order, each parsed at its child.
pub record BookReady (bytes old trail : Text) (b : Book) : Type 0 where
  pub over : BookOver (length old) b
  pub in_order : InOrder (length old) b
  pub entries_parsed : EntriesParsed bytes old trail b
  pub old_ready : TextReady bytes source old trail
  pub listed : (l : Lens) → program bytes ≡ gives l → unused (trees bytes) old b ≡ entries l old
  pub counted : length (unused (trees bytes) old b) ≡ b.count
