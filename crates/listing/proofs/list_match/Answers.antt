-- `listing::list_match` meets its contract. Assumes nothing.
use mathlib.Core.Path.{refl}
use Rattle.listing.specs.Listing.{lists_added, lists_full}
use Rattle.listing.proofs.list_match.Goals as goal

pub returns-else-book-lt-ENTRIES : goal.returns-else-book-lt-ENTRIES
returns-else-book-lt-ENTRIES c = lists_full _ _ _ _ _ c.if-book-lt-ENTRIES.false

pub returns-then-book-lt-ENTRIES : goal.returns-then-book-lt-ENTRIES
returns-then-book-lt-ENTRIES c = lists_added _ _ _ _ _ c.requires.sized.0 c.if-book-lt-ENTRIES.true refl c.added.ensures
