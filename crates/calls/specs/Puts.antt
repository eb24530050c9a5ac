-- What a put makes of an accepted program.
use Rattle.std.specs.Prelude.{◌≡◌, true, false, ℕ, ltb, length, Option, Some, None, Ok}
use Rattle.semantics.specs.Text.{Text}
use Rattle.semantics.specs.Lens.{Lens, entries, put}
use Rattle.semantics.specs.Calls.{gives, refuse_if, program, max_entries, output}
use Rattle.semantics.specs.Tally.{tally}
use Rattle.semantics.specs.Tally.{Tally as Counts}
use Rattle.answers.specs.declared.Tally.{Tally}
use Rattle.answers.specs.declared.Reply.{Reply}
use Rattle.answers.specs.Outcomes.{GivesText}
use Rattle.books.specs.declared.Book.{Book}
use Rattle.dealing.specs.Books.{BookReady}

-- The book has the entries of the old source; where there is none, they are more than 256.
pub record ListsSource (bytes old trail : Text) (r : Option Book) : Type 0 where
  pub over : r ≡ None → (l : Lens) → program bytes ≡ gives l → ltb max_entries (length (entries l old)) ≡ true
  pub within : (book : Book) → r ≡ Some book → (l : Lens) → program bytes ≡ gives l → ltb max_entries (length (entries l old)) ≡ false
  pub book_ready : (book : Book) → r ≡ Some book → BookReady bytes old trail book

-- the three counts are the same
abbrev pub SameCounts : Tally → Counts → Type 0
SameCounts r n = (r.kept ≡ n.kept) × (r.made ≡ n.made) × (r.dropped ≡ n.dropped)

-- What the root puts is given, or refused for the number of the old source's entries or for its length; a result has the tally of the definitions.
pub record PutsInto (bytes new old before after : Text) (reply : Reply) : Type 0 where
  pub puts :
      (l : Lens)
      → program bytes ≡ gives l
      → GivesText (refuse_if (ltb max_entries (length (entries l old))) 15 (output (length before) (put l new old))) before after reply.answer
  pub tallies : (l : Lens) → program bytes ≡ gives l → (n : ℕ) → reply.answer ≡ Ok n → SameCounts reply.tally (tally l new old)
