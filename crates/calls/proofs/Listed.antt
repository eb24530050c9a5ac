-- The entries of the old source, in the book that a put begins with.
use mathlib.Core.Path.{◌≡◌, refl, ◌∙◌}
use mathlib.Core.Bool.{true, false}
use mathlib.Core.List.{List}
use Prim.Native.Nat.{ℕ, ◌-◌, ◌≤◌}
use native.Mathlib.Omega.{arith}
use lib.Dec.{ltb}
use lib.ListN.{length}
use lib.Seq.{take-length}
use borrow.Author.Tests.{lt-ltb, le-ltb}
use Rattle.semantics.specs.Text.{Text}
use Rattle.semantics.specs.Lens.{Lens, source, entries}
use Rattle.semantics.specs.Table.{node_count, tree_at, trees}
use Rattle.semantics.specs.Calls.{gives, program, max_text, max_entries}
use Rattle.books.specs.declared.Book.{Book}
use Rattle.books.specs.Listed.{Sized, unused, unused_none, fits_none, in_order_none, in_order_more}
use Rattle.books.specs.Looking.{EntriesParsed}
use Rattle.std.specs.Prelude.{Option, Some, None}
use Rattle.listing.specs.Listing.{tree_entries, entries_of, ToList, StandsIn, Untaken, Lists}
use Rattle.answers.specs.Answers.{Ready}
use Rattle.answers.specs.Results.{TextReady}
use Rattle.answers.proofs.Giving.{root_at}
use Rattle.dealing.specs.Books.{BookReady}
use Rattle.calls.specs.Puts.{ListsSource}

-- ---- The empty book

module _ {b : Book} (empty : (b.count ≡ 0) × Sized b) where
  -- none of its entries is taken
  untaken_none : (bytes old : Text) → Untaken (trees bytes) old b
  untaken_none bytes old =
      record { fits = fits_none (length old) b empty.0; counted = rw (unused_none (trees bytes) old b empty.0, empty.0) refl }

  -- and each is parsed
  parsed_none : (bytes old trail : Text) → EntriesParsed bytes old trail b
  parsed_none bytes old trail = record { each = λ i h. absurd (omega (arith, empty.0)) }

  -- a source is listed into it
  pub to_list : {bytes old : Text} {prepared : List ℕ} → Ready bytes prepared → length old ≤ max_text → ToList bytes prepared old 0 b
  to_list ready short = record { built = ready.built; place_small = omega arith; sized = empty.1; few = omega (arith, empty.0) }

-- a text stands in itself
stands_whole : (t : Text) → StandsIn t t 0
stands_whole t = record { inside = omega arith; text_is = take-length t }

-- ---- The root

module _ {bytes : Text} {prepared : List ℕ} (ready : Ready bytes prepared) {root : ℕ} (root_is : root ≡ node_count bytes - 1) where
  -- what was listed into an empty book are the source's entries
  pub lists_root :
      {old trail : Text} {b : Book} {r : Option Book}
      → TextReady bytes source old trail
      → (b.count ≡ 0) × Sized b
      → Lists bytes (tree_entries (tree_at (trees bytes) root) old) old trail 0 b r
      → ListsSource bytes old trail r
  lists_root {old} {trail} {b} {r} known empty lists = record { over = over; within = within; book_ready = ready_book }
    where
      whole : StandsIn old old 0
      whole = stands_whole old

      none : Untaken (trees bytes) old b
      none = untaken_none empty bytes old

      these : (l : Lens) → program bytes ≡ gives l → tree_entries (tree_at (trees bytes) root) old ≡ entries l old
      these l e = entries_of (trees bytes) root old (root_at ready root_is l e)

      listed : (book : Book) → r ≡ Some book → (l : Lens) → program bytes ≡ gives l → unused (trees bytes) old book ≡ entries l old
      listed book is l e = rw (unused_none (trees bytes) old b empty.0) at ((lists.listed_into book is).listed old whole none) ∙ these l e

      over : r ≡ None → (l : Lens) → program bytes ≡ gives l → ltb max_entries (length (entries l old)) ≡ true
      over is l e =
          let many = (lists.over is).too_many old whole none in
          lt-ltb max_entries (length (entries l old)) (rw (← these l e) (omega (arith, many, empty.0)))

      within : (book : Book) → r ≡ Some book → (l : Lens) → program bytes ≡ gives l → ltb max_entries (length (entries l old)) ≡ false
      within book is l e =
          let into = lists.listed_into book is in
          let count = (into.untaken old whole none).counted in
          le-ltb max_entries (length (entries l old)) (rw (← listed book is l e) (omega (arith, count, into.few)))

      ready_book : (book : Book) → r ≡ Some book → BookReady bytes old trail book
      ready_book book is =
          let into = lists.listed_into book is in
          record {
            over = record { sized = into.sized; fits = (into.untaken old whole none).fits };
            in_order = in_order_more (length old) (omega arith) (into.ordered (in_order_none 0 b empty.0));
            entries_parsed = into.parsed old trail whole (stands_whole trail) (parsed_none empty bytes old trail);
            old_ready = known;
            listed = listed book is;
            counted = (into.untaken old whole none).counted;
          }
