-- What listing asks and gives: the entries that a text of the old source has, put behind those in the book.
use Rattle.std.specs.Prelude.{Option, Some, None, ◌≡◌, refl, Bool, true, false, List, [], ◌++◌, map, ℕ, ◌+◌, ◌-◌, ◌≤◌, ◌<◌, eqb, length, take, drop, get_or}
use Rattle.std.proofs.Common.{sym, ap, subst, ◌∙◌, append-nil, append_assoc, arith, length-append, length-drop, length-take-le, take-take, drop-drop, take-add, get_or-set_same, get_or-set_other, eqb-true}
use Rattle.std.proofs.Math.Option.{some}
use Rattle.std.proofs.Math.Seq.{take-append_seam, drop-append_seam}
use Rattle.std.proofs.lemmas.Bool.{eqb-false}
use Rattle.semantics.specs.Text.{Text, joined}
use Rattle.semantics.specs.Lens.{Lens, match, source, parts, entries}
use Rattle.semantics.specs.Lens.{Book as Entries}
use Rattle.semantics.specs.Table.{Tree, pattern, lens, broken, Trees, trees, tree_at, lens_at}
use Rattle.positions.specs.declared.Set.{Set}
use Rattle.positions.specs.Positions.{Added}
use Rattle.automaton.specs.Built.{Built, tree_language}
use Rattle.lens.specs.Parsed.{Parsed, parsed_length}
use Rattle.books.specs.declared.Book.{Book}
use Rattle.books.specs.Listed.{unused, added, Entered, BookFits, InOrder, Sized, fits_added, in_order_added, in_order_more, sized_added, unused_match, unused_length}
use Rattle.books.specs.Looking.{place_at, part_at, EntriesParsed}

-- ---- The entries of a node's tree

-- the entries that the matches at and below a node read in a text; a pattern has none
unfoldable pub tree_entries : Tree → Text → Entries
tree_entries (pattern r) t = []
tree_entries (lens l) t = entries l t
tree_entries broken t = []

-- those of a repeat, from its child
unfoldable pub repeat_entries : Tree → Text → Entries
repeat_entries child t = joined (map (tree_entries child) (parts (tree_language source child) t))

-- of a node whose tree is a lens, those of the lens
pub entries_of : (ts : Trees) (k : ℕ) (t : Text) {l : Lens} → tree_at ts k ≡ lens l → tree_entries (tree_at ts k) t ≡ entries l t
unfolding tree_entries
entries_of ts k t e = rw e

-- ---- What is asked and given

-- The program is built, the text's place in the old source fits an entry, and the book is one of at most 256 entries.
pub record ToList (bytes : Text) (prepared : List ℕ) (text : Text) (at : ℕ) (book : Book) : Type 0 where
  pub built : Built bytes prepared
  pub place_small : at + length text ≤ 65535
  pub sized : Sized book
  pub few : book.count ≤ 256

-- The text stands at `at` in the old source.
pub record StandsIn (old text : Text) (at : ℕ) : Type 0 where
  pub inside : at + length text ≤ length old
  pub text_is : take (length text) (drop at old) ≡ text

-- Every entry of the book stands in the old source, and none is taken.
pub record Untaken (ts : Trees) (old : Text) (book : Book) : Type 0 where
  pub fits : BookFits (length old) book
  pub counted : length (unused ts old book) ≡ book.count

-- The entries of a text were put behind those in the book, whatever the old source in which the text stands at `at`. Each is parsed by the old source's path, if those that were in
-- the book are; and they stand in order and end by the end of the text, if those that were in the book do by its start.
pub record ListsInto (bytes : Text) (es : Entries) (text : Text) (path : Text) (at : ℕ) (before book : Book) : Type 0 where
  pub sized : Sized book
  pub few : book.count ≤ 256
  pub listed :
      (old : Text) → StandsIn old text at → Untaken (trees bytes) old before → unused (trees bytes) old book ≡ unused (trees bytes) old before ++ es
  pub untaken : (old : Text) → StandsIn old text at → Untaken (trees bytes) old before → Untaken (trees bytes) old book
  pub parsed :
      (old trail : Text)
      → StandsIn old text at
      → StandsIn trail path at
      → EntriesParsed bytes old trail before
      → EntriesParsed bytes old trail book
  pub ordered : InOrder at before → InOrder (at + length text) book

-- With the entries of a text there are more than 256.
pub record TooMany (bytes : Text) (es : Entries) (text : Text) (at : ℕ) (before : Book) : Type 0 where
  pub too_many : (old : Text) → StandsIn old text at → Untaken (trees bytes) old before → 256 < before.count + length es

-- The entries of a text were listed; where there is no book, there are too many.
pub record Lists (bytes : Text) (es : Entries) (text : Text) (path : Text) (at : ℕ) (before : Book) (r : Option Book) : Type 0 where
  pub listed_into : (book : Book) → r ≡ Some book → ListsInto bytes es text path at before book
  pub over : r ≡ None → TooMany bytes es text at before

-- The one entry of a match was listed, whatever the lens of its child and the path by which the text is parsed there.
pub record ListsMatch (child base : ℕ) (text : Text) (at : ℕ) (before : Book) (r : Option Book) : Type 0 where
  pub lists_match :
      (bytes path : Text) (l : Lens)
      → lens_at (trees bytes) child ≡ some l
      → Parsed bytes child source base path text
      → Lists bytes (entries (match child l) text) text path at before r

-- ---- Where the halves of a text stand

module _ {old : Text} (u v : Text) {at : ℕ} (stands : StandsIn old (u ++ v) at) where
  -- the whole, with the halves' lengths
  whole_is : take (length u + length v) (drop at old) ≡ u ++ v
  whole_is = rw length-append at stands.text_is

  -- the first half stands where the whole does, the second behind it
  pub stands_first : StandsIn old u at
  stands_first =
      record {
        inside = omega (arith, stands.inside, length-append u v);
        text_is =
            sym (take-take (length u) (length u + length v) (drop at old) (omega arith))
            ∙ ap (take (length u)) whole_is
            ∙ take-append_seam u v;
      }

  pub stands_second : StandsIn old v (at + length u)
  stands_second =
      let rest = take (length v) (drop (length u) (drop at old)) in
      let split : u ++ rest ≡ u ++ v =
      ap (λ t. t ++ rest) (sym stands_first.text_is) ∙ sym (take-add (length u) (length v) (drop at old)) ∙ whole_is in
      record {
        inside = omega (arith, stands.inside, length-append u v);
        text_is =
            ap (take (length v)) (sym (drop-drop (length u) at old))
            ∙ sym (drop-append_seam u rest)
            ∙ ap (drop (length u)) split
            ∙ drop-append_seam u v;
      }

-- ---- Listing, step by step

-- a part of the text, from o to e, is listed like the whole
pub to_list_part :
    {bytes : Text} {prepared : List ℕ} {text : Text} {at : ℕ} {b : Book}
    → ToList bytes prepared text at b
    → (o e at' : ℕ) {b' : Book}
    → o ≤ e
    → e ≤ length text
    → at' ≡ at + o
    → Sized b'
    → b'.count ≤ 256
    → ToList bytes prepared (take (e - o) (drop o text)) at' b'
to_list_part {text} whole o e at' ordered within place_is sized few =
    let size : length (take (e - o) (drop o text)) ≡ e - o = length-take-le (e - o) (drop o text) (rw length-drop (omega arith)) in
    record {
      built = whole.built;
      place_small = rw size (omega (arith, whole.place_small));
      sized = sized;
      few = few;
    }

-- the same entries
pub lists_as :
    {bytes : Text} {es fs : Entries} {text path : Text} {at : ℕ} {b : Book} {r : Option Book}
    → es ≡ fs
    → Lists bytes fs text path at b r
    → Lists bytes es text path at b r
lists_as e known = rw e known

-- they were, into a book
pub lists_some :
    {bytes : Text} {es : Entries} {text path : Text} {at : ℕ} {b book : Book}
    → ListsInto bytes es text path at b book
    → Lists bytes es text path at b (Some book)
lists_some {bytes} {es} {text} {path} {at} {b} known =
    record {
      listed_into = λ x e. subst (ListsInto bytes es text path at b) (cc e) known;
      over = λ e. absurd (let z : ◌≡◌ {A = ℕ} 0 1 = cc e in omega arith);
    }

-- What lists into a book and is not over is what lists into that book.
pub lists_settled :
    {bytes : Text} {es : Entries} {text path : Text} {at : ℕ} {b book : Book} {r : Option Book}
    → r ≡ Some book
    → Lists bytes es text path at b r
    → Lists bytes es text path at b (Some book)
lists_settled {book = book} e known = lists_some (known.listed_into book e)

-- or there are too many
pub lists_many :
    {bytes : Text} {es : Entries} {text path : Text} {at : ℕ} {b : Book}
    → TooMany bytes es text at b
    → Lists bytes es text path at b None
lists_many many = record { listed_into = λ x e. absurd (let z : ◌≡◌ {A = ℕ} 0 1 = cc e in omega arith); over = λ e. many }

-- no entries: the book is as it was
pub lists_none :
    (bytes text path : Text) (at : ℕ) (b : Book)
    → Sized b
    → b.count ≤ 256
    → ListsInto bytes [] text path at b b
lists_none bytes text path at b sized few =
    record {
      sized = sized;
      few = few;
      listed = λ old s u. sym (append-nil (unused (trees bytes) old b));
      untaken = λ old s u. u;
      parsed = λ old trail s p before. before;
      ordered = in_order_more (at + length text) (omega arith);
    }

-- ---- A match's entry

-- an entry that is parsed at its child stands beside those that are
parsed_added :
    {bytes old trail : Text} {b : Book} (start size base child : ℕ) (left : Set)
    → Sized b
    → b.count < 256
    → EntriesParsed bytes old trail b
    → Parsed bytes child source base (take size (drop start trail)) (take size (drop start old))
    → EntriesParsed bytes old trail (added b start size base child left)
parsed_added {bytes} {old} {trail} {b} start size base child left sized room before here =
    record { each = λ i h. go i h (eqb i b.count) refl }
  where
    more : Book
    more = added b start size base child left

    go :
        (i : ℕ)
        → i < b.count + 1
        → (new : Bool)
        → eqb i b.count ≡ new
        → Parsed bytes (get_or more.children i 0) source (get_or more.bases i 0) (part_at trail (place_at more i)) (part_at old (place_at more i))
    go i h true e =
        rw
        (eqb-true i b.count e, get_or-set_same b.starts b.count start 0 (omega arith), get_or-set_same b.lengths b.count size 0 (omega arith), get_or-set_same b.bases b.count base 0 (omega arith), get_or-set_same b.children b.count child 0 (omega arith))
        here
    go i h false e =
        let other = eqb-false i b.count e in
        rw
        (get_or-set_other b.starts b.count i start 0 other, get_or-set_other b.lengths b.count i size 0 other, get_or-set_other b.bases b.count i base 0 other, get_or-set_other b.children b.count i child 0 other)
        (before.each i (omega arith))

-- where there is room for it
lists_with :
    (text : Text) (at : ℕ) (b : Book) (base child : ℕ) (left : Set)
    → Sized b
    → b.count < 256
    → Added b.left child left
    → ListsMatch child base text at b (Some (added b at (length text) base child left))
lists_with text at b base child left sized room now-left =
    record {
      lists_match = λ bytes path l lens-is parsed.
          lists_some (record {
            sized = sized_added b at (length text) base child left sized;
            few = omega arith;
            listed = λ old s u.
                unused_match (trees bytes) old b at (length text) base child left sized room l lens-is
                ∙ ap (λ t. unused (trees bytes) old b ++ entries (match child l) t) s.text_is;
            untaken = λ old s u.
                record {
                  fits = fits_added (length old) b at (length text) base child left sized u.fits room s.inside now-left;
                  counted = unused_length (trees bytes) old b at (length text) base child left sized room u.counted;
                };
            parsed = λ old trail s p before.
                parsed_added at (length text) base child left sized room before (rw (s.text_is, ← (parsed_length parsed), p.text_is) parsed);
            ordered = λ before.
                in_order_added (at + length text) b at (length text) base child left sized before room (omega arith) (omega arith);
          });
    }

-- so it is with the book that it was entered into
pub lists_added :
    (text : Text) (at : ℕ) (b : Book) (base child : ℕ) {size : ℕ} {r : Book}
    → Sized b
    → b.count < 256
    → size ≡ length text
    → Entered b at size base child r
    → ListsMatch child base text at b (Some r)
lists_added text at b base child {size} {r} sized room size_is entered =
    let book_is : r ≡ added b at (length text) base child r.left = rw size_is at entered.book_is in
    subst
    (λ x. ListsMatch child base text at b (Some x))
    (sym book_is)
    (lists_with text at b base child r.left sized room entered.left_is)

-- and where there is none
pub lists_full :
    (text : Text) (at : ℕ) (b : Book) (base child : ℕ)
    → 256 ≤ b.count
    → ListsMatch child base text at b None
unfolding entries
lists_full text at b base child full =
    record { lists_match = λ bytes path l lens-is parsed. lists_many (record { too_many = λ old s u. omega arith }) }

-- ---- Two halves

module _
    {bytes : Text}
    {es : Entries}
    {u p : Text}
    {at : ℕ}
    {b : Book}
    (fs : Entries)
    (v q : Text)
  where
    -- the entries of two halves, where those of the first were listed
    pub lists_next :
        {more : Book} {r : Option Book}
        → length p ≡ length u
        → ListsInto bytes es u p at b more
        → Lists bytes fs v q (at + length u) more r
        → Lists bytes (es ++ fs) (u ++ v) (p ++ q) at b r
    lists_next {more} as_long first second =
        record {
          listed_into = λ book is.
              let later = second.listed_into book is in
              record {
                sized = later.sized;
                few = later.few;
                listed = λ old s known.
                    later.listed old (stands_second u v s) (first.untaken old (stands_first u v s) known)
                    ∙ ap (λ x. x ++ fs) (first.listed old (stands_first u v s) known)
                    ∙ append_assoc (unused (trees bytes) old b) es fs;
                untaken = λ old s known. later.untaken old (stands_second u v s) (first.untaken old (stands_first u v s) known);
                parsed = λ old trail s on before.
                    later.parsed old trail (stands_second u v s) (rw as_long at (stands_second p q on)) (first.parsed old trail (stands_first u v s) (stands_first p q on) before);
                ordered = λ before. in_order_more (at + length (u ++ v)) (omega (arith, length-append u v)) (later.ordered (first.ordered before));
              };
          over = λ is.
              record {
                too_many = λ old s known.
                    let ts = trees bytes in
                    let taken = first.untaken old (stands_first u v s) known in
                    let so_far = taken.counted in
                    let count_is : length (unused ts old more) ≡ length (unused ts old b) + length es =
                    rw (first.listed old (stands_first u v s) known) (length-append (unused ts old b) es) in
                    rw length-append (omega (arith, count_is, so_far, (second.over is).too_many old (stands_second u v s) taken, known.counted));
              };
        }

-- and where the first has too many
pub lists_over :
    {bytes : Text} {es : Entries} {u : Text} {at : ℕ} {b : Book} (fs : Entries) (v : Text)
    → TooMany bytes es u at b
    → TooMany bytes (es ++ fs) (u ++ v) at b
lists_over {u = u} fs v over =
    record { too_many = λ old s known. rw length-append (omega (arith, over.too_many old (stands_first u v s) known)) }
