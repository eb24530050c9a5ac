-- What the deck and a lookup in the book are given, what they owe, and what a lookup leaves as it was.
use Rattle.std.specs.Prelude.{◌≡◌, refl, Bool, true, false, not, ◌&&◌, List, [], ◌∷◌, ℕ, zero, suc, ◌+◌, ◌*◌, ◌≤◌, ◌<◌, eqb, length, take, drop, get_or}
use Rattle.std.proofs.Math.Path.{sym}
use Rattle.std.proofs.Common.{ap, ◌∙◌, arith, take-take}
use Rattle.std.proofs.Math.Option.{Option, none, some}
use Rattle.std.proofs.Math.Seq.{take-length}
use Rattle.semantics.specs.Text.{Text}
use Rattle.semantics.specs.Lens.{source, take_entry}
use Rattle.semantics.specs.Table.{Trees, trees}
use Rattle.lens.specs.Parsed.{Parsed}
use Rattle.positions.specs.declared.Set.{Set}
use Rattle.books.specs.declared.Book.{Book}
use Rattle.books.specs.declared.Place.{Place}
use Rattle.books.specs.Old.{Old, EntryIndex}
use Rattle.std.specs.Prelude.{Some, None}
use Rattle.books.specs.declared.Lookup.{Lookup}
use Rattle.books.specs.Cards.{begins, Tells}
use Rattle.books.specs.Listed.{text_at, entry_at, unused, marked, leaving, BookFits, Sized, unused_same}

-- A book whose entries stand in a text of at most that length.
pub record BookOver (room : ℕ) (b : Book) : Type 0 where
  pub sized : Sized b
  pub fits : BookFits room b

-- The entries of two books stand at the same places, whichever of them are taken.
pub record SameEntries (b b' : Book) : Type 0 where
  pub starts_same : b'.starts ≡ b.starts
  pub lengths_same : b'.lengths ≡ b.lengths
  pub bases_same : b'.bases ≡ b.bases
  pub children_same : b'.children ≡ b.children
  pub count_same : b'.count ≡ b.count

-- ---- Where old texts stand, and how they are parsed

-- where entry i stands
abbrev pub place_at : Book → ℕ → Place
place_at b i = record { start = get_or b.starts i 0; len = get_or b.lengths i 0; base = get_or b.bases i 0 }

-- what stands at a place of a list
abbrev pub part_at : List ℕ → Place → List ℕ
part_at xs p = take p.len (drop p.start xs)

-- Every entry of the book, taken or not, is a source of its child node, and the path of the old source is its own from its base on.
pub record EntriesParsed (bytes old trail : Text) (b : Book) : Type 0 where
  pub each :
      (i : ℕ)
      → i < b.count
      → Parsed bytes (get_or b.children i 0) source (get_or b.bases i 0) (part_at trail (place_at b i)) (part_at old (place_at b i))

-- ---- The deck: the old source in the first 4,096 bytes, its path in the next 4,096, a byte of 256 fingerprints, 256 places in three bytes, and the cards

-- the path that the deck holds
abbrev pub trail_of : Text → Text
trail_of deck = drop 4096 deck

-- The old text at a place of the deck is parsed at the node by the path that the deck holds.
pub record OldParsed (bytes : Text) (node : ℕ) (deck : Text) (p : Place) : Type 0 where
  pub inside : p.start + p.len ≤ 4096
  pub parsed : Parsed bytes node source p.base (part_at (trail_of deck) p) (part_at deck p)

-- the old text, where there is one
unfoldable pub old_text : Text → Old → Option Text
old_text deck (Some p) = some (part_at deck p)
old_text deck None = none

-- If there is an old text, it is parsed at the node.
pub record OldFits (bytes : Text) (node : ℕ) (deck : Text) (old : Old) : Type 0 where
  pub fits : (p : Place) → old ≡ Some p → OldParsed bytes node deck p

-- where the card of entry i stands
abbrev pub card_place : Text → ℕ → ℕ
card_place deck i = get_or deck (8448 + 3 * i) 0 * 65536 + get_or deck (8448 + 3 * i + 1) 0 * 256 + get_or deck (8448 + 3 * i + 2) 0

-- The card of each entry, taken or not, tells its key.
pub record CardsFit (bytes deck : Text) (b : Book) : Type 0 where
  pub inside : (i : ℕ) → i < b.count → card_place deck i ≤ length deck
  pub each : (i : ℕ) → i < b.count → Tells (entry_at (trees bytes) deck b i).key_text (drop (card_place deck i) deck) (get_or deck (8192 + i) 0)

-- The deck has the old source and its path, and its entries' cards.
pub record Dealt (bytes old trail : Text) (b : Book) (deck : Text) : Type 0 where
  pub source_is : take (length old) deck ≡ old
  pub trail_is : take (length trail) (trail_of deck) ≡ trail
  pub cards_fit : CardsFit bytes deck b

-- ---- Lookups

-- Whether entry i has that card.
pub record HasCard (deck : Text) (i : ℕ) (card : Text) (r : Bool) : Type 0 where
  pub has : card_place deck i ≤ length deck → r ≡ begins card (drop (card_place deck i) deck)

-- Whether entry i, taken or not and of its own child, is unused, of that child, and has that card.
pub record Answers (used : Bool) (own child : ℕ) (deck : Text) (i : ℕ) (card : Text) (r : Bool) : Type 0 where
  pub tells : card_place deck i ≤ length deck → r ≡ ((not used && eqb own child) && begins card (drop (card_place deck i) deck))

-- the same of entry i of a book
abbrev pub answering : List Bool → List ℕ → ℕ → Text → Text → ℕ → Bool
answering used children child card deck i =
    (not (get_or used i false) && eqb (get_or children i 0) child) && begins card (drop (card_place deck i) deck)

-- No entry before i answers, of those with that byte.
pub record NoneAnswers (used : List Bool) (children : List ℕ) (child print : ℕ) (card deck : Text) (i : ℕ) : Type 0 where
  pub none_answers :
      (j : ℕ)
      → j < i
      → card_place deck j ≤ length deck
      → get_or deck (8192 + j) 0 ≡ print
      → answering used children child card deck j ≡ false

-- It is the first entry that answers, of those with that byte; where there is none, none answers.
pub record Found (used : List Bool) (children : List ℕ) (count child print : ℕ) (card deck : Text) (r : EntryIndex) : Type 0 where
  pub within : (i : ℕ) → r ≡ Some i → i < count
  pub passed : (i : ℕ) → r ≡ Some i → NoneAnswers used children child print card deck i
  pub found : (i : ℕ) → r ≡ Some i → card_place deck i ≤ length deck → answering used children child card deck i ≡ true
  pub none_found : r ≡ None → NoneAnswers used children child print card deck count

-- No unused entry before i is of that child.
pub record NoneWaits (used : List Bool) (children : List ℕ) (child i : ℕ) : Type 0 where
  pub none_waits : (j : ℕ) → j < i → get_or used j false ≡ false → ¬ (get_or children j 0 ≡ child)

-- It tells that no entry of that child is unused.
pub record NoneLeft (used : List Bool) (children : List ℕ) (count child : ℕ) (r : Bool) : Type 0 where
  pub none_left : r ≡ true → NoneWaits used children child count

-- What a lookup owes: the first unused entry of that child and key, and the book without it.
pub record LookedUp (bytes deck : Text) (child : ℕ) (key : Text) (before : Book) (r : Lookup) : Type 0 where
  pub looked_up :
      take_entry child key (unused (trees bytes) deck before)
      ≡ record { found = old_text deck r.old; left = unused (trees bytes) deck r.book }
  pub from_book : (p : Place) → r.old ≡ Some p → (i : ℕ) × (i < before.count) × (get_or before.children i 0 ≡ child) × (p ≡ place_at before i)
  pub over : BookOver 4096 r.book
  pub same_entries : SameEntries before r.book

-- ---- Entries in the deck are those of the old source

-- a book over a text is one over a longer text
pub over_more : {m n : ℕ} {b : Book} → m ≤ n → BookOver m b → BookOver n b
over_more h over =
    record {
      sized = over.sized;
      fits = record {
        few = over.fits.few;
        inside = λ i k. omega (arith, over.fits.inside i k);
        still_left = over.fits.still_left;
      };
    }

-- what stands within the front of a text
within_front : (s l n : ℕ) (t : Text) → s + l ≤ n → take l (drop s (take n t)) ≡ take l (drop s t)
within_front zero l n t h = take-take l n t (omega arith)
within_front (suc s) l zero t h = absurd (omega arith)
within_front (suc s) l (suc n) [] h = refl
within_front (suc s) l (suc n) (x ∷ t) h = within_front s l n t (omega arith)

-- stands in every text with that front
pub same_within : (n : ℕ) (t u : Text) → take n t ≡ take n u → (s l : ℕ) → s + l ≤ n → take l (drop s t) ≡ take l (drop s u)
same_within n t u same s l h = sym (within_front s l n t h) ∙ ap (λ (v : Text). take l (drop s v)) same ∙ within_front s l n u h

module _ (ts : Trees) (source deck : Text) {b : Book} (over : BookOver (length source) b) (source_is : take (length source) deck ≡ source) where
  pub entry_dealt : (i : ℕ) → i < b.count → entry_at ts deck b i ≡ entry_at ts source b i
  unfolding entry_at text_at
  entry_dealt i h = rw (same_within (length source) deck source (source_is ∙ sym (take-length source)) (get_or b.starts i 0) (get_or b.lengths i 0) (over.fits.inside i h))

  pub unused_dealt : unused ts deck b ≡ unused ts source b
  unfolding unused
  unused_dealt = unused_same ts deck b source b 0 b.count (λ j l h. record { used_is = refl; entry_is = entry_dealt j (omega arith) })

-- every entry is parsed in the deck, by the path that the deck holds
pub entries_parsed_deck :
    {bytes old trail : Text} {b : Book} {deck : Text}
    → Dealt bytes old trail b deck
    → BookOver (length old) b
    → length old ≤ 4096
    → length trail ≡ length old
    → EntriesParsed bytes old trail b
    → (i : ℕ) → i < b.count → OldParsed bytes (get_or b.children i 0) deck (place_at b i)
entries_parsed_deck {old = old} {trail = trail} {b = b} {deck = deck} dealt over small as_long parsed i h =
    let start = get_or b.starts i 0 in
    let len = get_or b.lengths i 0 in
    let ends = over.fits.inside i h in
    record {
      inside = omega (arith, ends);
      parsed =
          rw
          (same_within (length trail) (trail_of deck) trail (dealt.trail_is ∙ sym (take-length trail)) start len (omega (arith, ends, as_long)), same_within (length old) deck old (dealt.source_is ∙ sym (take-length old)) start len ends)
          (parsed.each i h);
    }

-- ---- What stays while entries are taken

-- no entry is taken, or one
pub same_all : (b : Book) → SameEntries b b
same_all b = record { starts_same = refl; lengths_same = refl; bases_same = refl; children_same = refl; count_same = refl }

pub same_leaving : (b : Book) (left : Set) → SameEntries b (leaving b left)
same_leaving b left =
    record { starts_same = refl; lengths_same = refl; bases_same = refl; children_same = refl; count_same = refl }

pub same_marked : (b : Book) (i : ℕ) → SameEntries b (marked b i)
same_marked b i = record { starts_same = refl; lengths_same = refl; bases_same = refl; children_same = refl; count_same = refl }

module _ {b b' : Book} (same : SameEntries b b') where
  -- and more after that
  pub same_then : {b'' : Book} → SameEntries b' b'' → SameEntries b b''
  same_then later =
      record {
        starts_same = later.starts_same ∙ same.starts_same;
        lengths_same = later.lengths_same ∙ same.lengths_same;
        bases_same = later.bases_same ∙ same.bases_same;
        children_same = later.children_same ∙ same.children_same;
        count_same = later.count_same ∙ same.count_same;
      }

  -- each entry is as it was
  same_entry : (ts : Trees) (old : Text) (i : ℕ) → entry_at ts old b' i ≡ entry_at ts old b i
  unfolding entry_at text_at
  same_entry ts old i = rw (same.starts_same, same.lengths_same, same.children_same)

  -- the cards are still those of the entries
  pub cards_fit_same : {bytes deck : Text} → CardsFit bytes deck b → CardsFit bytes deck b'
  cards_fit_same {bytes} {deck} fit =
      record {
        inside = λ i h. fit.inside i (omega (arith, same.count_same));
        each = λ i h. rw (same_entry (trees bytes) deck i) (fit.each i (omega (arith, same.count_same)));
      }
