-- The cards of old entries' keys, and the deck of them.
use Rattle.std.specs.Prelude.{Option, Some, None, ◌≡◌, List, ℕ, ◌+◌, ◌*◌, ◌/◌, ◌%◌, ◌≤◌, ◌<◌, length, take, drop, get_or, set}
use Rattle.semantics.specs.Text.{Text}
use Rattle.semantics.specs.Lens.{Lens, get, key_of}
use Rattle.semantics.specs.Table.{trees, tree_at, lens}
use Rattle.paths.specs.Finding.{MarksRoom}
use Rattle.books.specs.declared.Book.{Book}
use Rattle.books.specs.Cards.{CardAt}
use Rattle.books.specs.Listed.{text_at}
use Rattle.books.specs.Looking.{trail_of, card_place, Dealt}
use Rattle.cards.specs.declared.Card.{Card}
use Rattle.decks.specs.declared.deck.Dealing.{Dealing}

-- ---- The card of an old entry

-- Room for the path of an entry's sheet, of 4,096 bytes at least.
pub record PathRoom (marks path : List ℕ) : Type 0 where
  pub least_room : 4096 ≤ length path
  pub marks_room : MarksRoom path marks

-- The card of an entry's key, that of its own sheet, begins the room. Or the sheet, which has at most 128 bytes for each byte of the entry, and for an empty one, does not
-- fit the room, or its path not the room for that.
pub record CardTried (bytes : Text) (child : ℕ) (text path room : Text) (r : Option Card) : Type 0 where
  pub made : (c : Card) → r ≡ Some c → (l : Lens) → tree_at (trees bytes) child ≡ lens l → CardAt (key_of l (get l text)) room c.len c.print
  pub too_long_lem : r ≡ None → 524288 ≤ length path → length room < 128 + 128 * length text

-- The four bytes of an entry's head were set.
pub record HeadPut (before : Text) (i print at : ℕ) (after : Text) : Type 0 where
  pub after_is :
      after
      ≡ set (set (set (set before (8192 + i) print) (8448 + 3 * i) (at / 65536)) (8448 + 3 * i + 1) (at / 256 % 256)) (8448 + 3 * i + 2) (at % 256)

-- ---- The deck, card by card

-- Entry j has its card in the deck, among the cards in front of `at`.
pub record CardIn (bytes source : Text) (b : Book) (deck : Text) (at j : ℕ) : Type 0 where
  pub size : ℕ
  pub card : Text
  pub from : 9216 ≤ card_place deck j
  pub ends : card_place deck j + size ≤ at
  pub here : take size (drop (card_place deck j) deck) ≡ take size card
  pub entry :
      (l : Lens)
      → tree_at (trees bytes) (get_or b.children j 0) ≡ lens l
      → CardAt (key_of l (get l (text_at source b j))) card size (get_or deck (8192 + j) 0)

-- The deck begins with the old source and its path, and so many entries have their cards in it, one behind the other. A card has at most two bytes more than the entry's sheet, and
-- entries stand one behind the other, so that where the next entry begins tells how far the cards can have come. The source, the path and the heads each have the room that the
-- deck has for them, so that all of it stands in front of `at`, and moves with that.
pub record DealtTo (bytes source trail : Text) (b : Book) (deck : Text) (d : Dealing) : Type 0 where
  pub source_short : length source ≤ 4096
  pub trail_short : length trail ≤ 4096
  pub few_heads : d.entries ≤ 256
  pub source_is : take (length source) deck ≡ source
  pub trail_is : take (length trail) (trail_of deck) ≡ trail
  pub behind_heads : 9216 ≤ d.at
  pub within : d.at ≤ length deck
  pub few : d.entries ≤ b.count
  pub packed : d.entries < b.count → d.at ≤ 9216 + 130 * d.entries + 128 * get_or b.starts d.entries 0
  pub cards : (j : ℕ) → j < d.entries → CardIn bytes source b deck d.at j

-- The old source and its path are in the deck, and no card, whatever the book.
pub record Begun (source trail deck : Text) (d : Dealing) : Type 0 where
  pub begun : (bytes : Text) (b : Book) → DealtTo bytes source trail b deck d

-- The cards that one deck has stand in another.
pub record MovedTo (bytes source trail : Text) (b : Book) (from deck : Text) (d : Dealing) : Type 0 where
  pub moved : DealtTo bytes source trail b from d → DealtTo bytes source trail b deck d

-- Cards were dealt, up to the last entry's; or the deck, or the room for the path of a sheet, of so many bytes, is shorter than it may have to be.
pub record DealtOn (room : ℕ) (bytes source trail : Text) (b : Book) (deck : Text) (d : Dealing) : Type 0 where
  pub dealt : DealtTo bytes source trail b deck d
  pub all : d.entries ≡ b.count → Dealt bytes source trail b deck
  pub stopped : d.entries < b.count → 524288 ≤ room → length deck < 570752
