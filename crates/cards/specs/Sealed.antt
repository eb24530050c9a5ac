-- How the card of a key is made.
use Rattle.std.specs.Prelude.{◌≡◌, ◌++◌, ℕ, ◌+◌, ◌≤◌, length, take, drop}
use Rattle.semantics.specs.Text.{Text}
use Rattle.semantics.specs.Lens.{Lens, key_of}
use Rattle.semantics.specs.Table.{trees, tree_at, lens}
use Rattle.texts.specs.Overlay.{Wrote}
use Rattle.std.specs.Prelude.{Some, None}
use Rattle.books.specs.Cards.{card_of, print_byte, two_bytes}
use Rattle.cards.specs.declared.Card.{Card}

-- A key of that many bytes was written behind the head of a card.
pub record KeyBehind (card : Text) (wrote : Wrote) : Type 0 where
  pub within : (n : ℕ) → wrote ≡ Some n → 2 + n ≤ length card

-- the key that was written, as far as it had room
abbrev pub key_behind : Text → ℕ → Text
key_behind card n = take n (drop 2 card)

-- the card that was sealed, of a key that had room; of another, a length that no card has
abbrev pub sealed_card : Text → Wrote → Text
sealed_card card (Some n) = card_of (key_behind card n) ++ drop (length (card_of (key_behind card n))) card
sealed_card card None = two_bytes 65535 ++ drop 2 card

abbrev pub sealed_length : Text → Wrote → ℕ
sealed_length card (Some n) = length (card_of (key_behind card n))
sealed_length card None = 2

abbrev pub sealed_print : Text → Wrote → ℕ
sealed_print card (Some n) = print_byte (key_behind card n)
sealed_print card None = 0

-- The head was set, and the rest is as it was.
pub record Sealed (before : Text) (wrote : Wrote) (after : Text) (r : Card) : Type 0 where
  pub card_is : after ≡ sealed_card before wrote
  pub length_is : r.len ≡ sealed_length before wrote
  pub print_is : r.print ≡ sealed_print before wrote

-- The card of the key of a sheet text at a node.
pub record KeyCard (bytes : Text) (node : ℕ) (text card : Text) (r : Card) : Type 0 where
  pub within : r.len ≤ length card
  pub card_is : (l : Lens) → tree_at (trees bytes) node ≡ lens l → take r.len card ≡ card_of (key_of l text)
  pub print_is : (l : Lens) → tree_at (trees bytes) node ≡ lens l → r.print ≡ print_byte (key_of l text)
