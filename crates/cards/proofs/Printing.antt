-- The fingerprint, byte by byte. Assumes nothing.
use mathlib.Core.Path.{◌≡◌, refl}
use mathlib.Core.List.{[], ◌∷◌}
use Prim.Native.Nat.{ℕ, ◌+◌, ◌*◌, ◌%◌, ◌≤◌, ◌<◌}
use native.Mathlib.Numerals.{add-one}
use native.Mathlib.Omega.{arith}
use lib.ListN.{length, drop, get_or, drop_of_length-le}
use lib.Seq.{drop-cons}
use Rattle.semantics.specs.Text.{Text}
use Rattle.books.specs.Cards.{print_next, print_from, print_of}

-- The print of the first i bytes; those behind them give the whole one.
pub record Printed (text : Text) (i print : ℕ) : Type 0 where
  pub small : print < 65536
  pub rest_gives : print_from print (drop i text) ≡ print_of text

module _ {text : Text} where
  pub printed_none : Printed text 0 0
  unfolding print_of
  printed_none = record { small = omega arith; rest_gives = refl }

  module _ {i print : ℕ} (printed : Printed text i print) where
    pub printed_more : i < length text → Printed text (i + 1) ((print * 31153 + get_or text i 0 + 1) % 65536)
    unfolding print_from print_next
    printed_more h = record { small = omega arith; rest_gives = rw (add-one i) (rw (drop-cons text i 0 h) at printed.rest_gives) }

    pub printed_all : length text ≤ i → print ≡ print_of text
    unfolding print_from
    printed_all h = rw (drop_of_length-le text h) at printed.rest_gives

-- it has two bytes
print_below : (text : Text) (print : ℕ) → print < 65536 → print_from print text < 65536
unfolding print_from print_next
print_below [] print h = h
print_below (byte ∷ text) print h = print_below text (print_next print byte) (omega arith)

pub print_small : (text : Text) → print_of text < 65536
unfolding print_of
print_small text = print_below text 0 (omega arith)
