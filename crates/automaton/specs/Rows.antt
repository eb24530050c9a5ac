-- How a position automaton stands in the prepared program, a slice of 64-bit numbers. A node has 16 of them: its four sizes, then for each
-- side its first row, whether the empty text belongs, and the sets of first and last positions. Behind the nodes stand the rows, three numbers
-- a position: what tells its bytes, and the set of positions that may follow it. A letter is told by itself, a number below 256; any other
-- number is the place of a class. A range or a set has its class in the two rows in front of its own, and each copy of its row refers to it.
use Rattle.std.specs.Prelude.{◌≡◌, Bool, true, ◌&&◌, cond, List, ◌⊎◌, ℕ, ◌+◌, ◌*◌, ◌≤◌, ◌<◌, eqb, ltb, length, get_or}
use Rattle.semantics.specs.Pattern.{Pattern, nullable}
use Rattle.semantics.specs.Lens.{Side as SideOf, source, sheet}
use Rattle.semantics.specs.Table.{positions}
use Rattle.laws.specs.PositionAutomaton.{stands_at, first_at, last_at, follow_at}
use Rattle.positions.specs.declared.Set.{Set}
use Rattle.positions.specs.Positions.{holds}
use Rattle.classes.specs.declared.Class.{Class}
use Rattle.classes.specs.Classes.{holds_byte, any_below}
use Rattle.automaton.specs.declared.Automaton.{Automaton}
use Rattle.automaton.specs.declared.Side.{Side}
use Rattle.automaton.specs.declared.Side.TheVariants.{Source, Sheet}

-- the definitions' side
unfoldable pub side_of : Side → SideOf
side_of Source = source
side_of Sheet = sheet

abbrev pub side_index : Side → ℕ
side_index Source = 0
side_index Sheet = 1

-- the first number of a row
abbrev pub row_at : ℕ → ℕ
row_at row = 1536 + 3 * row

abbrev pub set_at : List ℕ → ℕ → Set
set_at prepared i = record { low = get_or prepared i 0; high = get_or prepared (i + 1) 0 }

-- what tells the bytes of a row
abbrev pub held_of : List ℕ → ℕ → ℕ
held_of prepared row = get_or prepared (row_at row) 0

-- four numbers, from a place on, as a class
abbrev pub class_at : List ℕ → ℕ → Class
class_at prepared i = record { low = set_at prepared i; high = set_at prepared (i + 2) }

abbrev pub follow_of : List ℕ → ℕ → Set
follow_of prepared row = set_at prepared (row_at row + 1)

-- 'byte c may stand at position p'
unfoldable pub stands_in : List ℕ → ℕ → ℕ → Bool
stands_in prepared row byte =
    let held = held_of prepared row in
    cond (ltb held 256) (eqb byte held) (holds_byte (class_at prepared held) byte)

-- 'two positions share a byte'
unfoldable pub share_in : List ℕ → ℕ → ℕ → Bool
share_in prepared row row' = any_below 256 (λ byte. stands_in prepared row byte && stands_in prepared row' byte)

-- the byte, if it may stand there, else 256
unfoldable pub stands_or_none : List ℕ → ℕ → ℕ → ℕ
stands_or_none prepared row byte = cond (stands_in prepared row byte) byte 256

-- r is the lowest byte that two positions share; if it is 256 or more, they share none.
pub record FirstShared (prepared : List ℕ) (row row' r : ℕ) : Type 0 where
  pub in_both : r < 256 → (stands_in prepared row r ≡ true) × (stands_in prepared row' r ≡ true)
  pub none_lower : (byte : ℕ) → byte < r → byte < 256 → stands_in prepared row byte ≡ true → ¬ (stands_in prepared row' byte ≡ true)

-- two positions are told by the same number
unfoldable pub alike_in : List ℕ → ℕ → ℕ → Bool
alike_in prepared row row' = eqb (held_of prepared row) (held_of prepared row')

-- the automaton of a node and a side, as it stands in the prepared program
unfoldable pub automaton_at : List ℕ → ℕ → Side → Automaton
automaton_at prepared k side =
    let i = 16 * k + 4 + 6 * side_index side in
    record {
      start = get_or prepared i 0;
      count = get_or prepared (16 * k + 1 + side_index side) 0;
      nullable = eqb (get_or prepared (i + 1) 0) 1;
      first = set_at prepared (i + 2);
      last = set_at prepared (i + 4);
    }

-- What tells the bytes of a row is a letter, or the place of a class behind the numbers of the nodes and in front of the row.
abbrev pub ClassBelow : List ℕ → ℕ → Type 0
ClassBelow prepared row = (held_of prepared row < 256) ⊎ ((1536 ≤ held_of prepared row) × (held_of prepared row + 4 ≤ row_at row))

-- The row stands in the prepared program, and so does its class, if it refers to one.
pub record RowRoom (prepared : List ℕ) (row : ℕ) : Type 0 where
  pub inside : row_at (row + 1) ≤ length prepared
  pub class_inside : held_of prepared row + 4 ≤ length prepared

-- The rows of an automaton stand in the prepared program with their classes, and its positions fit a set.
pub record Room (a : Automaton) (prepared : List ℕ) : Type 0 where
  pub few : a.count ≤ 128
  pub inside : row_at (a.start + a.count) ≤ length prepared
  pub rows : (p : ℕ) → p < a.count → RowRoom prepared (a.start + p)

-- Row p of the automaton that starts at `start` is that of position p.
pub record RowIs (r : Pattern) (start p : ℕ) (prepared : List ℕ) : Type 0 where
  pub bytes_are : (byte : ℕ) → stands_in prepared (start + p) byte ≡ stands_at r p byte
  pub class_below : ClassBelow prepared (start + p)
  pub follow_is : (q : ℕ) → holds (follow_of prepared (start + p)) q ≡ follow_at r p q

-- It is the position automaton of the pattern r.
pub record Describes (r : Pattern) (a : Automaton) (prepared : List ℕ) : Type 0 where
  pub count_is : a.count ≡ positions r
  pub nullable_is : a.nullable ≡ nullable r
  pub first_is : (p : ℕ) → holds a.first p ≡ first_at r p
  pub last_is : (p : ℕ) → holds a.last p ≡ last_at r p
  pub row_is : (p : ℕ) → p < positions r → RowIs r a.start p prepared
