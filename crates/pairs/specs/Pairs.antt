-- The pairs of positions of two automata that one text leads to. They stand in cells, two words of 64 bits for each position of the first: the set
-- of those of the second.
use Rattle.std.specs.Prelude.{◌≡◌, Bool, true, false, ◌&&◌, ◌||◌, cond, List, [], ◌∷◌, ◌⊎◌, ℕ, ◌+◌, ◌-◌, ◌*◌, ◌≤◌, ◌<◌, eqb, length, Option, None, Some}
use Rattle.positions.specs.declared.Set.{Set}
use Rattle.positions.specs.Positions.{holds, Empty}
use Rattle.classes.specs.Classes.{any_below}
use Rattle.automaton.specs.declared.Automaton.{Automaton}
use Rattle.automaton.specs.Rows.{set_at, follow_of, share_in, alike_in}

-- ---- Sets that are gathered position by position

-- r holds the positions that one of 0 to n - 1 gives.
pub record Gathered (n : ℕ) (gives : ℕ → ℕ → Bool) (r : Set) : Type 0 where
  pub holds_is : (q : ℕ) → holds r q ≡ any_below n (λ p. gives p q)

-- a position of the set gives those that may follow it
abbrev pub by_follow : List ℕ → ℕ → Set → ℕ → ℕ → Bool
by_follow prepared start set p q = holds set p && holds (follow_of prepared (start + p)) q

-- a position gives itself, if it shares a byte with that of a row
abbrev pub by_sharing : List ℕ → ℕ → ℕ → ℕ → ℕ → Bool
by_sharing prepared row start p q = share_in prepared row (start + p) && eqb q p

-- whether position x is told by the same number as the one before it; position 0 has none before it
unfoldable pub same_as_last : List ℕ → ℕ → ℕ → Bool
same_as_last prepared start x = let alike = alike_in prepared (start + (x - 1)) (start + x) in cond (eqb x 0) false alike

-- ---- Cells

-- row x of the cells
abbrev pub row_of : List ℕ → ℕ → Set
row_of cells x = set_at cells (2 * x)

-- whether the pair (x, y) is set
abbrev pub held : List ℕ → ℕ → ℕ → Bool
held cells x y = holds (row_of cells x) y

-- a position of the set gives its row
abbrev pub by_row : List ℕ → Set → ℕ → ℕ → Bool
by_row cells set x y = holds set x && held cells x y

unfoldable pub total : List ℕ → ℕ
total [] = 0
total (x ∷ xs) = x + total xs

-- If something changed, the cells' sum has grown; if not, they are the same.
pub record Change (before after : List ℕ) (changed : Bool) : Type 0 where
  pub grows : changed ≡ true → total before < total after
  pub same : changed ≡ false → after ≡ before

-- Row x has gained a set.
pub record Gained (x : ℕ) (set : Set) (before after : List ℕ) (changed : Bool) : Type 0 where
  pub change : Change before after changed
  pub row_is : (y : ℕ) → held after x y ≡ (held before x y || holds set y)
  pub others : (i y : ℕ) → ¬ (i ≡ x) → held after i y ≡ held before i y

-- Positions x and y of two automata, x in the first set and y in the second, that share a byte.
pub record Meets (prepared : List ℕ) (a b : Automaton) (xs ys : Set) (x y : ℕ) : Type 0 where
  pub left : x < a.count
  pub right : y < b.count
  pub in_left : holds xs x ≡ true
  pub in_right : holds ys y ≡ true
  pub share : share_in prepared (a.start + x) (b.start + y) ≡ true

-- The shares of an automaton whose rows start at `start`: before row `to`, row x holds the positions of b that share a byte with position x.
pub record Shares (prepared : List ℕ) (start : ℕ) (b : Automaton) (to : ℕ) (shares : List ℕ) : Type 0 where
  pub size : length shares ≡ 256
  pub row_is : (x : ℕ) → x < to → Gathered b.count (by_sharing prepared (start + x) b.start) (row_of shares x)

-- Positions x of the first set and y of the second that are a pair of the shares.
pub record Joins (shares : List ℕ) (xs ys : Set) (x y : ℕ) : Type 0 where
  pub in_left : holds xs x ≡ true
  pub in_right : holds ys y ≡ true
  pub share : held shares x y ≡ true

-- each pair in row x of the first cells is one of the second cells
abbrev pub RowIn : ℕ → List ℕ → List ℕ → Type 0
RowIn x cells others = (y : ℕ) → held cells x y ≡ true → held others x y ≡ true

-- Rows have gained pairs. Those that did are due, beside those that were; a row that has become due is one before `to`, and has gained a pair.
pub record Noted (to : ℕ) (before after : List ℕ) (due due' : Set) : Type 0 where
  pub still : (x : ℕ) → holds due x ≡ true → holds due' x ≡ true
  pub same : (x y : ℕ) → holds due' x ≡ false → held after x y ≡ held before x y
  pub gained : (x : ℕ) → holds due' x ≡ true → (holds due x ≡ true) ⊎ ((x < to) × ¬ RowIn x after before)

-- The rows from `from` to before `to` have gained the pairs that the shares join.
pub record Poured (shares : List ℕ) (xs ys : Set) (from to : ℕ) (before after : List ℕ) (due due' : Set) : Type 0 where
  pub noted : Noted to before after due due'
  pub keeps : (x : ℕ) → RowIn x before after
  pub only : (x y : ℕ) → held after x y ≡ true → (held before x y ≡ true) ⊎ ((x < to) × Joins shares xs ys x y)
  pub all : (x y : ℕ) → from ≤ x → x < to → Joins shares xs ys x y → held after x y ≡ true

-- Row x has gained the positions of ys that share a byte with x. That is what pouring does at x, whatever else is poured.
abbrev pub PouredAt : List ℕ → Set → ℕ → List ℕ → List ℕ → Set → Set → Type 0
PouredAt shares ys x before after due due' = (xs : Set) → holds xs x ≡ true → Poured shares xs ys x (x + 1) before after due due'

-- one common byte leads from the pair (x, y) to the pair (i, j)
abbrev pub Onward : List ℕ → Automaton → Automaton → ℕ → ℕ → ℕ → ℕ → Type 0
Onward prepared a b x y i j = Meets prepared a b (follow_of prepared (a.start + x)) (follow_of prepared (b.start + y)) i j

-- The pairs that some text leads to: the first automaton begins at a position of `begun`, the second at its start.
pub data Reached (prepared : List ℕ) (a b : Automaton) (begun : Set) : ℕ → ℕ → Type 0 where
  begins : {x y : ℕ} → Meets prepared a b begun b.first x y → Reached prepared a b begun x y
  goes : {x y i j : ℕ} → Reached prepared a b begun x y → Onward prepared a b x y i j → Reached prepared a b begun i j

-- Only reached pairs are set in the rows of the first automaton.
abbrev pub Sound : List ℕ → Automaton → Automaton → Set → List ℕ → Type 0
Sound prepared a b begun cells = (x y : ℕ) → x < a.count → held cells x y ≡ true → Reached prepared a b begun x y

-- No pair is lost, and none is set that is not reached.
pub record Led (prepared : List ℕ) (a b : Automaton) (before after : List ℕ) : Type 0 where
  pub keeps : (x : ℕ) → RowIn x before after
  pub sound : (begun : Set) → Sound prepared a b begun before → Sound prepared a b begun after

-- `led` has the pairs that have been led on: one common byte leads from these to pairs that are set. Of a row that is not due they are all pairs that
-- are set, and of a row that is due they are not.
pub record Settled (prepared : List ℕ) (a b : Automaton) (due : Set) (led cells : List ℕ) : Type 0 where
  pub below : (x : ℕ) → holds due x ≡ true → x < a.count
  pub inside : (x : ℕ) → x < a.count → RowIn x led cells
  pub onward :
      (x y i j : ℕ) → x < a.count → y < b.count → held led x y ≡ true → Onward prepared a b x y i j → held cells i j ≡ true
  pub caught_up : (x : ℕ) → x < a.count → holds due x ≡ false → RowIn x cells led
  pub waiting : (x : ℕ) → holds due x ≡ true → ¬ RowIn x cells led

-- The pairs of row x that had not been led on have been. If there was one, the sum of the pairs led on has grown.
pub record Spread (prepared : List ℕ) (a b : Automaton) (x : ℕ) (led led' before after : List ℕ) (due due' : Set) : Type 0 where
  pub leads : Led prepared a b before after
  pub settles : Settled prepared a b due led before → Settled prepared a b due' led' after
  pub grows : ¬ RowIn x before led → total led < total led'

-- The position, if there is one, is due; if there is none, no position is due.
abbrev pub NextDue : Set → Option ℕ → Type 0
NextDue due None = Empty due
NextDue due (Some x) = holds due x ≡ true

-- No pair is set in the first n rows.
pub record Blank (n : ℕ) (cells : List ℕ) : Type 0 where
  pub size : length cells ≡ 256
  pub none_held : (x y : ℕ) → x < n → held cells x y ≡ false

-- Exactly the reached pairs are set in the rows of the first automaton.
pub record Filled (prepared : List ℕ) (a b : Automaton) (begun : Set) (cells : List ℕ) : Type 0 where
  pub sound : Sound prepared a b begun cells
  pub complete : (x y : ℕ) → Reached prepared a b begun x y → held cells x y ≡ true
