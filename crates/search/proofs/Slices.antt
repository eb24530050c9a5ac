-- A part of the order, as a list of its own. Assumes nothing.
use mathlib.Core.Path.{◌≡◌, ◌∙◌}
use mathlib.Core.List.{List}
use Prim.Native.Nat.{ℕ, ◌+◌, ◌-◌, ◌≤◌, ◌<◌}
use native.Mathlib.Omega.{arith}
use lib.ListN.{length, get_or, take, drop, length-drop}
use lib.Seq.{get_or-take, get_or-drop, length-take-le}

-- the entries from `from` to before `to`
abbrev pub part : List ℕ → ℕ → ℕ → List ℕ
part order from to = take (to - from) (drop from order)

module _ (order : List ℕ) (from to : ℕ) (inside : to ≤ length order) where
  pub part_length : length (part order from to) ≡ to - from
  part_length = length-take-le (to - from) (drop from order) (rw (length-drop from order) (omega arith))

  -- entry i of the part is entry from + i of the order
  pub part_at : (i : ℕ) → i < to - from → get_or (part order from to) i 0 ≡ get_or order (from + i) 0
  part_at i l = get_or-take (to - from) (drop from order) i 0 l ∙ get_or-drop from order i 0

  -- So a property of an entry of the order between the two is one of an entry of the part.
  pub some_of_part :
      (P : ℕ → Type 0)
      → (i : ℕ) × (i < length (part order from to)) × P (get_or (part order from to) i 0)
      → (i : ℕ) × (from ≤ i) × (i < to) × P (get_or order i 0)
  some_of_part P (i, l, p) =
      let below : i < to - from = omega (arith, part_length) in
      (from + i, omega arith, omega arith, rw (part_at i below) at p)

  pub part_of_some :
      (P : ℕ → Type 0)
      → (i : ℕ) × (from ≤ i) × (i < to) × P (get_or order i 0)
      → (i : ℕ) × (i < length (part order from to)) × P (get_or (part order from to) i 0)
  part_of_some P (i, l, m, p) =
      let place : from + (i - from) ≡ i = omega arith in
      (i - from, omega (arith, part_length), rw (part_at (i - from) (omega arith), place) p)
