-- Which positions a set holds: those below 64 are the bits of `low`, those from 64 to 127 the bits of `high`.
use Rattle.std.specs.Prelude.{◌≡◌, Bool, true, false, not, ◌&&◌, ◌||◌, cond, ℕ, ◌-◌, ◌/◌, ◌%◌, ◌^◌, ◌≤◌, ◌<◌, ltb, leb, eqb}
use Rattle.positions.specs.declared.Set.{Set}

-- Whether bit p of the number n is 1.
unfoldable pub bit : ℕ → ℕ → Bool
bit p n = eqb (n / 2 ^ p % 2) 1

-- Whether the set holds the position p. No set holds one from 128 on.
unfoldable pub holds : Set → ℕ → Bool
holds s p = cond (ltb p 64) (bit p s.low) (cond (ltb p 128) (bit (p - 64) s.high) false)

-- r holds nothing.
abbrev pub Empty : Set → Type 0
Empty r = (p : ℕ) → holds r p ≡ false

-- r holds p and nothing else.
abbrev pub Only : ℕ → Set → Type 0
Only p r = (q : ℕ) → holds r q ≡ eqb q p

-- r holds p, and what s holds.
abbrev pub Added : Set → ℕ → Set → Type 0
Added s p r = (q : ℕ) → holds r q ≡ (eqb q p || holds s q)

-- r holds what s holds, but not p.
abbrev pub Removed : Set → ℕ → Set → Type 0
Removed s p r = (q : ℕ) → holds r q ≡ (not (eqb q p) && holds s q)

-- r holds what s holds and t does not.
abbrev pub Less : Set → Set → Set → Type 0
Less s t r = (q : ℕ) → holds r q ≡ (holds s q && not (holds t q))

-- r holds what s or t holds.
abbrev pub Joined : Set → Set → Set → Type 0
Joined s t r = (q : ℕ) → holds r q ≡ (holds s q || holds t q)

-- r holds what s and t both hold.
abbrev pub Met : Set → Set → Set → Type 0
Met s t r = (q : ℕ) → holds r q ≡ (holds s q && holds t q)

-- Some position is held by both.
abbrev pub Shared : Set → Set → Type 0
Shared s t = (p : ℕ) × (p < 128) × (holds s p ≡ true) × (holds t p ≡ true)

-- Whether the set holds q once its positions are moved up by n. What would come to 128 or more is dropped.
abbrev pub holds_moved : Set → ℕ → ℕ → Bool
holds_moved s n q = ltb q 128 && (leb n q && holds s (q - n))

-- r holds what s holds, moved up by n.
abbrev pub Moved : Set → ℕ → Set → Type 0
Moved s n r = (q : ℕ) → holds r q ≡ holds_moved s n q

-- r is the first position from p on that s holds; where s holds none, r is 128 or more.
pub record FirstFrom (s : Set) (p r : ℕ) : Type 0 where
  pub from : p ≤ r
  pub skipped : (q : ℕ) → p ≤ q → q < r → holds s q ≡ false
  pub held : r < 128 → holds s r ≡ true
