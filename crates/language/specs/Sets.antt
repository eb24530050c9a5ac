-- Sets of positions that a byte or a step leads to, told by the prepared program alone.
use Rattle.std.specs.Prelude.{◌≡◌, true, false, List, ◌↔◌, ◌⊎◌, ℕ, ◌+◌, ◌*◌, ◌≤◌, ◌<◌, length}
use Rattle.std.proofs.Common.{arith}
use Rattle.positions.specs.declared.Set.{Set}
use Rattle.positions.specs.Positions.{holds, Shared}
use Rattle.automaton.specs.declared.Automaton.{Automaton}
use Rattle.automaton.specs.Rows.{set_at, follow_of, stands_in}

-- The set holds what some position below n gives.
pub record Gathered (gives : ℕ → ℕ → Type 0) (n : ℕ) (s : Set) : Type 0 where
  pub held_iff : (q : ℕ) → (holds s q ≡ true) ↔ ((p : ℕ) × (p < n) × gives p q)

-- The set `after` holds what `before` holds, and what was given.
pub record Grown (given : ℕ → Type 0) (before after : Set) : Type 0 where
  pub grown_iff : (q : ℕ) → (holds after q ≡ true) ↔ ((holds before q ≡ true) ⊎ given q)

-- A position of the set gives itself where the byte may stand at it.
pub record Standing (prepared : List ℕ) (a : Automaton) (s : Set) (byte p q : ℕ) : Type 0 where
  pub itself : q ≡ p
  pub held : holds s p ≡ true
  pub stands : stands_in prepared (a.start + p) byte ≡ true

-- It then gives those that may follow it.
pub record Onward (prepared : List ℕ) (a : Automaton) (s : Set) (byte p q : ℕ) : Type 0 where
  pub stood : Standing prepared a s byte p p
  pub follows : holds (follow_of prepared (a.start + p)) q ≡ true

-- Backward it gives those that it may follow.
pub record Back (prepared : List ℕ) (a : Automaton) (s : Set) (byte p q : ℕ) : Type 0 where
  pub stood : Standing prepared a s byte p p
  pub inside : q < a.count
  pub leads : holds (follow_of prepared (a.start + q)) p ≡ true

-- A position gives itself where one of the set may follow it.
pub record Meeting (prepared : List ℕ) (a : Automaton) (s : Set) (p q : ℕ) : Type 0 where
  pub itself : q ≡ p
  pub met : Shared (follow_of prepared (a.start + p)) s

-- ---- Sets that are kept, two numbers each

-- Set i of a slice is written, the others stay.
pub record Stored (before : List ℕ) (i : ℕ) (set : Set) (after : List ℕ) : Type 0 where
  pub same_length : length after ≡ length before
  pub stored : set_at after (2 * i) ≡ set
  pub kept : (j : ℕ) → ¬ (j ≡ i) → set_at after (2 * j) ≡ set_at before (2 * j)

-- There is room for a set for each position, and all these sets are empty.
pub record NoLeads (leads : List ℕ) : Type 0 where
  pub size : 256 ≤ length leads
  pub none_held : (p q : ℕ) → p < 128 → holds (set_at leads (2 * p)) q ≡ false

-- Of the sets of the first `count` positions, those of the positions of `next` below n have q as well.
pub record LedFrom (count : ℕ) (next : Set) (q n : ℕ) (before after : List ℕ) : Type 0 where
  pub same_length : length after ≡ length before
  pub grown : (p : ℕ) → p < count → Grown (λ k. (k ≡ q) × (p < n) × (holds next p ≡ true)) (set_at before (2 * p)) (set_at after (2 * p))

-- The slice has, for each position, the set of those below n that it may follow.
pub record Led (prepared : List ℕ) (a : Automaton) (n : ℕ) (leads : List ℕ) : Type 0 where
  pub led_iff : (p : ℕ) → p < a.count → (q : ℕ) → (holds (set_at leads (2 * p)) q ≡ true) ↔ ((q < n) × (holds (follow_of prepared (a.start + q)) p ≡ true))

-- The slice has, for each position, the set of those that it may follow; or it is too short for that, and the follow sets are asked.
pub record Leads (prepared : List ℕ) (a : Automaton) (leads : List ℕ) : Type 0 where
  pub led : 256 ≤ length leads → Led prepared a a.count leads

-- Nothing is known of a slice that is too short.
pub short_leads : {prepared : List ℕ} {a : Automaton} {leads : List ℕ} → length leads < 256 → Leads prepared a leads
short_leads short = record { led = λ long. absurd (omega arith) }
