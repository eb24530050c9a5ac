-- Pairs, told by numbers, and the ways through them: each byte of a text leads from a pair to the next.
use Rattle.std.specs.Prelude.{◌≡◌, Bool, true, [], ◌∷◌, ℕ, ◌≤◌, ◌<◌, length}
use Rattle.semantics.specs.Text.{Text}

pub record Graph : Type 0 where
  -- the first pair may come before the second
  pub precedes : ℕ → ℕ → Bool
  -- the byte may stand at both positions of the pair
  pub stands : ℕ → ℕ → Bool
  -- a text may begin by the pair
  pub begins : ℕ → Bool
  -- and end at it
  pub ends : ℕ → Bool

-- some byte may stand at both positions
abbrev pub Shared : Graph → ℕ → Type 0
Shared g pair = (c : ℕ) × (c < 256) × (g.stands pair c ≡ true)

-- one byte leads from the pair to the next
pub record Steps (g : Graph) (pair c next : ℕ) : Type 0 where
  pub byte : c < 256
  pub may_follow : g.precedes pair next ≡ true
  pub may_stand : g.stands next c ≡ true

-- the text leads from the pair to an end
unfoldable pub Way : Graph → ℕ → Text → Type 0
Way g pair [] = g.ends pair ≡ true
Way g pair (c ∷ t) = (next : ℕ) × Steps g pair c next × Way g next t

-- the text leads from a beginning to an end
unfoldable pub Accepts : Graph → Text → Type 0
Accepts g [] = ⊥
Accepts g (c ∷ t) = (pair : ℕ) × (c < 256) × (g.begins pair ≡ true) × (g.stands pair c ≡ true) × Way g pair t

-- So many bytes, and no fewer, lead from the pair to an end.
pub record Far (g : Graph) (n pair : ℕ) : Type 0 where
  pub text : Text
  pub is_way : Way g pair text
  pub long : length text ≡ n
  pub none_shorter : (t : Text) → Way g pair t → n ≤ length t
