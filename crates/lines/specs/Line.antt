-- The lines of accepted and refused programs and of a put's counts, as their functions put them together.
use Rattle.std.specs.Prelude.{◌≡◌, List, [], ◌∷◌, ◌++◌, ℕ, ◌+◌, length}
use Rattle.std.proofs.lemmas.List.Edits.{sets}
use Rattle.semantics.specs.Text.{Text}
use Rattle.semantics.specs.Calls.{field}
use Rattle.semantics.specs.Tally.{Tally}

-- A text is put at a place of a buffer, byte by byte, and the next place is behind it.
pub record Puts (text : Text) (at next : ℕ) (before after : List ℕ) : Type 0 where
  pub after_is : after ≡ sets before at text
  pub next_is : next ≡ at + length text

-- 'the word `ok`, N, source positions, sheet positions of the root'
unfoldable pub accepted_line : ℕ → ℕ → ℕ → Text
accepted_line count sources sheets = (111 ∷ 107 ∷ []) ++ field count ++ field sources ++ field sheets ++ 10 ∷ []

-- '`refused`, number, node'
unfoldable pub refused_line : ℕ → ℕ → Text
refused_line number node = (114 ∷ 101 ∷ 102 ∷ 117 ∷ 115 ∷ 101 ∷ 100 ∷ []) ++ field number ++ field node ++ 10 ∷ []

-- the counts that a put has, as three numbers
abbrev pub counts : ℕ → ℕ → ℕ → Tally
counts kept made dropped = record { kept = kept; made = made; dropped = dropped }
