-- Places and numbers in a text.
use Rattle.std.specs.Prelude.{Bool, cond, ◌&&◌, List, [], ◌∷◌, ℕ, suc, ◌+◌, ◌*◌, ◌%◌, eqb, leb}

-- How many bytes stand before the first that is `byte`: all of them, if none is.
unfoldable pub bytes_before : ℕ → List ℕ → ℕ
bytes_before byte [] = 0
bytes_before byte (x ∷ xs) = let more = suc (bytes_before byte xs) in cond (eqb x byte) 0 more

abbrev pub is_digit : ℕ → Bool
is_digit byte = leb 48 byte && leb byte 57

-- A number with one more digit, in 16 bits.
abbrev pub with_digit : ℕ → ℕ → ℕ
with_digit n byte = (n % 65536 * 10 + byte % 16) % 65536

-- A number, with the digits at the start of a text behind it.
unfoldable pub number_from : ℕ → List ℕ → ℕ
number_from n [] = n
number_from n (x ∷ xs) = let more = number_from (with_digit n x) xs in cond (is_digit x) more n
