-- What stands at the start of a text: a run of bytes, a name, a number, a value, a separator, and the places of a line with a pair.
use Rattle.std.specs.Prelude.{◌≡◌, Bool, true, false, ◌&&◌, cond, ◌⊎◌, [], ◌∷◌, ℕ, suc, ◌+◌, ◌≤◌, ◌<◌, eqb, ltb, length, take, drop, Option, Some, None, MatchOption}
use Rattle.semantics.specs.Text.{Text, same_text}
use Rattle.sections.specs.Afm.{newline, semicolon, minus, begins_with, is_name_byte, is_name, is_digit, number_of, is_number, is_value, kpx_word}
use Rattle.sections.proofs.Splitting.{is_space}
use Rattle.fields.specs.declared.Form.{Form}
use Rattle.fields.specs.declared.Form.TheVariants.{Kpx, Sheet}
use Rattle.fields.specs.declared.Digits.{Digits}

-- how many bytes at the start pass the test
unfoldable pub run : (ℕ → Bool) → Text → ℕ
run test [] = 0
run test (b ∷ t) = let more = suc (run test t) in cond (test b) more 0

-- those bytes
unfoldable pub front : (ℕ → Bool) → Text → Text
front test t = take (run test t) t

-- the length of a text that is of its form, and 0 of another
unfoldable pub length_if : (Text → Bool) → Text → ℕ
length_if is t = cond (is t) (length t) 0

unfoldable pub name_length : Text → ℕ
name_length t = length_if is_name (front is_name_byte t)

-- the length of digits and their number, if they are one up to the limit
unfoldable pub number_in : ℕ → Text → Option Digits
number_in limit digits = cond (is_number limit digits) (Some (record { count = length digits; number = number_of digits })) None

-- a minus, if there is one, and the digits behind it
unfoldable pub value_front : Text → Text
value_front [] = []
value_front (b ∷ t) = cond (eqb b minus) (b ∷ front is_digit t) (front is_digit (b ∷ t))

unfoldable pub value_length : Text → ℕ
value_length t = length_if is_value (value_front t)

-- a run of spaces in a section, one `;` in a sheet
unfoldable pub separator_length : Form → Text → ℕ
separator_length Kpx t = run is_space t
separator_length Sheet t = cond (begins_with semicolon t) 1 0

-- A word and spaces. Where one of both is missing, all of the text, behind which there is no field.
unfoldable pub word_length : Text → Text → ℕ
word_length word t =
    let spaces = run is_space (drop (length word) t) in
    cond (same_text (take (length word) t) word && ltb 0 spaces) (length word + spaces) (length t)

-- what stands in front of the left name
unfoldable pub lead_length : Form → Text → ℕ
lead_length Kpx t = word_length kpx_word t
lead_length Sheet t = 0

-- Where the fields of a line and what separates them begin, and where the line ends.
pub record Line : Type 0 where
  pub left : ℕ
  pub between : ℕ
  pub right : ℕ
  pub behind : ℕ
  pub value : ℕ
  pub end : ℕ

-- where the names and the value of a line begin and end, whether or not they are there
pub record LineAt (form : Form) (t : Text) (line : Line) : Type 0 where
  pub left_is : line.left ≡ lead_length form t
  pub between_is : line.between ≡ line.left + name_length (drop line.left t)
  pub right_is : line.right ≡ line.between + separator_length form (drop line.between t)
  pub behind_is : line.behind ≡ line.right + name_length (drop line.right t)
  pub value_is : line.value ≡ line.behind + separator_length form (drop line.behind t)
  pub end_is : line.end ≡ line.value + value_length (drop line.value t)
  pub within : line.end ≤ length t

-- a field between two places, and the newline behind it
unfoldable pub ends_at : Text → ℕ → ℕ → Bool
ends_at t from end = ltb from end && begins_with newline (drop end t)

-- all of them are there, and the newline behind them
unfoldable pub is_pair : Text → Line → Bool
is_pair t line =
    (ltb line.left line.between && ltb line.between line.right)
    && (ltb line.right line.behind && ltb line.behind line.value)
    && ends_at t line.value line.end

-- ---- What the functions answer

-- the length that was found at the start of a text, or nothing where it is 0
abbrev pub Finds : ℕ → Text → Option ℕ → Type 0
Finds n t found = MatchOption found (n ≡ 0) (λ m. (m ≡ n) × (0 < m) × (m ≤ length t))

-- a number up to a limit, or nothing where it is larger
abbrev pub IsWithin : ℕ → ℕ → Option ℕ → Type 0
IsWithin limit n found = MatchOption found (limit < n) (λ m. (m ≡ n) × (m ≤ limit))

-- what is behind n bytes of a text, and there are some
abbrev pub IsBehind : ℕ → Text → Text → Type 0
IsBehind n t rest = (0 < n) × (rest ≡ drop n t)

-- The word is missing, or the spaces behind it are.
abbrev pub NoWord : Text → Text → Type 0
NoWord word t = (same_text (take (length word) t) word ≡ false) ⊎ (run is_space (drop (length word) t) ≡ 0)

-- Both are there, and the rest is what is behind them.
abbrev pub HasWord : Text → Text → Text → Type 0
HasWord word t rest = (same_text (take (length word) t) word ≡ true) × (0 < run is_space (drop (length word) t)) × (rest ≡ drop (word_length word t) t)

unfoldable pub NoLead : Form → Text → Type 0
NoLead Kpx t = NoWord kpx_word t
NoLead Sheet t = ⊥
