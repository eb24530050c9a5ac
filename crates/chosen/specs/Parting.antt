-- The parts of a source of a repeated entry, found by asking the calls.
use Rattle.std.specs.Prelude.{◌≡◌, Bool, ◌&&◌, List, [], ◌++◌, map, ℕ, suc, ◌-◌, ◌≤◌, ◌<◌, length, get_or, take, drop}
use Rattle.semantics.specs.Text.{Text, joined, All}
use Rattle.semantics.specs.Pattern.{In, matches}
use Rattle.semantics.specs.Lens.{Lens, repeat, match, source, language, get}
use Rattle.semantics.specs.Calls.{gives, program}
use Rattle.laws.specs.Shuffle.{selected, PartNumbers}

-- The program is one repeated entry, and the text, of at most 4,096 bytes, is those parts, joined.
pub record Parted (bytes t : Text) (n : ℕ) (l : Lens) (ps : List Text) : Type 0 where
  pub is_program : program bytes ≡ gives (repeat (match n l))
  pub short : length t ≤ 4096
  pub all_in : All (In (language source l)) ps
  pub is_joined : joined ps ≡ t

-- where part k begins, counted from 0
unfoldable pub start_of : List Text → ℕ → ℕ
start_of ps k = length (joined (take k ps))

-- It tells whether the text is a source of the program.
pub record TellsSource (bytes t : Text) (answer : Bool) : Type 0 where
  pub tells_source : (l : Lens) → program bytes ≡ gives l → length t ≤ 4096 → answer ≡ matches (language source l) t

-- It tells whether the text from start to end and the text behind that are both sources.
pub record TellsCut (bytes t : Text) (start end : ℕ) (answer : Bool) : Type 0 where
  pub tells_cut :
      (l : Lens)
      → program bytes ≡ gives l
      → length t ≤ 4096
      → answer ≡ matches (language source l) (take (end - start) (drop start t)) && matches (language source l) (drop end t)

-- The part that begins at start ends at end.
pub record EndsPart (bytes t : Text) (start end : ℕ) : Type 0 where
  pub from_start : start ≤ end
  pub within : end ≤ length t
  pub ends : (n : ℕ) (l : Lens) (ps : List Text) (k : ℕ) → Parted bytes t n l ps → k < length ps → start ≡ start_of ps k → end ≡ start_of ps (suc k)

-- The part with that number, counted from 1, begins at start.
pub record StartsPart (bytes t : Text) (number start : ℕ) : Type 0 where
  pub within : start ≤ length t
  pub starts : (n : ℕ) (l : Lens) (ps : List Text) → Parted bytes t n l ps → 1 ≤ number → number ≤ length ps → start ≡ start_of ps (number - 1)

-- The sheet of the part with that number is in front in the buffer, if it fits.
pub record SheetOfPart (bytes t : Text) (number : ℕ) (before after : Text) (count : ℕ) : Type 0 where
  pub within : count ≤ length before
  pub sheet_is :
      (n : ℕ) (l : Lens) (ps : List Text)
      → Parted bytes t n l ps
      → 1 ≤ number
      → number ≤ length ps
      → let sheet = get l (get_or ps (number - 1) []) in
      length sheet ≤ length before
      → length before ≤ 4096
      → (count ≡ length sheet) × (after ≡ sheet ++ drop (length sheet) before)

-- The sheets of the chosen parts are in front in the buffer, if they fit.
pub record SheetOfParts (bytes t : Text) (choice : List ℕ) (after : Text) (count : ℕ) : Type 0 where
  pub within : count ≤ length after
  pub sheets_are :
      (n : ℕ) (l : Lens) (ps : List Text)
      → Parted bytes t n l ps
      → PartNumbers ps choice
      → length (joined (map (get l) (selected ps choice))) ≤ length after
      → length after ≤ 4096
      → take count after ≡ joined (map (get l) (selected ps choice))
