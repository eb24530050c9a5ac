-- What the calls that give a text have in common: the text is made in a slice of the call's own, and then copied out.
use Rattle.std.specs.Prelude.{◌≡◌, Bool, true, List, ℕ, ◌-◌, ◌≤◌, min, length, Some, Ok}
use Rattle.semantics.specs.Text.{Text}
use Rattle.semantics.specs.Pattern.{matches}
use Rattle.semantics.specs.Lens.{Lens, language}
use Rattle.semantics.specs.Lens.{Side as SideOf}
use Rattle.semantics.specs.Table.{node_count}
use Rattle.semantics.specs.Calls.{gives, program, max_text, output}
use Rattle.automaton.specs.declared.Side.{Side}
use Rattle.automaton.specs.Rows.{side_of}
use Rattle.texts.specs.Overlay.{Wrote, Writes}
use Rattle.lens.specs.Parsed.{Parsed}
use Rattle.answers.specs.Outcomes.{Answer, GivesText}

-- The bytes that were counted are in the slice.
pub record Counted (wrote : Wrote) (result : Text) : Type 0 where
  pub within : (n : ℕ) → wrote ≡ Some n → n ≤ length result

-- Whatever text was written into the slice, a slice as long as a result may be, it is given or refused as document 01 says; a result is what was counted.
pub record Finishes (wrote : Wrote) (result before after : Text) (answer : Answer) : Type 0 where
  pub finishes :
      (text start : Text)
      → length result ≡ min (length before) max_text
      → Writes text start result wrote
      → GivesText (output (length before) text) before after answer
  pub told : (n : ℕ) → answer ≡ Ok n → wrote ≡ Some n

-- It tells whether the text belongs to the root's language on that side; if so, the path is its least.
pub record RootPath (bytes : Text) (side : Side) (text : Text) (path : List ℕ) (answer : Bool) : Type 0 where
  pub decides : (l : Lens) → program bytes ≡ gives l → answer ≡ matches (language (side_of side) l) text
  pub parsed : answer ≡ true → Parsed bytes (node_count bytes - 1) (side_of side) 0 path text

-- A text of at most 4,096 bytes that belongs to the root on a side, and its least path.
pub record TextReady (bytes : Text) (side : SideOf) (text : Text) (path : List ℕ) : Type 0 where
  pub short : length text ≤ max_text
  pub parsed : Parsed bytes (node_count bytes - 1) side 0 path text

-- What the root makes is written into a slice.
pub record Makes (bytes : Text) (make : Lens → Text) (before after : Text) (wrote : Wrote) : Type 0 where
  pub makes : (l : Lens) → program bytes ≡ gives l → Writes (make l) before after wrote

-- What the root makes is given, or refused for its length.
pub record GivesMade (bytes : Text) (make : Lens → Text) (before after : Text) (answer : Answer) : Type 0 where
  pub gives_made : (l : Lens) → program bytes ≡ gives l → GivesText (output (length before) (make l)) before after answer
