-- What the functions of this crate, of `chosen` and of `afresh` promise: which calls they make, and demand 3's clauses about what those gave.
-- `Gave after answer text` says that a call answered a result, whose text is that.
use Rattle.std.specs.Prelude.{◌≡◌, List, map, ℕ, ◌≤◌, length, take, replicate}
use Rattle.semantics.specs.Text.{Text, joined, Different}
use Rattle.semantics.specs.Lens.{Lens, source, language, parts, get, entries}
use Rattle.semantics.specs.Calls.{gives, refuses, program, put_call}
use Rattle.semantics.specs.Calls.{Answer as Outcome}
use Rattle.semantics.specs.Tally.{Tally, put_tally}
use Rattle.laws.specs.Demand3.{OneRepeatedEntry}
use Rattle.laws.specs.Shuffle.{selected, PartNumbers}
use Rattle.answers.specs.Outcomes.{GivesText, GivesSource, untallied}
use Rattle.engine.specs.Demand3.{Gave}
use Rattle.noontrough.specs.Exports.{ExportsText, ExportsSource}
use Rattle.demands.specs.declared.trips.TwoCalls.{TwoCalls}
use Rattle.demands.specs.declared.Chosen.{Chosen}
use Rattle.demands.specs.declared.LinkedCalls.{LinkedCalls}

-- the buffer that each call gets
unfoldable pub blank : Text
blank = replicate 4096 0

-- 'The second call of a pair gets .. the text that the first one gave.' Where the first refused, no second is made, and the refusal stands for both.
unfoldable pub then_call : Outcome Text → (Text → Outcome Text) → Outcome Text
then_call (gives t) second = second t
then_call (refuses number node) second = refuses number node

-- The two calls were made, and gave that: both answers, and every byte of both buffers.
pub record Made (first : Outcome Text) (second : Text → Outcome Text) (r : TwoCalls) : Type 0 where
  pub first_made : GivesText first blank r.given r.first
  pub second_made : GivesText (then_call first second) blank r.again r.second

-- ---- Demand 3

-- 'wherever get gave a sheet for a source of at most 256 entries, putting that sheet back on it unedited gives exactly that source'. Nothing is asked of
-- its keys, so this holds too where they differ only by trailing spaces: document 02 (iv), 'putting back an unedited sheet must still change nothing'.
pub record Restores (bytes t : Text) (r : TwoCalls) : Type 0 where
  pub restores :
      (l : Lens)
      → program bytes ≡ gives l
      → length (entries l t) ≤ 256
      → (a : Text)
      → Gave r.given r.first a
      → Gave r.again r.second t

-- 'wherever put (on whatever old source) or create gave a source for a sheet, get takes exactly that sheet from the new source'; so 'key text itself is
-- copied untouched, spaces included' (document 02, iv).
pub record TakesBack (a : Text) (r : TwoCalls) : Type 0 where
  pub takes_back : (t : Text) → Gave r.given r.first t → Gave r.again r.second a

-- Put was made with the sheet that was put together, and gave that.
pub record PutMade (bytes t : Text) (r : Chosen) : Type 0 where
  pub put_made :
      GivesSource
      (put_call bytes (take r.length r.sheet) t 4096)
      (put_tally bytes (take r.length r.sheet) t)
      blank
      r.given
      r.answer

-- 'where the program is one repeated entry and a source of at most 256 entries and 4,096 bytes has keys that all differ, whichever of its sheet
-- entries are put back on it, none twice, 4,096 bytes at most, and in whatever order, put gives exactly those old entries set in that order'. The
-- choice is a list of part numbers, counted from 1. Keys differ if they do once trailing spaces are cut: document 02 (iv), 'A source whose keys differ
-- only by such spaces no longer counts as having different keys when its entries are shuffled'.
pub record SetsInOrder (bytes t : Text) (choice : List ℕ) (r : Chosen) : Type 0 where
  pub sets_in_order :
      (n : ℕ) (l : Lens)
      → OneRepeatedEntry bytes t n l
      → PartNumbers (parts (language source l) t) choice
      → Different choice
      → let chosen = selected (parts (language source l) t) choice in
      length (joined (map (get l) chosen)) ≤ 4096
      → (take r.length r.sheet ≡ joined (map (get l) chosen)) × Gave r.given (untallied r.answer) (joined chosen)

-- ---- The first clause again, about the linked calls

-- the counts of a call that gets the text that a first one gave; a refusal has none
unfoldable pub then_count : Outcome Text → (Text → Tally) → Tally
then_count (gives t) count = count t
then_count (refuses number node) count = record { kept = 0; made = 0; dropped = 0 }

pub record LinkedMade (first : Outcome Text) (second : Text → Outcome Text) (count : Text → Tally) (r : LinkedCalls) : Type 0 where
  pub first_made : ExportsText first blank r.given r.first
  pub second_made : ExportsSource (then_call first second) (then_count first count) blank r.again r.second

-- Number 0 says that get gave a sheet. Then put's number is 0, its text is the source, and every entry of it is kept.
pub record LinkedRestores (bytes t : Text) (r : LinkedCalls) : Type 0 where
  pub linked_restores :
      (l : Lens)
      → program bytes ≡ gives l
      → length (entries l t) ≤ 256
      → r.first.number ≡ 0
      → (r.second ≡ record { number = 0; node = 0; length = length t; kept = length (entries l t); made = 0; dropped = 0 })
      × (take (length t) r.again ≡ t)
