-- What the functions of this crate promise: which calls they make, and document 02 (v) about what those gave. `Gave after answer text` says that a call answered
-- a result, whose text is that.
use Rattle.std.specs.Prelude.{◌≡◌, replicate}
use Rattle.semantics.specs.Text.{Text}
use Rattle.semantics.specs.Calls.{Answer as Outcome}
use Rattle.sections.specs.Afm.{squeezed, good, sheet_of, Section, section_of}
use Rattle.answers.specs.Outcomes.{GivesText}
use Rattle.engine.specs.Demand3.{Gave}
use Rattle.demands.specs.Demands.{then_call}
use Rattle.exchange.specs.declared.Exchange.{Exchange}

-- the buffer that each call gets: 'Texts go up to 65,535 bytes'
unfoldable pub blank : Text
blank = replicate 65535 0

-- The two calls were made, the second with the text that the first gave, and gave that: both answers, and every byte of both buffers. Where the first refused,
-- no second is made, and the refusal stands for both.
pub record Made (first : Outcome Text) (second : Text → Outcome Text) (r : Exchange) : Type 0 where
  pub first_made : GivesText first blank r.given r.first
  pub second_made : GivesText (then_call first second) blank r.again r.second

-- 'What we export we must import to the same sheet': wherever export gave a section for a sheet, import gives exactly that sheet for it.
pub record SameSheet (sheet : Text) (r : Exchange) : Type 0 where
  pub same_sheet : (x : Text) → Gave r.given r.first x → Gave r.again r.second sheet

-- 'a section exported after import keeps every pair in order'
pub record KeepsPairs (section : Text) (r : Exchange) : Type 0 where
  -- Wherever import gave a sheet for a section, export gives that section again, each run of spaces made one: 'On output one space separates fields'.
  pub same_section : (s : Text) → Gave r.given r.first s → Gave r.again r.second (squeezed section)
  -- The sheet between them has the pairs of the section, in its order, and so has the section that is given.
  pub same_pairs :
      (s : Text) (read : Section)
      → Gave r.given r.first s
      → section_of section ≡ good read
      → (sheet_of s ≡ good read.pairs) × (section_of (squeezed section) ≡ good read)
