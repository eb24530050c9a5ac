-- The first and the last line of a section, and a section that is written for a sheet.
use Rattle.std.specs.Prelude.{◌≡◌, [], ◌∷◌, ◌++◌, ℕ, ◌+◌, ◌≤◌, length, Option, Some, None, IfSome}
use Rattle.std.proofs.Math.Option.{some}
use Rattle.semantics.specs.Text.{Text}
use Rattle.semantics.specs.Calls.{decimal}
use Rattle.sections.specs.Afm.{newline, space, lines_of, pairs_of, kpx_of, Read, good, bad, Section, section_end, section_from, section_of, start_word, end_word}
use Rattle.fields.specs.declared.Form.TheVariants.{Sheet}
use Rattle.afm.specs.declared.section.Start.{Start}
use Rattle.afm.specs.Pairs.{lines_for}

-- the section whose first line has that count, from the line behind it on
unfoldable pub section_behind : ℕ → Text → Read Section
section_behind count t = section_from (some count) (pairs_of kpx_of (lines_of t).ended) (lines_of t).rest

-- The first line is of its form: what it tells is read as the section.
pub record StartsAt (t : Text) (start : Start) : Type 0 where
  pub read : section_of t ≡ section_behind start.count start.lines.now
  pub within : length start.lines.now ≤ length t

-- what is read of a section behind its pairs, with n lines in front, where no line there is at fault, or the one of that number is
unfoldable pub faulty : Option ℕ → ℕ → Section → Read Section
faulty None n section = good section
faulty (Some line) n section = bad (n + line)

pub record EndFault (t : Text) (fault : Option ℕ) : Type 0 where
  pub end_is : (n : ℕ) (section : Section) → section_end n section (lines_of t).ended (lines_of t).rest ≡ faulty fault n section
  pub at_most : IfSome fault (λ line. line ≤ 2)

-- the section of a sheet with that count
unfoldable pub section_text : ℕ → Text → Text
section_text count sheet = (start_word ++ space ∷ decimal count ++ newline ∷ []) ++ lines_for Sheet sheet ++ end_word ++ newline ∷ []
