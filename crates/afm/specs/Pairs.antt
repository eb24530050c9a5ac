-- The lines with a pair that stand first in a text: what is measured, and what they are written as.
use Rattle.std.specs.Prelude.{◌≡◌, [], ◌∷◌, ◌++◌, map, ◌+◌, ◌≤◌, length}
use Rattle.semantics.specs.Text.{Text, joined}
use Rattle.sections.specs.Afm.{space, semicolon, lines_of, Pair, sheet_line, kpx_line, write_sheet, kpx_word}
use Rattle.fields.specs.declared.Form.{Form}
use Rattle.fields.specs.declared.Form.TheVariants.{Kpx, Sheet}
use Rattle.fields.specs.Lines.{pairs_in}
use Rattle.afm.specs.declared.pair_lines.Measured.{Measured}

-- How many pairs stand first, how many bytes their lines have in a sheet, and the rest: what is read of it is what is read behind the pairs.
pub record Measures (form : Form) (t : Text) (m : Measured) : Type 0 where
  pub count_is : m.count ≡ length (pairs_in form t).pairs
  pub bytes_are : m.bytes ≡ length (write_sheet (pairs_in form t).pairs)
  pub behind_is : (pairs_in form t).behind ≡ (lines_of m.rest.now).ended
  pub rest_is : (lines_of t).rest ≡ (lines_of m.rest.now).rest
  pub few : m.count + length m.rest.now ≤ length t
  pub short : m.bytes + length m.rest.now ≤ length t

-- ---- A pair that is read in one form is written in the other

unfoldable pub lead_for : Form → Text
lead_for Kpx = []
lead_for Sheet = kpx_word ++ space ∷ []

unfoldable pub mark_for : Form → Text
mark_for Kpx = semicolon ∷ []
mark_for Sheet = space ∷ []

unfoldable pub line_for : Form → Pair → Text
line_for Kpx = sheet_line
line_for Sheet = kpx_line

-- the lines of the pairs that stand first in a text
unfoldable pub lines_for : Form → Text → Text
lines_for form t = joined (map (line_for form) (pairs_in form t).pairs)
