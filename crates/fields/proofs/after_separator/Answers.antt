-- `fields::after_separator` meets its contract. Assumes nothing.
use Rattle.fields.proofs.Scanning.{separator_of_spaces, separator_of_mark}
use Rattle.fields.proofs.after_separator.Goals as goal

pub returns-in-Kpx : goal.returns-in-Kpx
returns-in-Kpx c = rw c.in-Kpx.is (separator_of_spaces c.args.text.now c.after_spaces.result c.after_spaces.ensures)

pub returns-in-Sheet : goal.returns-in-Sheet
returns-in-Sheet c = rw c.in-Sheet.is (separator_of_mark c.args.text.now c.strip_prefix.result c.strip_prefix.ensures.cases)
