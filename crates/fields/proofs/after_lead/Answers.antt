-- `fields::after_lead` meets its contract. Assumes nothing.
use Rattle.std.proofs.Common.{refl}
use Rattle.fields.specs.Scan.{lead_length}
use Rattle.fields.proofs.Scanning.{lead_of_word}
use Rattle.fields.proofs.after_lead.Goals as goal

pub returns-in-Kpx : goal.returns-in-Kpx
returns-in-Kpx c = rw c.in-Kpx.is (lead_of_word c.args.text.now c.after_word.result c.after_word.ensures)

pub returns-in-Sheet : goal.returns-in-Sheet
unfolding lead_length
returns-in-Sheet c = rw c.in-Sheet.is refl
