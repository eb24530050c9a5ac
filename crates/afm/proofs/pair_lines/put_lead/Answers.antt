-- `afm::pair_lines::put_lead` meets its contract. Assumes nothing.
use mathlib.Core.Path.{sym, ap}
use native.Mathlib.Omega.{arith}
use lib.ListN.{length}
use Rattle.lines.proofs.Texts.{puts_as}
use Rattle.afm.specs.Pairs.{lead_for}
use Rattle.afm.proofs.Putting.{puts_nothing}
use Rattle.afm.proofs.pair_lines.put_lead.Goals as goal

pub put_text-requires : goal.put_text-requires
unfolding lead_for
put_text-requires c = omega (arith, ap (λ form. length (lead_for form)) c.in-Sheet.is, c.requires)

pub returns-in-Kpx : goal.returns-in-Kpx
unfolding lead_for
returns-in-Kpx c = puts_as (sym (ap lead_for c.in-Kpx.is)) (puts_nothing c.args.at c.args.out.now)

pub returns-in-Sheet : goal.returns-in-Sheet
unfolding lead_for
returns-in-Sheet c = puts_as (sym (ap lead_for c.in-Sheet.is)) c.put_text.ensures
