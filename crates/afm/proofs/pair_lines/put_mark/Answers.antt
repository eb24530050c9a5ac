-- `afm::pair_lines::put_mark` meets its contract. Assumes nothing.
use mathlib.Core.Path.{sym, ap}
use Rattle.lines.proofs.Texts.{puts_as}
use Rattle.afm.specs.Pairs.{mark_for}
use Rattle.afm.proofs.pair_lines.put_mark.Goals as goal

pub returns-in-Kpx : goal.returns-in-Kpx
unfolding mark_for
returns-in-Kpx c = puts_as (sym (ap mark_for c.in-Kpx.is)) c.put_text.ensures

pub returns-in-Sheet : goal.returns-in-Sheet
unfolding mark_for
returns-in-Sheet c = puts_as (sym (ap mark_for c.in-Sheet.is)) c.put_text-in-Sheet.ensures
