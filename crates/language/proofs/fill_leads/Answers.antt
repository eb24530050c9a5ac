-- `language::fill_leads` meets its contract. The loop's invariant: the sets have those below q. Assumes nothing.
use native.Mathlib.Omega.{arith}
use Rattle.language.proofs.Leading.{led_begins, led_more, led_all}
use Rattle.language.proofs.fill_leads.Goals as goal

pub loop-q-init : goal.loop-q-init
loop-q-init c = led_begins c.requires.room c.requires.no_leads

pub loop-q-preserved : goal.loop-q-preserved
loop-q-preserved c = led_more c.loop-q.invariant c.lead_from.ensures

pub returns : goal.returns
returns c = led_all (omega arith) c.loop-q.invariant
