-- `walks::past` meets its contract. Assumes nothing.
use mathlib.Core.Path.{refl, ◌∙◌}
use Rattle.language.proofs.Steps.{counted}
use Rattle.walks.proofs.past.Goals as goal

pub returns : goal.returns
returns c = record { at_is = refl; here_is = λ r d. c.has.ensures ∙ d.last_is _; set_is = λ r d q. rw c.follow.ensures ((d.row_is _ (counted c.requires.room d _ c.requires.p_lt_count)).follow_is q) }
