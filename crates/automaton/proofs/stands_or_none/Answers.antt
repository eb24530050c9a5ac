-- `automaton::stands_or_none` meets its contract: the byte, if it may stand there. Assumes nothing.
use mathlib.Core.Path.{sym, ◌∙◌}
use Rattle.laws.specs.Basics.{cond_true, cond_false}
use Rattle.automaton.specs.Rows.{stands_or_none}
use Rattle.automaton.proofs.stands_or_none.Goals as goal

pub returns-then-stands : goal.returns-then-stands
unfolding stands_or_none
returns-then-stands c = sym (cond_true _ _ _ (sym c.stands.ensures ∙ c.if-stands.true))

pub returns : goal.returns
unfolding stands_or_none
returns c = sym (cond_false _ _ _ (sym c.stands.ensures ∙ c.if-stands.false))
