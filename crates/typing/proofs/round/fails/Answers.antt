-- `typing::round::fails` meets its contract. Assumes nothing.
use mathlib.Core.Path.{sym, ◌∙◌}
use Rattle.semantics.specs.Pattern.{star}
use Rattle.typing.proofs.Faults.{bad_empty, bad_cuts, read_speaks}
use Rattle.typing.proofs.round.fails.Goals as goal

pub returns-then-part : goal.returns-then-part
returns-then-part c r p q = bad_empty r (sym (read_speaks c.automaton_of-part.ensures p).nullable_is ∙ c.if-part.true)

pub returns : goal.returns
returns c r p q = bad_cuts r (sym (read_speaks c.automaton_of-part.ensures p).nullable_is ∙ c.if-part.false) (c.cut_twice.ensures r (star r) p q)
