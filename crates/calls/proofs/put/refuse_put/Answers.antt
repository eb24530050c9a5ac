-- `calls::put::refuse_put` meets its contract. Assumes nothing.
use mathlib.Core.Path.{ap, ◌∙◌}
use Rattle.std.specs.Prelude.{Err}
use Rattle.calls.proofs.put.refuse_put.Goals as goal

pub returns : goal.returns
returns c = c.uncounted.ensures ∙ ap Err c.refuse.ensures
