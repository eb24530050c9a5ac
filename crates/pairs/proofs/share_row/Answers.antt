-- `pairs::share_row` meets its contract: a position with the same bytes as the one before it has its row. Assumes nothing.
use mathlib.Core.Path.{sym, ◌∙◌}
use Rattle.pairs.proofs.Spreads.{last_alike, shares_last}
use Rattle.pairs.proofs.share_row.Goals as goal

pub overflow_sub-x : goal.overflow_sub-x
overflow_sub-x c = (last_alike c.args.prepared.now c.args.start c.args.x (sym c.same_as_last.ensures ∙ c.if-same_as_last.true)).0

pub returns-then-same_as_last : goal.returns-then-same_as_last
returns-then-same_as_last c = rw c.row.ensures (shares_last (sym c.same_as_last.ensures ∙ c.if-same_as_last.true) c.requires.shares)
