-- `pairs::next_due` meets its contract. Assumes nothing.
use Rattle.pairs.proofs.Spreads.{next_none}
use Rattle.pairs.proofs.next_due.Goals as goal

pub returns-then-next-lt-SIZE : goal.returns-then-next-lt-SIZE
returns-then-next-lt-SIZE c = c.first_from-next.ensures.held c.if-next-lt-SIZE.true

pub returns-then-first-lt-SIZE : goal.returns-then-first-lt-SIZE
returns-then-first-lt-SIZE c = c.first_from-first.ensures.held c.if-first-lt-SIZE.true

pub returns : goal.returns
returns c = next_none c.first_from-first.ensures c.if-first-lt-SIZE.false
