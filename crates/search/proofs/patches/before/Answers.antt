-- `search::patches::before` meets its contract. Assumes nothing.
use borrow.Author.Tests.{lt-ltb, le-ltb}
use Rattle.search.specs.Pairs.{before_of}
use Rattle.search.proofs.patches.before.Goals as goal

pub returns-then-row-lt128 : goal.returns-then-row-lt128
unfolding before_of
returns-then-row-lt128 c = rw (lt-ltb c.args.row 128 c.if-row-lt128.true, c.set_at-rows.ensures, c.set_at.ensures)

pub returns : goal.returns
unfolding before_of
returns c = rw (le-ltb c.args.row 128 c.if-row-lt128.false, c.set_at-rows.ensures, c.set_at-2.ensures)
