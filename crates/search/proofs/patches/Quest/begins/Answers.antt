-- `search::patches::Quest::begins` meets its contract: the pair is in one of the two patches. Assumes nothing.
use Rattle.search.specs.Pairs.{begins_in}
use Rattle.search.proofs.patches.Quest.begins.Goals as goal

pub returns-then-has : goal.returns-then-has
unfolding begins_in
returns-then-has c = rw (← c.has.ensures, c.if-has.true)

pub returns-else-has : goal.returns-else-has
unfolding begins_in
returns-else-has c = rw (← c.has.ensures, c.if-has.false) c.has-else-has.ensures
