-- `pairs::joined_if` meets its contract. Assumes nothing.
use Rattle.pairs.proofs.joined_if.Goals as goal

pub returns-then-test : goal.returns-then-test
returns-then-test c = λ q. rw c.if-test.true (c.union.ensures q)

pub returns : goal.returns
returns c = λ q. rw c.if-test.false
