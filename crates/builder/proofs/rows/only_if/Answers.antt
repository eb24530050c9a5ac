-- `builder::rows::only_if` meets its contract. Assumes nothing.
use Rattle.builder.proofs.rows.only_if.Goals as goal

pub returns-then-test : goal.returns-then-test
returns-then-test c q = rw c.if-test.true

pub returns-else-test : goal.returns-else-test
returns-else-test c q = rw c.if-test.false (c.empty.ensures q)
