-- `spelling::rows_of` meets its contract, for an early pair and for a late one. Assumes nothing.
use native.Mathlib.Omega.{arith}
use Rattle.spelling.proofs.Writing.{rows_early, rows_late}
use Rattle.spelling.proofs.rows_of.Goals as goal

pub overflow_add-result : goal.overflow_add-result
overflow_add-result c =
    omega (arith, rows_early c.args.quest.now c.args.pair c.if-row-lt128.true, c.requires.left.inside)

pub overflow_add-result-then-row-lt128 : goal.overflow_add-result-then-row-lt128
overflow_add-result-then-row-lt128 c =
    omega (arith, rows_early c.args.quest.now c.args.pair c.if-row-lt128.true, c.requires.right.inside)

pub returns-then-row-lt128 : goal.returns-then-row-lt128
returns-then-row-lt128 c = rows_early c.args.quest.now c.args.pair c.if-row-lt128.true

pub overflow_add-result-2 : goal.overflow_add-result-2
overflow_add-result-2 c =
    omega (arith, rows_late c.args.quest.now c.args.pair c.if-row-lt128.false, c.requires.left.inside)

pub overflow_add-result-3 : goal.overflow_add-result-3
overflow_add-result-3 c =
    omega (arith, rows_late c.args.quest.now c.args.pair c.if-row-lt128.false, c.requires.right.inside)

pub returns : goal.returns
returns c = rows_late c.args.quest.now c.args.pair c.if-row-lt128.false
