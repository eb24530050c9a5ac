-- `paths::Reading::walk_blocks` meets its contract. The loop's invariant: the path has come as far as the walk says. Assumes nothing.
use mathlib.Core.Path.{sym, ◌∙◌}
use mathlib.Core.Bool.{false≢true}
use native.Mathlib.Omega.{arith}
use borrow.Author.Rules.{rules}
use Rattle.paths.proofs.Ending.{walked_all}
use Rattle.paths.proofs.Keeping.{marked_from}
use Rattle.paths.proofs.Reading.walk_blocks.Goals as goal

pub loop-walk-init : goal.loop-walk-init
loop-walk-init c = (search rules, search rules, c.requires.walked, c.requires.marked)

pub fill_block-requires : goal.fill_block-requires
fill_block-requires c = record { start_le_end = (omega (arith, c.block_end-end.ensures), omega (arith, c.block_end-end.ensures), omega (arith, c.block_end-end.ensures, c.requires.in_bounds.0, c.loop-walk.invariant.0)); behind_at = rw (c.block_end-end.ensures, c.set_at-behind.ensures) (c.loop-walk.invariant.3.behind _ (omega arith) (omega (arith, c.loop-walk-test.true))) }

pub walk_block-walk-requires : goal.walk_block-walk-requires
walk_block-walk-requires c = record { start_le_at = (omega arith, omega (arith, c.block_end-end.ensures, c.loop-walk-test.true), omega (arith, c.block_end-end.ensures), omega (arith, c.block_end-end.ensures, c.requires.in_bounds.0, c.loop-walk.invariant.0)); filled = c.fill_block.ensures.1; path_len = c.loop-walk.invariant.1 ∙ c.requires.path_len; walked = c.loop-walk.invariant.2 }

pub shape_of-sets-then-walk-end : goal.shape_of-sets-then-walk-end
shape_of-sets-then-walk-end c = (search rules) ∙ c.loop-walk.invariant.0

pub shape_of-path-then-walk-end : goal.shape_of-path-then-walk-end
shape_of-path-then-walk-end c = (search rules) ∙ c.loop-walk.invariant.1

pub returns-then-walk-end : goal.returns-then-walk-end
returns-then-walk-end c = record { found_is = λ r d. sym (c.walk_block-walk.ensures.stuck (λ e. omega (arith, c.if-walk-end.true)) r d); path_is = λ e. absurd (false≢true e) }

pub loop-walk-smaller : goal.loop-walk-smaller
loop-walk-smaller c = omega (arith, c.walk_block-walk.ensures.to_end, c.block_end-end.ensures, c.if-walk-end.false, c.loop-walk-test.true)

pub loop-walk-preserved : goal.loop-walk-preserved
loop-walk-preserved c = ((search rules) ∙ c.loop-walk.invariant.0, (search rules) ∙ c.loop-walk.invariant.1, c.walk_block-walk.ensures.walked (omega (arith, c.walk_block-walk.ensures.to_end, c.if-walk-end.false)), marked_from (omega (arith, c.block_end-end.ensures, c.walk_block-walk.ensures.to_end, c.if-walk-end.false, c.loop-walk-test.true)) c.loop-walk.invariant.3)

pub returns : goal.returns
returns c = walked_all c.loop-walk.invariant.2 (omega (arith, c.loop-walk-test.false, c.loop-walk.invariant.2.within)) (c.loop-walk.invariant.1 ∙ c.requires.path_len)
