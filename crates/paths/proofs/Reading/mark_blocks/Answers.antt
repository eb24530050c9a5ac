-- `paths::Reading::mark_blocks` meets its contract. The loop's invariant: the set is the one behind the blocks below k, and those behind the blocks from k on are kept.
-- Assumes nothing.
use native.Mathlib.Omega.{arith}
use Rattle.paths.proofs.Keeping.{behind_end, behind_whole, behind_start, behind_block, marked_none, marked_more, marked_from}
use Rattle.paths.proofs.Reading.mark_blocks.Goals as goal

pub loop-k-init : goal.loop-k-init
loop-k-init c = (behind_whole _ (omega (arith, c.div_ceil-k.ensures)) (behind_end c.args.self.now.room), marked_none (omega (arith, c.div_ceil-k.ensures)))

pub fill_block-behind-requires : goal.fill_block-behind-requires
fill_block-behind-requires c = record { start_le_end = (omega (arith, c.block_end-end.ensures), omega (arith, c.block_end-end.ensures), omega (arith, c.block_end-end.ensures, c.requires.in_bounds.0)); behind_at = behind_block (omega arith) c.block_end-end.ensures c.loop-k.invariant.0 }

pub loop-k-preserved : goal.loop-k-preserved
loop-k-preserved c = (behind_start _ (omega (arith, c.div_ceil-k.ensures)) c.fill_block-behind.ensures.0, marked_more (omega arith) c.loop-k.invariant.1 c.loop-k.invariant.0 c.keep.ensures)

pub returns : goal.returns
returns c = marked_from (omega arith) c.loop-k.invariant.1
