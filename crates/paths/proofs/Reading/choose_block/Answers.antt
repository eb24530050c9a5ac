-- `paths::Reading::choose_block` meets its contract. Assumes nothing.
use mathlib.Core.Path.{◌≡◌, ◌∙◌}
use native.Mathlib.Omega.{arith}
use borrow.Author.Rules.{rules}
use lib.ListN.{length}
use Rattle.paths.proofs.Ending.{walked_all}
use Rattle.paths.proofs.Keeping.{behind_end}
use Rattle.paths.proofs.Reading.choose_block.Goals as goal

pub fill_block-requires-clause-behind_at : goal.fill_block-requires-clause-behind_at
fill_block-requires-clause-behind_at c = behind_end c.args.self.now.room

pub returns-then-end-done : goal.returns-then-end-done
returns-then-end-done c =
    let all : c.walk_block-done.result.at ≡ length c.args.self.now.text.now = omega (arith, c.walk_block-done.ensures.to_end, c.if-end-done.true) in
    walked_all (c.walk_block-done.ensures.walked all) all ((search rules) ∙ c.requires.in_bounds.2)
