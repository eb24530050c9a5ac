-- `search::patches::Patch::has` meets its contract. Assumes nothing.
use mathlib.Core.Path.{◌∙◌}
use borrow.Author.Tests.{le-leb, lt-leb}
use Rattle.laws.specs.Basics.{not_both}
use Rattle.search.specs.Pairs.{in_patch}
use Rattle.search.proofs.patches.Patch.has.Goals as goal
use Rattle.search.proofs.patches.Patch.has.Goals.{then-self-row, else-self-row}

pub returns-then-has : goal.returns-then-has
unfolding in_patch
returns-then-has c =
    let args = c.args in
    elim c.if-self-row.branch [
      | then-self-row w ↦
          rw (le-leb args.self.base args.row w.if-self-row.true, ← w.has.ensures, ← w.value-is, c.if-has.true) c.has-then-has.ensures
      | else-self-row w ↦ absurd (not_both c.if-has.true (w.value-is ∙ lt-leb args.self.base args.row w.if-self-row.false))
    ]

pub returns-else-has : goal.returns-else-has
unfolding in_patch
returns-else-has c =
    let args = c.args in
    elim c.if-self-row.branch [
      | then-self-row w ↦ rw (le-leb args.self.base args.row w.if-self-row.true, ← w.has.ensures, ← w.value-is, c.if-has.false)
      | else-self-row w ↦ rw (lt-leb args.self.base args.row w.if-self-row.false) c.if-has.false
    ]
