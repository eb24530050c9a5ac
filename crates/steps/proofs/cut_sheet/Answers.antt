-- `steps::cut_sheet` meets its contract. Assumes nothing.
use native.Mathlib.Omega.{arith}
use Rattle.steps.proofs.Answers.{few_count}
use Rattle.steps.proofs.cut_sheet.Goals as goal

pub overflow_add-mid : goal.overflow_add-mid
overflow_add-mid c =
    omega (arith, few_count c.automaton_of-a.ensures c.requires.0, c.requires.1)

pub returns : goal.returns
returns c = rw (c.border.ensures, c.automaton_of-a.ensures)
