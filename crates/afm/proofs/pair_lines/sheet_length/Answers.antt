-- `afm::pair_lines::sheet_length` meets its contract. Assumes nothing.
use native.Mathlib.Omega.{arith}
use Rattle.fields.specs.Lines.{pair_in}
use Rattle.afm.proofs.Measuring.{sheet_length}
use Rattle.afm.proofs.pair_lines.sheet_length.Goals as goal

pub overflow_add-result-2 : goal.overflow_add-result-2
overflow_add-result-2 c = omega (arith, sheet_length (pair_in c.args.line), c.requires)

pub overflow_add-result-3 : goal.overflow_add-result-3
overflow_add-result-3 c = omega (arith, sheet_length (pair_in c.args.line), c.requires)

pub returns : goal.returns
returns c = omega (arith, sheet_length (pair_in c.args.line))
