-- `ends::pass` meets its contract. Assumes nothing.
use native.Mathlib.Omega.{arith}
use Rattle.ends.proofs.Forward.{read_more}
use Rattle.ends.proofs.pass.Goals as goal

pub returns : goal.returns
returns c = (omega arith, read_more c.requires.at_in_bounds c.requires.read_to c.advance.ensures)
