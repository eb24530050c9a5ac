-- `paths::find_leads` meets its contract. Assumes nothing.
use native.Mathlib.Omega.{arith}
use Rattle.language.specs.Sets.{short_leads}
use Rattle.paths.proofs.find_leads.Goals as goal

pub returns-then-bytes-a : goal.returns-then-bytes-a
returns-then-bytes-a c = short_leads (omega arith)

pub returns : goal.returns
returns c = c.fill_leads.ensures
