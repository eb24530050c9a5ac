-- `lens::read::read_by` meets its contract. Assumes nothing.
use mathlib.Core.Path.{refl}
use mathlib.Core.Logic.{inl, inr}
use Rattle.lens.specs.Nodes.{shown_match}
use Rattle.lens.proofs.read.read_by.Goals as goal

pub returns-in-Match : goal.returns-in-Match
returns-in-Match c = record { is = inr (shown_match c.node-read.ensures c.in-Match.is) }

pub returns : goal.returns
returns c = record { is = inl refl }
