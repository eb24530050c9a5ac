-- `table::sizes::over_one` meets its contract: the sizes of a node with one child.
use Rattle.table.proofs.sizes.over_one.Goals as goal

pub returns : goal.returns
returns c = let h = c.sized-child.ensures in record { size_is = rw h.size_is; source_is = h.source_is; sheet_is = h.sheet_is; match_is = h.match_is; kind_is = h.kind_is }
