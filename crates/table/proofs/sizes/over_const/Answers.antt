-- `table::sizes::over_const` meets its contract: the sizes of a const.
use mathlib.Core.Path.{refl}
use Rattle.table.proofs.sizes.over_const.Goals as goal

pub returns : goal.returns
returns c = record { size_is = rw c.sized-pattern.ensures.size_is; source_is = c.sized-pattern.ensures.source_is; sheet_is = c.sized-word.ensures.sheet_is; match_is = refl; kind_is = refl }
