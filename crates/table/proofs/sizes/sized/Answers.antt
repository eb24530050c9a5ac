-- `table::sizes::sized` meets its contract: the four words.
use Rattle.table.specs.Rules.{word_of}
use native.Mathlib.Nat.{add-zero}
use mathlib.Core.Path.{refl}
use Prim.Native.Nat.{◌*◌}
use Rattle.table.proofs.sizes.sized.Goals as goal

pub returns : goal.returns
unfolding word_of
returns c = record { size_is = rw (add-zero (16 * c.args.a)); source_is = refl; sheet_is = refl; match_is = refl; kind_is = refl }
