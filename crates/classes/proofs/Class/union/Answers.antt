-- `classes::Class::union` meets its contract: what the halves of the two hold. Assumes nothing.
use mathlib.Core.Bool.{◌||◌}
use Rattle.classes.proofs.Bytes.{each_half}
use Rattle.classes.proofs.Class.union.Goals as goal

pub returns : goal.returns
returns c = each_half (◌||◌) c.args.self c.args.other _ c.union.ensures c.union-2.ensures
