-- `classes::Class::minus` meets its contract: what each half of the one holds without that of the other. Assumes nothing.
use mathlib.Core.Bool.{not, ◌&&◌}
use Rattle.classes.proofs.Bytes.{each_half}
use Rattle.classes.proofs.Class.minus.Goals as goal

pub returns : goal.returns
returns c = each_half (λ x y. x && not y) c.args.self c.args.other _ c.minus.ensures c.minus-2.ensures
