-- `builder::rows::put_class` meets its contract. Assumes nothing.
use native.Mathlib.Omega.{arith}
use mathlib.Core.Path.{refl}
use Rattle.builder.proofs.Steps.{class_put, put_by}
use Rattle.builder.proofs.rows.put_class.Goals as goal

pub returns : goal.returns
returns c = class_put c.args.i c.args.class (put_by _ c.args.i _ c.copy_from_slice.ensures.after refl (omega arith))
