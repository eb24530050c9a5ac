-- `classes::Class::run` meets its contract: the bytes from the first on, without those behind the last. Assumes nothing.
use mathlib.Core.Path.{ap₂, ◌∙◌}
use mathlib.Core.Bool.{not, ◌&&◌}
use native.Mathlib.Omega.{arith}
use Rattle.classes.proofs.Bytes.{from_to}
use Rattle.classes.proofs.Class.run.Goals as goal

pub returns : goal.returns
returns c byte =
    c.minus.ensures byte
    ∙ ap₂ (λ x y. x && not y) (c.from.ensures byte) (c.from-behind.ensures byte)
    ∙ from_to c.args.first c.args.last byte (omega arith)
