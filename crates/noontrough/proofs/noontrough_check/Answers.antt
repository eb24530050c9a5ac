use mathlib.Core.Path.{◌∙◌, ap}
use Rattle.noontrough.specs.Exports.{numbers_of}
use Rattle.noontrough.proofs.noontrough_check.Goals as goal

pub returns : goal.returns
returns c = c.from.ensures ∙ ap numbers_of c.check.ensures
