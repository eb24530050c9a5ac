use mathlib.Core.Path.{◌∙◌, ap}
use Rattle.noontrough.specs.Exports.{clash_numbers_of}
use Rattle.noontrough.proofs.noontrough_clash.Goals as goal

pub returns : goal.returns
returns c =
    record {
      numbers_are = c.from.ensures ∙ ap clash_numbers_of c.clash.ensures.answer_is;
      buffer_is = c.clash.ensures.buffer_is;
    }
