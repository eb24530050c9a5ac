use mathlib.Core.Path.{◌∙◌, ap}
use Rattle.noontrough.specs.Exports.{numbers_of}
use Rattle.noontrough.proofs.noontrough_afm_import.Goals as goal

pub returns : goal.returns
returns c =
    record {
      numbers_are = c.from.ensures ∙ ap numbers_of c.import.ensures.answer_is;
      buffer_is = c.import.ensures.buffer_is;
    }
