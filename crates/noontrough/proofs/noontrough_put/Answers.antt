use mathlib.Core.Path.{◌∙◌, ap}
use Rattle.noontrough.specs.Exports.{put_numbers_of}
use Rattle.noontrough.proofs.noontrough_put.Goals as goal

pub returns : goal.returns
returns c =
    record {
      numbers_are = c.from.ensures ∙ ap put_numbers_of c.put.ensures.answer_is;
      buffer_is = c.put.ensures.buffer_is;
    }
