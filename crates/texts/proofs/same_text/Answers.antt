use Rattle.std.proofs.Math.Path.{◌∙◌}
use Rattle.texts.proofs.Comparing.{pairs_same}
use Rattle.texts.proofs.same_text.Goals as goal

pub returns : goal.returns
returns c = c.eq.ensures ∙ pairs_same _ _
