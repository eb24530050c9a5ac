-- `chosen::put_chosen` meets its contract, by the law about entries that are put back in another order. Assumes nothing.
use mathlib.Core.Path.{ap, ◌∙◌}
use borrow.Author.Rules.{rules}
use lib.ListN.{length}
use Rattle.demands.proofs.Following.{blank_is, blank_length}
use Rattle.chosen.proofs.Gathering.{put_made, sets_chosen}
use Rattle.chosen.proofs.put_chosen.Goals as goal

pub returns : goal.returns
returns c =
    let made = put_made (blank_is c.filled-given.ensures) c.put-answer.ensures in record { made = made; demand = sets_chosen ((search rules) ∙ ap length (blank_is c.filled-sheet.ensures) ∙ blank_length) c.sheet_of_parts-length.ensures made }
