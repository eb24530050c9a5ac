-- `typing::questions::next` meets its contract. Assumes nothing.
use mathlib.Core.Path.{◌∙◌, ap}
use mathlib.Core.Bool.{Bool, ◌&&◌, ◌||◌}
use Rattle.positions.specs.Positions.{holds}
use Rattle.typing.proofs.questions.next.Goals as goal

pub returns : goal.returns
returns c = record { next_is = λ q. c.joined_if.ensures q ∙ ap (λ (t : Bool). c.args.marked.start && holds c.args.a.first q || t) (c.followers-next.ensures.holds_is q) }
