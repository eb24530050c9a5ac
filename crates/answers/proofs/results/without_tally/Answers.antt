-- `answers::results::without_tally` meets its contract. Assumes nothing.
use borrow.Author.Rules.{rules}
use Rattle.answers.proofs.Giving.{left_out}
use Rattle.answers.proofs.results.without_tally.Goals as goal

pub returns : goal.returns
returns c = left_out c.args.answer _ _ c.map.ensures.cases (λ made length told. search rules)
