-- `fields::after_word` meets its contract. Assumes nothing.
use Rattle.std.proofs.Common.{sym, ◌∙◌, inl}
use Rattle.fields.specs.Runs.{pairs_same}
use Rattle.fields.proofs.Scanning.{nothing, word_behind}
use borrow.Author.Rules.{rules}
use Rattle.fields.proofs.after_word.Goals as goal

pub returns-in_err-rest : goal.returns-in_err-rest
returns-in_err-rest c = nothing _ c.from_residual.ensures (inl (sym (pairs_same _ _) ∙ c.in_err-rest.ensures.cases))

pub returns : goal.returns
returns c =
    word_behind c.args.word.now c.args.text.now c.in_ok-rest.rest.now _ c.in_ok-rest.ensures.cases.0 c.in_ok-rest.ensures.cases.1 (search rules)
