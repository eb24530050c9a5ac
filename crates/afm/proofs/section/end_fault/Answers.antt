-- `afm::section/end_fault` meets its contract. Assumes nothing.
use borrow.Author.Rules.{rules}
use mathlib.Core.Path.{sym, ◌∙◌}
use Rattle.fields.specs.Runs.{pairs_same}
use Rattle.afm.proofs.Sections.{end_missing, end_behind}
use Rattle.afm.proofs.section.end_fault.Goals as goal

pub returns-in-Some : goal.returns-in-Some
returns-in-Some c =
    end_behind c.args.text.now (sym (pairs_same _ _) ∙ c.in-Some.ensures.cases.0) c.in-Some.behind.now c.then_some.result c.in-Some.ensures.cases.1 (λ empty. search rules) (λ more. search rules)

pub returns-in-None : goal.returns-in-None
returns-in-None c = end_missing c.args.text.now (sym (pairs_same _ _) ∙ c.in-None.ensures.cases)
