-- `afm::section/start_line` meets its contract. Assumes nothing.
use Rattle.std.proofs.Common.{refl}
use Rattle.texts.specs.Cutting.{rest_lent}
use Rattle.afm.proofs.Sections.{none_of, no_word, no_number, no_newline, starts_at}
use Rattle.afm.proofs.section.start_line.Goals as goal

pub returns-in_err-behind_word : goal.returns-in_err-behind_word
returns-in_err-behind_word c = none_of _ c.from_residual.ensures (no_word c.args.text.now c.in_err-behind_word.ensures)

pub returns-in_err-found : goal.returns-in_err-found
returns-in_err-found c =
    none_of _ c.from_residual-in_err-found.ensures (no_number c.args.text.now c.in_ok-behind_word.ensures c.in_err-found.ensures.value)

pub returns-in_err-lines : goal.returns-in_err-lines
returns-in_err-lines c =
    none_of _ c.from_residual-in_err-lines.ensures (no_newline c.args.text.now c.in_ok-behind_word.ensures c.in_ok-found.ensures.value (rw (rest_lent c.in_ok-behind_word.behind_word.now c.in_ok-found.found.count) at c.in_err-lines.ensures.cases))

pub returns : goal.returns
returns c =
    let cases = rw (rest_lent c.in_ok-behind_word.behind_word.now c.in_ok-found.found.count) at c.in_ok-lines.ensures.cases in
    starts_at c.args.text.now c.in_ok-behind_word.ensures c.in_ok-found.ensures.value cases.0 cases.1 _ refl refl
