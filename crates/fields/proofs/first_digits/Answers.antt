-- `fields::first_digits` meets its contract. Assumes nothing.
use Rattle.std.proofs.Common.{◌≡◌, ◌∙◌, rules, tests}
use Rattle.std.proofs.lemmas.Iterator.{YieldsList-from_slice}
use Rattle.std.proofs.lemmas.Iterator.Consumers.{count_from_yields_List}
use Rattle.std.proofs.lemmas.Iterator.Search.{YieldsList-from_take_while}
use Rattle.std.proofs.lemmas.List.Folds.{length-prefix_len}
use Rattle.sections.specs.Afm.{is_digit}
use Rattle.fields.specs.Scan.{run}
use Rattle.fields.proofs.Scanning.{run_prefix, digits_front}
use Rattle.fields.proofs.first_digits.Goals as goal

pub returns-clause-digits : goal.returns-clause-digits
unfolding is_digit
returns-clause-digits c =
    let t = c.args.text.now in
    let count_is : c.count-count.result ≡ run is_digit t = count_from_yields_List c.take_while.result _ c.count-count.ensures.ran (YieldsList-from_take_while _ is_digit (YieldsList-from_slice t cc) c.take_while.ensures.closure c.take_while.ensures.done (λ x b q k. search (rules, tests))) ∙ length-prefix_len is_digit t ∙ run_prefix is_digit t in
    digits_front t c.count-count.result count_is
