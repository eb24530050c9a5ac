-- `fields::name_length` meets its contract. Assumes nothing.
use Rattle.std.proofs.Common.{◌≡◌, ◌∙◌, rules, tests}
use Rattle.std.proofs.lemmas.Iterator.{YieldsList-from_slice}
use Rattle.std.proofs.lemmas.Iterator.Consumers.{count_from_yields_List}
use Rattle.std.proofs.lemmas.Iterator.Search.{YieldsList-from_take_while}
use Rattle.std.proofs.lemmas.List.Folds.{length-prefix_len}
use Rattle.sections.specs.Afm.{is_name_byte}
use Rattle.fields.specs.Scan.{run}
use Rattle.fields.proofs.Scanning.{run_prefix, name_found}
use Rattle.fields.proofs.name_length.Goals as goal

pub returns : goal.returns
returns c =
    let t = c.args.text.now in
    let count_is : c.count-count.result ≡ run is_name_byte t = count_from_yields_List c.take_while.result _ c.count-count.ensures.ran (YieldsList-from_take_while _ is_name_byte (YieldsList-from_slice t cc) c.take_while.ensures.closure c.take_while.ensures.done (λ x b q k. search (rules, tests))) ∙ length-prefix_len is_name_byte t ∙ run_prefix is_name_byte t in
    rw c.then_some.ensures (name_found t c.count-count.result c.contains.result count_is (λ within. search rules) (λ beyond some short. search rules))
