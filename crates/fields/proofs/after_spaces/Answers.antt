-- `fields::after_spaces` meets its contract. Assumes nothing.
use Rattle.std.proofs.Common.{◌≡◌, ◌∙◌, sym, ap, ℕ, drop, arith, rules, tests}
use Rattle.std.proofs.lemmas.Iterator.{YieldsList-from_slice}
use Rattle.std.proofs.lemmas.Iterator.Consumers.{count_from_yields_List}
use Rattle.std.proofs.lemmas.Iterator.Search.{YieldsList-from_take_while}
use Rattle.std.proofs.lemmas.List.Folds.{length-prefix_len}
use Rattle.texts.specs.Cutting.{rest_lent}
use Rattle.sections.proofs.Splitting.{is_space}
use Rattle.fields.specs.Scan.{run}
use Rattle.fields.proofs.Scanning.{run_prefix}
use Rattle.fields.proofs.after_spaces.Goals as goal

pub returns-then-count-eq0 : goal.returns-then-count-eq0
unfolding is_space
returns-then-count-eq0 c =
    let t = c.args.text.now in
    let count_is : c.count-count.result ≡ run is_space t = count_from_yields_List c.take_while.result _ c.count-count.ensures.ran (YieldsList-from_take_while _ is_space (YieldsList-from_slice t cc) c.take_while.ensures.closure c.take_while.ensures.done (λ x b q k. search (rules, tests))) ∙ length-prefix_len is_space t ∙ run_prefix is_space t in
    sym count_is ∙ c.if-count-eq0.true

pub returns : goal.returns
unfolding is_space
returns c =
    let t = c.args.text.now in
    let count_is : c.count-count.result ≡ run is_space t = count_from_yields_List c.take_while.result _ c.count-count.ensures.ran (YieldsList-from_take_while _ is_space (YieldsList-from_slice t cc) c.take_while.ensures.closure c.take_while.ensures.done (λ x b q k. search (rules, tests))) ∙ length-prefix_len is_space t ∙ run_prefix is_space t in
    (omega (arith, count_is, c.if-count-eq0.false), rest_lent t c.count-count.result ∙ ap (λ (n : ℕ). drop n t) count_is)
