-- `table::rules::runs_ordered` meets its contract: each run is asked.
use Rattle.table.proofs.Runs.{in_order, YieldsList-from_pairs, runs_asked}
use Rattle.std.proofs.lemmas.Iterator.Search.{all_from_yields_List}
use Rattle.std.proofs.Common.{tests}
use mathlib.Core.Path.{◌∙◌}
use borrow.Author.Rules.{rules}
use Rattle.table.proofs.rules.runs_ordered.Goals as goal

pub returns : goal.returns
unfolding in_order
returns c = all_from_yields_List in_order _ _ _ c.all.ensures.ran (YieldsList-from_pairs c.args.pairs.now c.chunks.ensures.size c.chunks.ensures.rest) (λ x b q k. search (rules, tests)) ∙ runs_asked c.args.pairs.now
