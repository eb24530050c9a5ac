-- `cuts::border` meets its contract. Assumes nothing.
use mathlib.Core.Path.{◌∙◌}
use lib.Dec.{leb}
use borrow.Author.Rules.{rules}
use borrow.Author.Tests.{tests}
use Rattle.std.proofs.lemmas.Iterator.{YieldsList-from_slice}
use Rattle.std.proofs.lemmas.Iterator.Search.{position_from_yields_List}
use Rattle.cuts.proofs.Readings.{border_found}
use Rattle.cuts.proofs.border.Goals as goal

pub returns : goal.returns
returns c =
    let found = position_from_yields_List (λ x. leb c.args.n x) _ _ _ c.position.ensures.ran (YieldsList-from_slice c.args.path.now cc) (λ x b q k. search (rules, tests)) in
    c.unwrap_or.ensures ∙ border_found c.args.n c.args.path.now found
