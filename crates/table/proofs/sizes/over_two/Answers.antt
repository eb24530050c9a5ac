-- `table::sizes::over_two` meets its contract: the sizes of a node with two children.
use mathlib.Core.Path.{refl, ◌∙◌, sym}
use Rattle.table.proofs.sizes.over_two.Goals as goal

pub returns-then-left : goal.returns-then-left
returns-then-left c =
    let l = c.sized-left.ensures in
    let r = c.sized-right.ensures in
    record {
      size_is = rw (l.size_is, r.size_is);
      source_is = rw (l.source_is, r.source_is);
      sheet_is = rw (l.sheet_is, r.sheet_is);
      match_is = c.if-left.true ∙ rw (sym l.match_is ∙ c.if-left.true);
      kind_is = refl;
    }

pub returns-else-left : goal.returns-else-left
returns-else-left c =
    let l = c.sized-left.ensures in
    let r = c.sized-right.ensures in
    record {
      size_is = rw (l.size_is, r.size_is);
      source_is = rw (l.source_is, r.source_is);
      sheet_is = rw (l.sheet_is, r.sheet_is);
      match_is = r.match_is ∙ rw (sym l.match_is ∙ c.if-left.false);
      kind_is = refl;
    }
