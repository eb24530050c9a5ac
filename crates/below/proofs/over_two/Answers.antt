-- `below::over_two` meets its contract. Assumes nothing.
use mathlib.Core.Bool.{◌||◌}
use mathlib.Core.Path.{◌≡◌, ◌∙◌}
use Rattle.std.proofs.Math.Bool.{or_assoc}
use Rattle.below.proofs.Lower.{over_two}
use Rattle.below.proofs.over_two.Goals as goal
use Rattle.below.proofs.over_two.Goals.{then-union, else-union, then-a, else-a}

pub returns : goal.returns
returns c =
    let first : c.if-union.value ≡ (c.args.union || c.at_node-a.result.union) =
    elim c.if-union.branch [ then-union w ↦ rw (w.value-is, w.if-union.true) | else-union w ↦ rw (w.value-is, w.if-union.false) ] in
    let both : c.if-a.result ≡ (c.if-union.value || c.at_node-b.result.union) =
    elim c.if-a.branch [ then-a w ↦ rw (w.result-is, w.if-a.true) | else-a w ↦ rw (w.result-is, w.if-a.false) ] in
    over_two c.at_node-a.ensures c.at_node-b.ensures c.union.ensures (both ∙ rw (first, or_assoc)) c.of_two.ensures
