-- `counts::unused_in` meets its contract. Assumes nothing.
use Rattle.std.proofs.Common.{rules, ◌≡◌, ◌∙◌, not, take}
use Rattle.std.specs.List.{count_by}
use Rattle.counts.proofs.Counting.{unused_count}
use Rattle.counts.proofs.unused_in.Goals as goal

pub returns : goal.returns
returns c =
    let counted : c.count.result ≡ count_by not (take c.args.count c.args.used.now) = search rules in
    counted ∙ unused_count _
