-- `spelling::mark_layer` meets its contract. The loop's invariant: the entries so far are dealt with; which pairs come is told by the other table,
-- which stays. Assumes nothing.
use Rattle.spelling.proofs.Writing.{marked_more, comes_same}
use Rattle.spelling.proofs.mark_layer.Goals as goal

pub loop-pair-preserved : goal.loop-pair-preserved
loop-pair-preserved c =
    let args = c.args in
    let known = c.loop-pair.invariant in
    let same = comes_same args.search.quest.now args.search.leads.now args.alive.now c.loop-pair.alive args.i known.others in
    marked_more _ _ args.i args.byte args.layer.now known same c.mark.ensures
