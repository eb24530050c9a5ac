-- `classes::Class::first_shared` meets its contract: the first byte that the lower halves share, else that of the upper ones. Assumes nothing.
use Rattle.classes.proofs.Bytes.{shared_below, shared_above, shared_none}
use Rattle.classes.proofs.Class.first_shared.Goals as goal

pub returns-then-below-lt-SIZE : goal.returns-then-below-lt-SIZE
returns-then-below-lt-SIZE c = shared_below c.args.self c.args.other _ c.intersect.ensures _ c.first_from-below.ensures c.if-below-lt-SIZE.true

pub returns-then-above-lt-SIZE : goal.returns-then-above-lt-SIZE
returns-then-above-lt-SIZE c = shared_above c.args.self c.args.other _ c.intersect.ensures _ c.first_from-below.ensures _ c.intersect-2.ensures _ c.first_from-above.ensures c.if-below-lt-SIZE.false c.if-above-lt-SIZE.true

pub returns : goal.returns
returns c = shared_none c.args.self c.args.other _ c.intersect.ensures _ c.first_from-below.ensures _ c.intersect-2.ensures _ c.first_from-above.ensures c.if-below-lt-SIZE.false c.if-above-lt-SIZE.false
