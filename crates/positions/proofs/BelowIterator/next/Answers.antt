-- `next` of a walk over a set meets its contract: the first position that is left comes and goes. Assumes nothing.
use Rattle.std.proofs.Common.{◌<◌, arith}
use Rattle.positions.proofs.Walk.{done_at, one_fewer}
use Rattle.positions.proofs.BelowIterator.next.Goals as goal

pub returns-then-min-p-clause-steps : goal.returns-then-min-p-clause-steps
returns-then-min-p-clause-steps c = record { none_left = done_at c.first_from-p.ensures (omega arith) }

pub returns-clause-goes : goal.returns-clause-goes
returns-clause-goes c =
    let small : c.first_from-p.result < 128 = omega arith in
    let fewer = one_fewer _ _ c.first_from-p.result small c.first_from-p.ensures (c.rest-self.ensures _ c.first_from-p.ensures) in
    record { on = λ _. (tt, tt, omega arith); keeps = tt; rests = λ _. tt }
