-- `walks::step_alone` meets its contract. Assumes nothing.
use Prim.Native.Nat.{◌<◌}
use native.Mathlib.Omega.{arith}
use Rattle.walks.proofs.Steps.{kept_alone, kept_more}
use Rattle.walks.proofs.step_alone.Goals as goal

pub returns-then-kept-gt0 : goal.returns-then-kept-gt0
returns-then-kept-gt0 c =
    let due = rw c.in-Some.is at c.requires.due_behind in
    (kept_alone c.in-Some.behind c.args.byte due.1 c.requires.steps_kept (omega (arith, c.ranges.byte)) c.if-steps-i.false c.if-kept-gt0.true, c.requires.steps_kept)

pub returns : goal.returns
returns c =
    let due = rw c.in-Some.is at c.requires.due_behind in
    let small : c.in_ok-p.p < 128 = omega (arith, c.in_ok-p.ensures.reads.inside, c.requires.room.few) in
    (c.in_ok-p.ensures, kept_more c.in-Some.behind c.args.byte due.1 c.requires.steps_kept (omega (arith, c.ranges.byte)) c.if-steps-i.false small c.in_ok-p.ensures)
