-- `walks::walk_alone` meets its contract. The loop's invariant: the path has come as far as the walk that passed `passed` last, what may follow that is due, and the steps that are
-- kept are right. Assumes nothing.
use mathlib.Core.Path.{◌∙◌}
use native.Mathlib.Omega.{arith}
use Rattle.walks.proofs.Stepping.{walked_begins, walked_more, past_at, takes_alone}
use Rattle.walks.proofs.walk_alone.Goals as goal

pub loop-i-init : goal.loop-i-init
loop-i-init c = (walked_begins, tt, c.requires.steps_kept)

pub loop-i-preserved : goal.loop-i-preserved
loop-i-preserved c =
    let alone = c.in-Some.ensures.0 in (
      walked_more c.loop-i.invariant.0 (omega arith) (c.loop-i.auto.path ∙ c.requires.path_len) (past_at c.requires.room alone.reads.inside c.follow-due.ensures)
          (λ r d. takes_alone c.requires.room d _ (c.loop-i.invariant.0.so_far r d).set_is alone.reads alone.no_other),
      (omega (arith, alone.reads.inside, c.requires.room.few), c.follow-due.ensures),
      c.step_alone.ensures.1,
    )
