-- `language::step_back_asking` meets its contract, by the law of a step backward. The loop's invariant: the set has those below q that one of
-- `here` may follow. Assumes nothing.
use mathlib.Core.Path.{◌≡◌, refl}
use mathlib.Core.Bool.{true}
use borrow.Author.Rules.{rules}
use Rattle.std.proofs.Common.{tests}
use Rattle.positions.specs.Positions.{Shared}
use native.Mathlib.Omega.{arith}
use Rattle.laws.specs.Basics.{not_both}
use Rattle.language.proofs.Gathering.{gathered_none, gathered_more, gathered_at, grown_not, grown_with}
use Rattle.language.proofs.Leading.{asked, asked_none}
use Rattle.language.proofs.Steps.{behind_steps}
use Rattle.language.proofs.step_back_asking.Goals as goal
use Rattle.language.proofs.step_back_asking.Goals.{then-meets, else-meets}

pub returns-then-is_empty : goal.returns-then-is_empty
returns-then-is_empty c = record { stepped = λ r d t known. behind_steps c.requires d known (asked_none c.standing-here.ensures (c.is_empty.ensures.0 c.if-is_empty.true)) }

pub loop-q-init : goal.loop-q-init
loop-q-init c = gathered_none _ c.empty-set.result c.empty-set.ensures

pub loop-q-preserved : goal.loop-q-preserved
loop-q-preserved c =
    let next = c.follow-next.result in
    let here = c.standing-here.result in
    let met : c.meets.result ≡ true → Shared next here = λ e. let (p, small, follows, other) = c.meets.ensures.0 e in (p, small, follows, search (rules, tests)) in
    let told : Shared next here → c.meets.result ≡ true = λ (p, small, follows, held). c.meets.ensures.1 (p, small, follows, search (rules, tests)) in
    gathered_more _ c.loop-q.q c.loop-q.set c.if-meets.set c.loop-q.invariant
    (elim c.if-meets.branch [
      | then-meets w ↦
          rw w.set-is (grown_with _ c.loop-q.q c.loop-q.set w.with-set.result w.with-set.ensures (λ k g. g.itself) (record { itself = refl; met = rw c.follow-next.ensures at (met w.if-meets.true) }))
      | else-meets w ↦ rw w.set-is (grown_not _ c.loop-q.set (λ k g. not_both (told (rw c.follow-next.ensures g.met)) w.if-meets.false))
    ])

pub returns : goal.returns
returns c =
    let back = asked c.standing-here.ensures c.requires.few (gathered_at _ (omega arith) c.loop-q.invariant) in
    record { stepped = λ r d t known. behind_steps c.requires d known back }
