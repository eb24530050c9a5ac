-- `afresh::linked::linked_get_then_put` meets its contract, by the law about a sheet that is put back unedited. Assumes nothing.
use Rattle.semantics.specs.Calls.{get_call, put_call}
use Rattle.laws.specs.Refusals.{get_named}
use Rattle.semantics.specs.Tally.{put_tally}
use Rattle.laws.specs.Demand3.{unedited}
use Rattle.laws.specs.Tally.{tally_unedited}
use Rattle.answers.specs.Outcomes.{put_answer_for}
use Rattle.demands.proofs.Following.{blank_is}
use Rattle.afresh.proofs.Following.{linked_held, linked_made, linked_gave}
use Rattle.afresh.proofs.linked.linked_get_then_put.Goals as goal

pub linked_put_of-second-requires : goal.linked_put_of-second-requires
linked_put_of-second-requires c = linked_held (get_named _ _ _) c.noontrough_get-first.ensures

pub returns : goal.returns
unfolding put_answer_for
returns c =
    let calls =
    linked_made
    (get_call c.args.table.now c.args.source.now)
    (λ n a. put_call c.args.table.now a c.args.source.now n)
    (λ a. put_tally c.args.table.now a c.args.source.now)
    (blank_is c.filled-given.ensures)
    (blank_is c.filled-again.ensures)
    (get_named _ _ _)
    c.noontrough_get-first.ensures
    c.linked_put_of-second.ensures in record { made = calls; demand = record { linked_restores = λ l p n. linked_gave calls (get_named _ _ _) _ _ (λ a e. (unedited _ _ a l e p n, tally_unedited _ _ a _ l p e)) } }
