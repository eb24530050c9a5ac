-- `demands::trips::put_then_get` meets its contract, by the law about get behind put. Assumes nothing.
use Rattle.semantics.specs.Calls.{get_call, put_call}
use Rattle.laws.specs.Demand3.{put_then_get}
use Rattle.demands.proofs.Following.{blank_is, gives_plain, gives_held, made, second_gave}
use Rattle.demands.proofs.trips.put_then_get.Goals as goal

pub get_of-second-requires : goal.get_of-second-requires
get_of-second-requires c = gives_held (gives_plain c.put.ensures c.without_tally-first.ensures)

pub returns : goal.returns
returns c =
    let calls = made (put_call c.args.bytes.now c.args.sheet.now c.args.old.now) (λ n t. get_call c.args.bytes.now t n) (blank_is c.filled-given.ensures) (blank_is c.filled-again.ensures) (gives_plain c.put.ensures c.without_tally-first.ensures) c.get_of-second.ensures in record { made = calls; demand = record { takes_back = λ t. second_gave calls t _ (put_then_get _ _ _ t) } }
