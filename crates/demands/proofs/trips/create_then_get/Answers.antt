-- `demands::trips::create_then_get` meets its contract, by the law about get behind create. Assumes nothing.
use Rattle.semantics.specs.Calls.{get_call, create_call}
use Rattle.laws.specs.Demand3.{create_then_get}
use Rattle.demands.proofs.Following.{blank_is, gives_held, made, second_gave}
use Rattle.demands.proofs.trips.create_then_get.Goals as goal

pub get_of-second-requires : goal.get_of-second-requires
get_of-second-requires c = gives_held c.create-first.ensures

pub returns : goal.returns
returns c =
    let calls = made (create_call c.args.bytes.now c.args.sheet.now) (λ n t. get_call c.args.bytes.now t n) (blank_is c.filled-given.ensures) (blank_is c.filled-again.ensures) c.create-first.ensures c.get_of-second.ensures in record { made = calls; demand = record { takes_back = λ t. second_gave calls t _ (create_then_get _ _ t) } }
