-- `demands::trips::get_then_put` meets its contract, by the law about a sheet that is put back unedited. Assumes nothing.
use Rattle.semantics.specs.Calls.{get_call, put_call}
use Rattle.laws.specs.Demand3.{unedited}
use Rattle.demands.proofs.Following.{blank_is, gives_held, made, second_gave}
use Rattle.demands.proofs.trips.get_then_put.Goals as goal

pub put_of-second-requires : goal.put_of-second-requires
put_of-second-requires c = gives_held c.get-first.ensures

pub returns : goal.returns
returns c =
    let calls = made (get_call c.args.bytes.now c.args.source.now) (λ n a. put_call c.args.bytes.now a c.args.source.now n) (blank_is c.filled-given.ensures) (blank_is c.filled-again.ensures) c.get-first.ensures c.put_of-second.ensures in record { made = calls; demand = record { restores = λ l p n a. second_gave calls a _ (λ e. unedited _ _ a l e p n) } }
