-- `engine::rooms::refuse_with` meets its contract: Clash shows why, the other calls are refused. Assumes nothing.
use Rattle.engine.specs.Rooms.{Owed}
use Rattle.engine.proofs.Tries.{owes_as, refused_to}
use Rattle.engine.proofs.rooms.refuse_with.Goals as goal

pub returns-in-Clash : goal.returns-in-Clash
unfolding Owed
returns-in-Clash c = λ sheet source. owes_as c.in-Clash.is (record { owed = rw c.clashed.ensures c.clash_refused.ensures })

pub returns-in_default : goal.returns-in_default
returns-in_default c = λ sheet source. refused_to c.in_default.not-Clash c.requires.refuses_it c.uncounted.ensures
