-- `chosen::is_source` meets its contract: get refuses with 13 what is no source, and nothing else of at most 4,096 bytes. Assumes nothing.
use Rattle.chosen.proofs.Parting.{tells_result, tells_refusal}
use Rattle.chosen.proofs.is_source.Goals as goal

pub returns-in-Ok : goal.returns-in-Ok
returns-in-Ok c = tells_result c.get.ensures c.in-Ok.is

pub returns-in-Err : goal.returns-in-Err
returns-in-Err c = tells_refusal c.get.ensures c.in-Err.is
