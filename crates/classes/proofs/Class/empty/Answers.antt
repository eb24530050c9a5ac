-- `classes::Class::empty` meets its contract: both halves are empty. Assumes nothing.
use Rattle.classes.proofs.Bytes.{nothing}
use Rattle.classes.proofs.Class.empty.Goals as goal

pub returns : goal.returns
returns c = nothing _ c.empty.ensures c.empty-2.ensures
