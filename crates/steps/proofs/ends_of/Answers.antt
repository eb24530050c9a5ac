-- `steps::ends_of` meets its contract. Assumes nothing.
use Rattle.steps.proofs.ends_of.Goals as goal

pub returns : goal.returns
returns c =
    let part = c.automaton_of-part.ensures in
    record { last_is = rw (← part) c.ends_of.ensures.0; first_is = rw (← part) c.ends_of.ensures.1 }
