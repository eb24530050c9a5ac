-- `language::advance` meets its contract, by the law of a step forward. Assumes nothing.
use Rattle.language.proofs.Steps.{forward_steps}
use Rattle.language.proofs.advance.Goals as goal

pub returns : goal.returns
returns c = record { advanced = λ r d t known. forward_steps c.requires d known c.read-step.ensures.reached_are c.meets.ensures c.read-step.ensures.onward_are }
